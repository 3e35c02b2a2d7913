-- The members of a report one by one make its text.
use Rattle.std.proofs.Common.{◌≡◌, ℕ, Bool, true, false, List, [], ◌∷◌, ◌++◌, map, codes, length, drop, get_or, ◌+◌, ◌<◌, sym, ap, ◌∙◌, arith, add-one, drop-cons, Result, Ok, Err, OnOk, is_ok, if◌then◌else◌}
use Rattle.std.proofs.lemmas.List.{append_assoc}
use Rattle.json.specs.Print.{quoted}
use Rattle.serde_json.specs.Data.{Data, Members, member, no_members}
use Rattle.serde_json.specs.View.{items_of}
use Rattle.serde_json.specs.Written.{comma_if, compact_text, items_text, members_text}
use Rattle.sx_report.specs.declared.facts.MomentFacts.{MomentFacts}
use Rattle.sx_report.specs.Facts.{Facts}
use Rattle.sx_report.specs.Report.{count, file_data, journal_data, moment_data, moments_data, wal_data, report_text}
use Rattle.sx_report.specs.Rest.{end_text, front_text, item_text, name_text, member_text, moments_rest}

-- a member, and what stands behind it
behind : (later : Bool) (name : List ℕ) (text rest : List ℕ) → (comma_if later ++ (quoted name ++ 58 ∷ text)) ++ rest ≡ comma_if later ++ (quoted name ++ 58 ∷ (text ++ rest))
behind later name text rest =
    append_assoc (comma_if later) (quoted name ++ 58 ∷ text) rest
    ∙ ap (λ t. comma_if later ++ t) (append_assoc (quoted name) (58 ∷ text) rest)

member_more : (later : Bool) (name : List ℕ) (value : Data) (members : Members) → member_text later name value ++ members_text true members ≡ members_text later (member name value members)
unfolding member_text
member_more later name value members = behind later name (compact_text value) (members_text true members)

-- the text of the moments closes their list, and the members go on behind it
list_more : (later : Bool) (name : List ℕ) (moments : List MomentFacts) (members : Members)
    → (name_text later name ++ 91 ∷ moments_rest false moments) ++ members_text true members ≡ members_text later (member name (moments_data moments) members)
unfolding name_text moments_rest
list_more later name moments members =
    ap (λ t. t ++ members_text true members)
    (append_assoc (comma_if later) (quoted name ++ 58 ∷ []) (91 ∷ items_text false (items_of (map moment_data moments)))
    ∙ ap (λ t. comma_if later ++ t) (append_assoc (quoted name) (58 ∷ []) (91 ∷ items_text false (items_of (map moment_data moments)))))
    ∙ behind later name (91 ∷ items_text false (items_of (map moment_data moments))) (members_text true members)

-- the members behind the moments
abbrev last_members : Facts → Members
last_members facts = member (codes "pagesize") (count facts.page_size) (member (codes "usable") (count facts.usable) (member (codes "wal") (wal_data facts.wal) no_members))

end_is : (facts : Facts) → end_text facts ≡ members_text true (last_members facts)
unfolding end_text
end_is facts =
    let wal = member_more true (codes "wal") (wal_data facts.wal) no_members in
    let usable = member_more true (codes "usable") (count facts.usable) (member (codes "wal") (wal_data facts.wal) no_members) in
    ap (λ t. member_text true (codes "pagesize") (count facts.page_size) ++ (member_text true (codes "usable") (count facts.usable) ++ t)) wal
    ∙ ap (λ t. member_text true (codes "pagesize") (count facts.page_size) ++ t) usable
    ∙ member_more true (codes "pagesize") (count facts.page_size) (member (codes "usable") (count facts.usable) (member (codes "wal") (wal_data facts.wal) no_members))

-- and those before them, with what stands behind
front_more : (facts : Facts) (members : Members)
    → front_text facts ++ members_text true members
    ≡ 123 ∷ members_text false (member (codes "candidates") (count facts.candidates) (member (codes "database") (file_data facts.database) (member (codes "journal") (journal_data facts.journal) members)))
unfolding front_text
front_more facts members =
    let one = member_text false (codes "candidates") (count facts.candidates) in
    let two = member_text true (codes "database") (file_data facts.database) in
    let three = member_text true (codes "journal") (journal_data facts.journal) in
    let rest = members_text true members in
    let journal = member_more true (codes "journal") (journal_data facts.journal) members in
    let database = member_more true (codes "database") (file_data facts.database) (member (codes "journal") (journal_data facts.journal) members) in
    ap (λ t. 123 ∷ t)
    (append_assoc one (two ++ three) rest
    ∙ ap (λ t. one ++ t) (append_assoc two three rest)
    ∙ ap (λ t. one ++ (two ++ t)) journal
    ∙ ap (λ t. one ++ t) database
    ∙ member_more false (codes "candidates") (count facts.candidates) (member (codes "database") (file_data facts.database) (member (codes "journal") (journal_data facts.journal) members)))

pub report_joined : (facts : Facts)
    → (front_text facts ++ (name_text true (codes "moments") ++ 91 ∷ moments_rest false facts.moments)) ++ end_text facts ≡ report_text facts
unfolding report_text
report_joined facts =
    let list = name_text true (codes "moments") ++ 91 ∷ moments_rest false facts.moments in
    append_assoc (front_text facts) list (end_text facts)
    ∙ ap (λ t. front_text facts ++ (list ++ t)) (end_is facts)
    ∙ ap (λ t. front_text facts ++ t) (list_more true (codes "moments") facts.moments (last_members facts))
    ∙ front_more facts (member (codes "moments") (moments_data facts.moments) (last_members facts))

-- ---- the moments one by one

drop_at : (moments : List MomentFacts) (i : ℕ) (d : MomentFacts) → i < length moments → drop i moments ≡ get_or moments i d ∷ drop (i + 1) moments
drop_at moments i d within = drop-cons moments i d within ∙ ap (λ (k : ℕ). get_or moments i d ∷ drop k moments) (sym (add-one i))

item_more : (later : Bool) (moment : MomentFacts) (moments : List MomentFacts) → item_text later moment ++ moments_rest true moments ≡ moments_rest later (moment ∷ moments)
unfolding moments_rest item_text
item_more later moment moments = append_assoc (comma_if later) (compact_text (moment_data moment)) (items_text true (items_of (map moment_data moments)))

-- the next moment was put
pub item_put : (later : Bool) (moments : List MomentFacts) (i : ℕ) (d : MomentFacts) (old new whole : List ℕ) → i < length moments
    → old ++ moments_rest later (drop i moments) ≡ whole → new ≡ old ++ item_text later (get_or moments i d)
    → new ++ moments_rest true (drop (i + 1) moments) ≡ whole
item_put later moments i d old new whole within is put =
    let moment = get_or moments i d in
    let rest = drop (i + 1) moments in
    ap (λ t. t ++ moments_rest true rest) put
    ∙ append_assoc old (item_text later moment) (moments_rest true rest)
    ∙ ap (λ t. old ++ t) (item_more later moment rest)
    ∙ ap (λ (list : List MomentFacts). old ++ moments_rest later list) (sym (drop_at moments i d within))
    ∙ is

-- none was left
items_put : (later : Bool) (moments : List MomentFacts) (old new whole : List ℕ) → length moments ≡ 0 → old ++ moments_rest later moments ≡ whole → new ≡ old ++ 93 ∷ [] → new ≡ whole
unfolding moments_rest
items_put later [] old new whole none is put = put ∙ is
items_put later (moment ∷ moments) old new whole none is put = absurd (omega arith)

pub closed : {T E : Type 0} (r : Result T E) (later : Bool) (moments : List MomentFacts) (old new whole : List ℕ) → length moments ≡ 0 → old ++ moments_rest later moments ≡ whole
    → new ≡ (if is_ok r then old ++ 93 ∷ [] else old) → OnOk r (new ≡ whole)
closed (Ok x) later moments old new whole none is put = items_put later moments old new whole none is put
closed (Err e) later moments old new whole none is put = tt
