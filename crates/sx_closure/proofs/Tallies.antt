-- What a tally keeps of the targets that it has counted.
use Rattle.std.proofs.Common.{◌≡◌, ℕ, ◌+◌, ◌-◌, ◌^◌, ◌≤◌, ◌||◌, ◌==◌, Bool, true, false, not, cond, min, List, [], ◌∷◌, ◌++◌, length, map, filter, set, get_or, replicate, length-append, Option, Some, None, is_some, refl, sym, ap, ◌∙◌, arith, add-one, zero-add, fold}
use Rattle.std.specs.Option.{option_map}
use Rattle.std.specs.List.{list_any}
use Rattle.std.proofs.lemmas.Bool.{eqb-true, eq-eqb, or_parts}
use Rattle.std.proofs.lemmas.List.Elements.{filter-append}
use Rattle.std.proofs.lemmas.List.Sums.{fold-append}
use Rattle.sx_base.specs.declared.role.Role.{Role}
use Rattle.sx_base.specs.declared.role.Role.TheVariants.{Node, Overflow, Trunk, FreeLeaf, PointerMap}
use Rattle.sx_closure.specs.declared.pair.Pair.{Pair}
use Rattle.sx_closure.specs.declared.pair.Target.{Target}
use Rattle.sx_closure.specs.declared.table.Marks.{Marks}
use Rattle.sx_closure.specs.declared.table.Entry.{Entry}
use Rattle.sx_closure.specs.Graph.{role_number, same_pair, is_named, is_held, is_reference, to_page}
use Rattle.sx_closure.proofs.Pairs.{or_true, or_false, or_none, or_assoc, flipped}
use Rattle.sx_closure.specs.Tallying.{is_marked, with_mark, blank, counted, rank_of, Tallied, added_at, added}

blank_case : (role : Role) (a : Bool) → (is_marked blank.marks role || a) ≡ a
blank_case Node a = refl
blank_case Overflow a = refl
blank_case Trunk a = refl
blank_case FreeLeaf a = refl
blank_case PointerMap a = refl

named_case : (pair : Pair) (target : Target) (others : List Target) (t : Bool) → (target.pair.page == pair.page) ≡ t
    → list_any (λ x. role_number pair.role == role_number x.pair.role) (cond (target.pair.page == pair.page) (target ∷ others) others)
    ≡ (same_pair pair target.pair || list_any (λ x. role_number pair.role == role_number x.pair.role) others)
named_case pair target others true is = rw (is, flipped target.pair.page pair.page true is) refl
named_case pair target others false is = rw (is, flipped target.pair.page pair.page false is) refl

-- ---- the entry of one page

-- what is kept of a page after these targets
abbrev pub tallied : List Target → ℕ → Entry
tallied seen page = fold counted blank (to_page page seen)

last_case : (b : Bool) (entry : Entry) (target : Target) → fold counted entry (cond b (target ∷ []) []) ≡ cond b (counted entry target) entry
last_case true entry target = refl
last_case false entry target = refl

pub tallied_push : (seen : List Target) (target : Target) (page : ℕ)
    → tallied (seen ++ target ∷ []) page ≡ cond (target.pair.page == page) (counted (tallied seen page) target) (tallied seen page)
tallied_push seen target page =
    ap (fold counted blank) (filter-append (λ t. t.pair.page == page) seen (target ∷ []))
    ∙ fold-append counted blank (to_page page seen) (to_page page (target ∷ []))
    ∙ last_case (target.pair.page == page) (tallied seen page) target

-- its count
pub counts_from : (entry : Entry) (targets : List Target) → entry.count ≤ 2 ^ 64 - 1 → (fold counted entry targets).count ≡ min (entry.count + length targets) (2 ^ 64 - 1)
counts_from entry [] fits = omega arith
counts_from entry (target ∷ targets) fits = counts_from (counted entry target) targets (omega arith) ∙ omega arith

pub tallied_count : (seen : List Target) (page : ℕ) → (tallied seen page).count ≡ min (length (to_page page seen)) (2 ^ 64 - 1)
tallied_count seen page = counts_from blank (to_page page seen) (omega arith) ∙ ap (λ n. min n (2 ^ 64 - 1)) (zero-add (length (to_page page seen)))

-- its marks
marks_one : (marks : Marks) (one role : Role) → is_marked (with_mark marks one) role ≡ (is_marked marks role || (role_number role == role_number one))
marks_one marks Node Node = or_true marks.node
marks_one marks Node Overflow = or_false marks.overflow
marks_one marks Node Trunk = or_false marks.trunk
marks_one marks Node FreeLeaf = or_false marks.free_leaf
marks_one marks Node PointerMap = or_false marks.pointer_map
marks_one marks Overflow Node = or_false marks.node
marks_one marks Overflow Overflow = or_true marks.overflow
marks_one marks Overflow Trunk = or_false marks.trunk
marks_one marks Overflow FreeLeaf = or_false marks.free_leaf
marks_one marks Overflow PointerMap = or_false marks.pointer_map
marks_one marks Trunk Node = or_false marks.node
marks_one marks Trunk Overflow = or_false marks.overflow
marks_one marks Trunk Trunk = or_true marks.trunk
marks_one marks Trunk FreeLeaf = or_false marks.free_leaf
marks_one marks Trunk PointerMap = or_false marks.pointer_map
marks_one marks FreeLeaf Node = or_false marks.node
marks_one marks FreeLeaf Overflow = or_false marks.overflow
marks_one marks FreeLeaf Trunk = or_false marks.trunk
marks_one marks FreeLeaf FreeLeaf = or_true marks.free_leaf
marks_one marks FreeLeaf PointerMap = or_false marks.pointer_map
marks_one marks PointerMap Node = or_false marks.node
marks_one marks PointerMap Overflow = or_false marks.overflow
marks_one marks PointerMap Trunk = or_false marks.trunk
marks_one marks PointerMap FreeLeaf = or_false marks.free_leaf
marks_one marks PointerMap PointerMap = or_true marks.pointer_map

marks_from : (entry : Entry) (targets : List Target) (role : Role)
    → is_marked (fold counted entry targets).marks role ≡ (is_marked entry.marks role || list_any (λ t. role_number role == role_number t.pair.role) targets)
marks_from entry [] role = sym (or_none (is_marked entry.marks role))
marks_from entry (target ∷ targets) role =
    marks_from (counted entry target) targets role
    ∙ ap (λ a. a || list_any (λ t. role_number role == role_number t.pair.role) targets) (marks_one entry.marks target.pair.role role)
    ∙ or_assoc (is_marked entry.marks role) (role_number role == role_number target.pair.role) (list_any (λ t. role_number role == role_number t.pair.role) targets)

named_there : (seen : List Target) (pair : Pair)
    → list_any (λ t. role_number pair.role == role_number t.pair.role) (to_page pair.page seen) ≡ is_named seen pair
named_there [] pair = refl
named_there (target ∷ seen) pair =
    named_case pair target (to_page pair.page seen) (target.pair.page == pair.page) refl
    ∙ ap (λ a. same_pair pair target.pair || a) (named_there seen pair)

pub tallied_mark : (seen : List Target) (pair : Pair) → is_marked (tallied seen pair.page).marks pair.role ≡ is_named seen pair
tallied_mark seen pair = marks_from blank (to_page pair.page seen) pair.role ∙ blank_case pair.role _ ∙ named_there seen pair

-- ---- the place of a page among the held ones

-- no number stands twice
abbrev pub Differ : List ℕ → Type 0
Differ [] = Unit {0}
Differ (number ∷ held) = (is_held held number ≡ false) × Differ held

-- what belongs to pages that aren't in the list may change
pub map_other : {A : Type 0} (held : List ℕ) (page : ℕ) (f g : ℕ → A) → is_held held page ≡ false → ((q : ℕ) → (q == page) ≡ false → g q ≡ f q) → map f held ≡ map g held
map_other [] page f g none other = refl
map_other (number ∷ held) page f g none other =
    let parts = or_parts (number == page) (is_held held page) none in
    ap (λ e. e ∷ map f held) (sym (other number parts.0)) ∙ ap (λ es. g number ∷ es) (map_other held page f g parts.1 other)

set_case : {A : Type 0} (number : ℕ) (held : List ℕ) (page rank : ℕ) (f g : ℕ → A) (e : A) (b : Bool) → (number == page) ≡ b → (o : Option ℕ) → rank_of held page ≡ o
    → is_held held number ≡ false → cond b (Some 0) (option_map (λ r. r + 1) o) ≡ Some rank → g page ≡ e → ((q : ℕ) → (q == page) ≡ false → g q ≡ f q)
    → ((r : ℕ) → rank_of held page ≡ Some r → set (map f held) r e ≡ map g held)
    → set (f number ∷ map f held) rank e ≡ g number ∷ map g held
set_case number held page rank f g e true is o ranked apart found same other more =
    let it : number ≡ page = eqb-true number page is in
    let first : rank ≡ 0 = cc in
    let none : is_held held page ≡ false = ap (is_held held) (sym it) ∙ apart in
    rw first (ap (λ x. x ∷ map f held) (sym same ∙ ap g (sym it)) ∙ ap (λ es. g number ∷ es) (map_other held page f g none other))
set_case number held page rank f g e false is None ranked apart found same other more = absurd (cc)
set_case number held page rank f g e false is (Some r) ranked apart found same other more =
    let later : rank ≡ r + 1 = cc in
    rw (later, add-one) (ap (λ x. x ∷ set (map f held) r e) (sym (other number is)) ∙ ap (λ es. g number ∷ es) (more r ranked))

pub set_at_rank : {A : Type 0} (held : List ℕ) (page rank : ℕ) (f g : ℕ → A) (e : A) → Differ held → rank_of held page ≡ Some rank
    → g page ≡ e → ((q : ℕ) → (q == page) ≡ false → g q ≡ f q) → set (map f held) rank e ≡ map g held
set_at_rank [] page rank f g e apart found same other = absurd (cc)
set_at_rank (number ∷ held) page rank f g e apart found same other =
    set_case number held page rank f g e (number == page) refl (rank_of held page) refl apart.0 found same other
    (λ r ranked. set_at_rank held page r f g e apart.1 ranked same other)

-- what stands at the place of a page
at_case : {A : Type 0} (number : ℕ) (held : List ℕ) (page rank : ℕ) (f : ℕ → A) (d : A) (b : Bool) → (number == page) ≡ b → (o : Option ℕ) → rank_of held page ≡ o
    → cond b (Some 0) (option_map (λ r. r + 1) o) ≡ Some rank
    → ((r : ℕ) → rank_of held page ≡ Some r → get_or (map f held) r d ≡ f page)
    → get_or (f number ∷ map f held) rank d ≡ f page
at_case number held page rank f d true is o ranked found more =
    let first : rank ≡ 0 = cc in
    rw first (ap f (eqb-true number page is))
at_case number held page rank f d false is None ranked found more = absurd (cc)
at_case number held page rank f d false is (Some r) ranked found more =
    let later : rank ≡ r + 1 = cc in
    rw (later, add-one) (more r ranked)

pub at_rank : {A : Type 0} (held : List ℕ) (page rank : ℕ) (f : ℕ → A) (d : A) → rank_of held page ≡ Some rank → get_or (map f held) rank d ≡ f page
at_rank [] page rank f d found = absurd (cc)
at_rank (number ∷ held) page rank f d found =
    at_case number held page rank f d (number == page) refl (rank_of held page) refl found (λ r ranked. at_rank held page r f d ranked)

-- a page has a place exactly where it is held
held_case : (number page : ℕ) (held : List ℕ) (b : Bool) → (number == page) ≡ b → (o : Option ℕ) → is_some o ≡ is_held held page
    → is_some (cond b (Some 0) (option_map (λ r. r + 1) o)) ≡ ((number == page) || is_held held page)
held_case number page held true is o more = rw is refl
held_case number page held false is None more = rw is more
held_case number page held false is (Some r) more = rw is more

pub rank_is_some : (held : List ℕ) (page : ℕ) → is_some (rank_of held page) ≡ is_held held page
rank_is_some [] page = refl
rank_is_some (number ∷ held) page = held_case number page held (number == page) refl (rank_of held page) (rank_is_some held page)

-- ---- the tally

-- the tally is that of these targets
pub record IsTally (seen : List Target) (tally : Tallied) : Type 0 where
  pub entries : tally.entries ≡ map (tallied seen) tally.held
  pub dead : tally.dead ≡ min (length (filter (λ t. not (is_reference tally.held t)) seen)) (2 ^ 64 - 1)

pub tally_none : (held : List ℕ) (met : List Pair) → IsTally [] (record { held = held; entries = map (λ page. blank) held; met = met; dead = 0 })
tally_none held met = record { entries = refl; dead = omega arith }

dead_push : (held : List ℕ) (seen : List Target) (target : Target) (b : Bool) → is_reference held target ≡ b
    → length (filter (λ t. not (is_reference held t)) (seen ++ target ∷ [])) ≡ length (filter (λ t. not (is_reference held t)) seen) + cond b 0 1
dead_push held seen target true is =
    ap length (filter-append (λ t. not (is_reference held t)) seen (target ∷ []))
    ∙ length-append (filter (λ t. not (is_reference held t)) seen) (filter (λ t. not (is_reference held t)) (target ∷ []))
    ∙ rw is refl
dead_push held seen target false is =
    ap length (filter-append (λ t. not (is_reference held t)) seen (target ∷ []))
    ∙ length-append (filter (λ t. not (is_reference held t)) seen) (filter (λ t. not (is_reference held t)) (target ∷ []))
    ∙ rw is refl

push_other : (seen : List Target) (target : Target) (q : ℕ) → (q == target.pair.page) ≡ false → tallied (seen ++ target ∷ []) q ≡ tallied seen q
push_other seen target q other = tallied_push seen target q ∙ rw (flipped q target.pair.page false other) refl

push_same : (seen : List Target) (target : Target) → tallied (seen ++ target ∷ []) target.pair.page ≡ counted (tallied seen target.pair.page) target
push_same seen target = tallied_push seen target target.pair.page ∙ rw (eq-eqb target.pair.page target.pair.page refl) refl

tally_case : (seen : List Target) (tally : Tallied) (target : Target) → Differ tally.held → IsTally seen tally
    → (o : Option ℕ) → rank_of tally.held target.pair.page ≡ o → IsTally (seen ++ target ∷ []) (added_at tally target o)
tally_case seen tally target differ is None ranked =
    let missing : is_reference tally.held target ≡ false = sym (rank_is_some tally.held target.pair.page) ∙ ap is_some ranked in
    record {
      entries = is.entries ∙ map_other tally.held target.pair.page (tallied seen) (tallied (seen ++ target ∷ [])) missing (push_other seen target);
      dead = let more = dead_push tally.held seen target false missing in omega (arith, is.dead);
    }
tally_case seen tally target differ is (Some rank) ranked =
    let there : is_reference tally.held target ≡ true = sym (rank_is_some tally.held target.pair.page) ∙ ap is_some ranked in
    let old : get_or tally.entries rank blank ≡ tallied seen target.pair.page =
    ap (λ es. get_or es rank blank) is.entries ∙ at_rank tally.held target.pair.page rank (tallied seen) blank ranked in
    record {
      entries = ap (λ es. set es rank (counted (get_or tally.entries rank blank) target)) is.entries
          ∙ set_at_rank tally.held target.pair.page rank (tallied seen) (tallied (seen ++ target ∷ [])) (counted (get_or tally.entries rank blank) target)
          differ ranked (push_same seen target ∙ ap (λ e. counted e target) (sym old)) (push_other seen target);
      dead = let more = dead_push tally.held seen target true there in omega (arith, is.dead);
    }

-- one target more
pub tally_push : (seen : List Target) (tally : Tallied) (target : Target) → Differ tally.held → IsTally seen tally
    → IsTally (seen ++ target ∷ []) (added tally target)
unfolding added
tally_push seen tally target differ is = tally_case seen tally target differ is (rank_of tally.held target.pair.page) refl

-- the same for each page
pub same_each : {A : Type 0} (same : A) (held : List ℕ) → replicate (length held) same ≡ map (λ page. same) held
same_each same [] = refl
same_each same (number ∷ held) = ap (λ more. same ∷ more) (same_each same held)

pub blank_each : (held : List ℕ) → replicate (length held) blank ≡ map (λ page. blank) held
blank_each held = same_each blank held
