-- The bytes of an image from an offset on, up to the next owned one.
use Rattle.std.proofs.Common.{◌≡◌, ℕ, zero, suc, ◌+◌, ◌<◌, ◌≤◌, Bool, true, false, List, [], ◌∷◌, ◌++◌, length, take, drop, None, refl, sym, ap, ◌∙◌, subst, arith, append_assoc, add-zero}
use Rattle.sx_owned.specs.Owned.{Owned, owned_at, block_at}
use Rattle.sx_grammar.specs.declared.shape.ShapeKey.{ShapeKey}
use Rattle.sx_grammar.specs.Shorts.{short_field}
use Rattle.sx_grammar.specs.Full.{full_at}
use Rattle.sx_grammar.specs.Clips.{Setting, cut_in}
use Rattle.sx_grammar.specs.Choice.{setting_of, accepted_at}
use Rattle.sx_grammar.proofs.ChoiceLemmas.{accepted_none}
use Rattle.sx_bytes.specs.Varints.{short_at, varint_at}
use Rattle.sx_carve.specs.Candidates.{told_by, carved, unowned_front, candidate_at, carved_from}
use Rattle.sx_carve.specs.Scan.{scanned_from}

-- so many bytes aren't owned, and the one behind them is, where there is one
pub front_is : (n : ℕ) (owned : ℕ → Bool) (at : ℕ) (bytes : List ℕ) → n ≤ length bytes → ((k : ℕ) → k < n → owned (at + k) ≡ false) → (n < length bytes → owned (at + n) ≡ true)
    → unowned_front owned at bytes ≡ take n bytes
unfolding unowned_front
front_is zero owned at [] within free stop = refl
front_is zero owned at (byte ∷ bytes) within free stop =
    let here : owned at ≡ true = subst (λ k. owned k ≡ true) (add-zero at) (stop (omega arith)) in
    rw here refl
front_is (suc n) owned at [] within free stop = absurd (omega arith)
front_is (suc n) owned at (byte ∷ bytes) within free stop =
    let here : owned at ≡ false = subst (λ k. owned k ≡ false) (add-zero at) (free 0 (omega arith)) in
    let more : (k : ℕ) → at + 1 + k ≡ at + suc k = λ k. omega arith in
    rw here (ap (λ rest. byte ∷ rest)
    (front_is n owned (at + 1) bytes (omega arith)
    (λ k below. ap owned (more k) ∙ free (suc k) (omega arith))
    (λ below. ap owned (more n) ∙ stop (omega arith))))

-- nothing begins where no byte is
no_full : (usable : ℕ) → full_at usable [] ≡ None
unfolding full_at short_field short_at varint_at
no_full usable = refl

no_cut : (setting : Setting) → cut_in setting [] ≡ None
unfolding cut_in
no_cut setting = refl

nothing_accepted : (usable : ℕ) (shapes : List ShapeKey) (setting : Setting) → accepted_at usable shapes setting [] ≡ None
nothing_accepted usable shapes setting = accepted_none usable shapes setting [] (no_full usable) (no_cut setting)

front_owned : (owned : ℕ → Bool) (at byte : ℕ) (bytes : List ℕ) → owned at ≡ true → unowned_front owned at (byte ∷ bytes) ≡ []
unfolding unowned_front
front_owned owned at byte bytes is = rw is refl

none_owned : (usable : ℕ) (shapes : List ShapeKey) (table : Owned) (image at byte : ℕ) (bytes : List ℕ) → owned_at table image at ≡ true → candidate_at usable shapes (told_by table) image at (byte ∷ bytes) ≡ None
unfolding candidate_at
none_owned usable shapes table image at byte bytes is =
    let setting = setting_of at (block_at table image at) usable in
    ap (accepted_at usable shapes setting) (front_owned (owned_at table image) at byte bytes is) ∙ nothing_accepted usable shapes setting

-- so many bytes are owned
pub owned_passed : (n usable : ℕ) (shapes : List ShapeKey) (table : Owned) (image at : ℕ) (bytes : List ℕ) → n ≤ length bytes → ((k : ℕ) → k < n → owned_at table image (at + k) ≡ true)
    → carved_from usable shapes (told_by table) image at bytes ≡ carved_from usable shapes (told_by table) image (at + n) (drop n bytes)
unfolding carved_from
owned_passed zero usable shapes table image at bytes within owned = let same : at ≡ at + 0 = omega arith in ap (λ k. carved_from usable shapes (told_by table) image k bytes) same
owned_passed (suc n) usable shapes table image at [] within owned = absurd (omega arith)
owned_passed (suc n) usable shapes table image at (byte ∷ bytes) within owned =
    let here : owned_at table image at ≡ true = subst (λ k. owned_at table image k ≡ true) (add-zero at) (owned 0 (omega arith)) in
    let more : (k : ℕ) → at + 1 + k ≡ at + suc k = λ k. omega arith in
    ap (λ found. carved image at found ++ carved_from usable shapes (told_by table) image (at + 1) bytes) (none_owned usable shapes table image at byte bytes here)
    ∙ owned_passed n usable shapes table image (at + 1) bytes (omega arith) (λ k below. ap (owned_at table image) (more k) ∙ owned (suc k) (omega arith))
    ∙ ap (λ k. carved_from usable shapes (told_by table) image k (drop n bytes)) (more n)

candidate_is : (n usable : ℕ) (shapes : List ShapeKey) (table : Owned) (image at : ℕ) (bytes : List ℕ) → n ≤ length bytes → ((k : ℕ) → k < n → owned_at table image (at + k) ≡ false)
    → (n < length bytes → owned_at table image (at + n) ≡ true)
    → candidate_at usable shapes (told_by table) image at bytes ≡ accepted_at usable shapes (setting_of at (block_at table image at) usable) (take n bytes)
unfolding candidate_at
candidate_is n usable shapes table image at bytes within free stop =
    ap (accepted_at usable shapes (setting_of at (block_at table image at) usable)) (front_is n (owned_at table image) at bytes within free stop)

-- so many bytes aren't owned, and the one behind them is, where there is one: what is found among them is what a run gives
pub run_split : (n usable : ℕ) (shapes : List ShapeKey) (table : Owned) (image at : ℕ) (bytes : List ℕ) → n ≤ length bytes → ((k : ℕ) → k < n → owned_at table image (at + k) ≡ false)
    → (0 < n → n < length bytes → owned_at table image (at + n) ≡ true)
    → carved_from usable shapes (told_by table) image at bytes ≡ scanned_from usable shapes table image at (take n bytes) ++ carved_from usable shapes (told_by table) image (at + n) (drop n bytes)
unfolding carved_from scanned_from
run_split zero usable shapes table image at bytes within free stop = let same : at ≡ at + 0 = omega arith in ap (λ k. carved_from usable shapes (told_by table) image k bytes) same
run_split (suc n) usable shapes table image at [] within free stop = absurd (omega arith)
run_split (suc n) usable shapes table image at (byte ∷ bytes) within free stop =
    let more : (k : ℕ) → at + 1 + k ≡ at + suc k = λ k. omega arith in
    let setting = setting_of at (block_at table image at) usable in
    let found = carved image at (accepted_at usable shapes setting (byte ∷ take n bytes)) in
    let rest = scanned_from usable shapes table image (at + 1) (take n bytes) in
    let further = run_split n usable shapes table image (at + 1) bytes (omega arith) (λ k below. ap (owned_at table image) (more k) ∙ free (suc k) (omega arith)) (λ some below. ap (owned_at table image) (more n) ∙ stop (omega arith) (omega arith)) in
    ap (λ one. carved image at one ++ carved_from usable shapes (told_by table) image (at + 1) bytes) (candidate_is (suc n) usable shapes table image at (byte ∷ bytes) within free (stop (omega arith)))
    ∙ ap (λ tail. found ++ tail) (further ∙ ap (λ k. rest ++ carved_from usable shapes (told_by table) image k (drop n bytes)) (more n))
    ∙ sym (append_assoc found rest (carved_from usable shapes (told_by table) image (at + suc n) (drop n bytes)))
