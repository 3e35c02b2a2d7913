-- The list of moments, and where the images of a page stand.
use Rattle.std.proofs.Common.{◌≡◌, ℕ, zero, suc, ◌+◌, ◌-◌, ◌<◌, ◌≤◌, Bool, true, false, cond, ◌&&◌, nat_le, IsTrue, ◌↔◌, Contains, List, [], ◌∷◌, ◌++◌, Option, Some, None, IfSome, length, map, is_some, refl, sym, ap, subst, ◌∙◌, arith, inl, inr}
use Rattle.std.specs.Prelude.{slice_get}
use Rattle.std.specs.Option.{option_map}
use Rattle.std.specs.List.{range_with_len, last_or}
use Rattle.std.proofs.lemmas.Bool.{ltb-true, leb-true, le-leb, and_parts}
use Rattle.std.proofs.lemmas.List.Elements.{Contains-append_right, Contains-append_cases}
use Rattle.std.proofs.lemmas.List.FromFn.{length-map-range_with_len, get_or-map-range_with_len, map-range_with_len_more}
use Rattle.std.proofs.lemmas.Option.{slice_get-get_or}
use Rattle.sx_base.specs.declared.moment.Moment.{Moment}
use Rattle.sx_base.specs.declared.moment.Moment.TheVariants.{Journal, File, Commit}
use Rattle.sx_base.specs.Places.{last_place}
use Rattle.sx_chain.specs.Newest.{has_number}
use Rattle.sx_base.proofs.Places.{last_place_passes}
use Rattle.sx_moment.specs.Gathered.{Gathered, limit_at, is_live_state, is_moment, moments_of}
use Rattle.sx_moment.specs.Views.{slot_pages, is_good_record, image_at}
use Rattle.sx_moment.specs.Reading.{IsGathered}
use Rattle.sx_moment.specs.Images.{Stands, first_record}
use Rattle.sx_moment.specs.declared.origin.Origin.TheVariants as origins
use Rattle.sx_base.proofs.Places.{is_below, first_within}

-- the moments with a live journal or without, and so many commits
abbrev listed : Bool → ℕ → List Moment
listed live n = cond live (Journal ∷ []) [] ++ File ∷ map Commit (range_with_len 1 n)

pub moments_long : (live : Bool) (n before : ℕ) → before ≡ cond live 1 0 → before + 1 + n ≡ length (cond live (Journal ∷ []) [] ++ File ∷ map Commit (range_with_len 1 n))
moments_long true n before is = let long = length-map-range_with_len Commit 1 n in omega (arith, long, is)
moments_long false n before is = let long = length-map-range_with_len Commit 1 n in omega (arith, long, is)

commit_at : (n j k : ℕ) → j < n → 1 + j ≡ k → slice_get (map Commit (range_with_len 1 n)) j ≡ Some (Commit k)
commit_at n j k below is =
    let long = length-map-range_with_len Commit 1 n in
    slice_get-get_or (map Commit (range_with_len 1 n)) j File (omega (arith, long)) ∙ ap Some (get_or-map-range_with_len Commit 1 n j k File below is)

-- behind the file's moment stand those of the commits
pub commit_listed : (live : Bool) (n i before : ℕ) → before ≡ cond live 1 0 → before < i → i < length (cond live (Journal ∷ []) [] ++ File ∷ map Commit (range_with_len 1 n))
    → slice_get (cond live (Journal ∷ []) [] ++ File ∷ map Commit (range_with_len 1 n)) i ≡ Some (Commit (i - before))
commit_listed true n zero before is past within = absurd (omega arith)
commit_listed true n (suc zero) before is past within = absurd (omega (arith, is))
commit_listed true n (suc (suc j)) before is past within =
    let long = length-map-range_with_len Commit 1 n in
    commit_at n j (suc (suc j) - before) (omega (arith, long)) (omega (arith, is))
commit_listed false n zero before is past within = absurd (omega arith)
commit_listed false n (suc j) before is past within =
    let long = length-map-range_with_len Commit 1 n in
    commit_at n j (suc j - before) (omega (arith, long)) (omega (arith, is))

last_kept : (before : Option Moment) (xs : List Moment) (x : Moment) → last_or before (xs ++ x ∷ []) ≡ Some x
last_kept before [] x = refl
last_kept before (y ∷ xs) x = last_kept (Some y) xs x

last_behind : (before : Option Moment) (xs ys : List Moment) → last_or before (xs ++ ys) ≡ last_or (last_or before xs) ys
last_behind before [] ys = refl
last_behind before (x ∷ xs) ys = last_behind (Some x) xs ys

-- the last commit is the last moment
pub last_commit : (live : Bool) (m : ℕ) → last_or None (cond live (Journal ∷ []) [] ++ File ∷ map Commit (range_with_len 1 (m + 1))) ≡ Some (Commit (m + 1))
last_commit live m =
    last_behind None (cond live (Journal ∷ []) []) (File ∷ map Commit (range_with_len 1 (m + 1)))
    ∙ ap (λ l. last_or (Some File) l) (map-range_with_len_more Commit 1 m (m + 1) (omega arith))
    ∙ last_kept (Some File) (map Commit (range_with_len 1 m)) (Commit (m + 1))

-- ---- images

record_stands : (case : Gathered) (number : ℕ) (o : Option ℕ) → is_below (length case.journal.entries) o ≡ is_some o → IfSome (option_map origins.Record o) (Stands case number)
record_stands case number None is = tt
record_stands case number (Some i) is = ltb-true i (length case.journal.entries) is

slot_stands : (case : Gathered) (number limit : ℕ) (o : Option ℕ) → ((i : ℕ) → o ≡ Some i → i < limit) → limit ≤ length case.wal.slots → IfSome (option_map origins.Slot o) (Stands case number)
slot_stands case number limit None below within = tt
slot_stands case number limit (Some i) below within = let less = below i refl in omega arith

pub image_stands : (case : Gathered) (moment : Moment) (number : ℕ) → limit_at case moment ≤ length case.wal.slots → IfSome (image_at case moment number) (Stands case number)
image_stands case Journal number within = record_stands case number (first_record case number) (first_within (is_good_record case number) (length case.journal.entries))
image_stands case File number within = tt
image_stands case (Commit k) number within =
    slot_stands case number (limit_at case (Commit k)) (last_place (has_number (slot_pages case) number) (limit_at case (Commit k)))
    (λ i is. (last_place_passes (has_number (slot_pages case) number) (limit_at case (Commit k)) i is).0) within

-- ---- limits

commit_place : (n k : ℕ) → IsTrue (nat_le 1 k && nat_le k n) → k - 1 < n
commit_place n k is =
    let parts = and_parts (nat_le 1 k) (nat_le k n) is in
    let first = leb-true 1 k parts.0 in
    let last = leb-true k n parts.1 in
    omega (arith, first, last)

-- a moment sees slots that are there
pub limit_within : (case : Gathered) (moment : Moment) → IsGathered case → IsTrue (is_moment case moment) → limit_at case moment ≤ length case.wal.slots
limit_within case Journal gathered is = omega arith
limit_within case File gathered is = omega arith
limit_within case (Commit k) gathered is = let below = gathered.commits (k - 1) (commit_place (length case.wal.commits) k is) in omega arith

-- ---- the list and the test

-- a moment of such a list
is_listed : Bool → ℕ → Moment → Bool
is_listed live n Journal = live
is_listed live n File = true
is_listed live n (Commit k) = nat_le 1 k && nat_le k n

same_test : (case : Gathered) (moment : Moment) → is_listed (is_live_state case.journal.state) (length case.wal.commits) moment ≡ is_moment case moment
unfolding is_listed
same_test case Journal = refl
same_test case File = refl
same_test case (Commit k) = refl

commit_there : (live : Bool) (n k : ℕ) → IsTrue (nat_le 1 k && nat_le k n) → Contains (listed live n) (Commit k)
commit_there live n k is =
    let place = commit_place n k is in
    let first = leb-true 1 k (and_parts (nat_le 1 k) (nat_le k n) is).0 in
    let long = length-map-range_with_len Commit 1 n in
    let among : Contains (map Commit (range_with_len 1 n)) (Commit k) =
    (k - 1, omega (arith, place, long), get_or-map-range_with_len Commit 1 n (k - 1) k (Commit k) place (omega (arith, first))) in
    Contains-append_right (cond live (Journal ∷ []) []) (File ∷ map Commit (range_with_len 1 n)) (Commit k)
    (Contains-append_right (File ∷ []) (map Commit (range_with_len 1 n)) (Commit k) among)

there : (live : Bool) (n : ℕ) (moment : Moment) → IsTrue (is_listed live n moment) → Contains (listed live n) moment
unfolding is_listed
there true n Journal is = (0, omega arith, refl)
there false n Journal is = absurd (let never : false ≡ true = is in cc)
there true n File is = (1, omega arith, refl)
there false n File is = (0, omega arith, refl)
there live n (Commit k) is = commit_there live n k is

commit_back : (live : Bool) (n : ℕ) (moment : Moment) → Contains (map Commit (range_with_len 1 n)) moment → IsTrue (is_listed live n moment)
unfolding is_listed
commit_back live n moment (j, within, at) =
    let long = length-map-range_with_len Commit 1 n in
    let below : j < n = omega (arith, within, long) in
    let here : Commit (1 + j) ≡ moment = sym (get_or-map-range_with_len Commit 1 n j (1 + j) moment below refl) ∙ at in
    let kept : IsTrue (is_listed live n (Commit (1 + j))) = rw (le-leb 1 (1 + j) (omega arith), le-leb (1 + j) n (omega arith)) refl in
    subst (λ m. IsTrue (is_listed live n m)) here kept

file_back : (live : Bool) (n : ℕ) (moment : Moment) → Contains (File ∷ []) moment → IsTrue (is_listed live n moment)
unfolding is_listed
file_back live n moment (zero, within, at) = subst (λ m. IsTrue (is_listed live n m)) at refl
file_back live n moment (suc j, within, at) = absurd (omega arith)

journal_back : (live : Bool) (n : ℕ) (moment : Moment) → Contains (cond live (Journal ∷ []) []) moment → IsTrue (is_listed live n moment)
unfolding is_listed
journal_back true n moment (zero, within, at) = subst (λ m. IsTrue (is_listed true n m)) at refl
journal_back true n moment (suc j, within, at) = absurd (omega arith)
journal_back false n moment (j, within, at) = absurd (omega arith)

back : (live : Bool) (n : ℕ) (moment : Moment) → Contains (listed live n) moment → IsTrue (is_listed live n moment)
back live n moment among =
    elim (Contains-append_cases (cond live (Journal ∷ []) []) (File ∷ map Commit (range_with_len 1 n)) moment among) [
      | inl front ↦ journal_back live n moment front
      | inr behind ↦ elim (Contains-append_cases (File ∷ []) (map Commit (range_with_len 1 n)) moment behind) [
        | inl file ↦ file_back live n moment file
        | inr commit ↦ commit_back live n moment commit
      ]
    ]

-- the list has the moments that pass the test
pub moments_listed : (case : Gathered) (moment : Moment) → IsTrue (is_moment case moment) ↔ Contains (moments_of case) moment
moments_listed case moment = (
  λ is. there (is_live_state case.journal.state) (length case.wal.commits) moment (same_test case moment ∙ is),
  λ among. sym (same_test case moment) ∙ back (is_live_state case.journal.state) (length case.wal.commits) moment among,
)
