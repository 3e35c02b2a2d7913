-- The moments of a case's list are those of the case, its last one too.
use Rattle.std.proofs.Common.{◌≡◌, ℕ, suc, ◌<◌, ◌≤◌, Bool, true, false, IsTrue, cond, ◌&&◌, ◌-◌, zero, ◌⊎◌, ⊎_elim, inl, inr, nat_le, List, [], ◌∷◌, ◌++◌, length, map, Option, Some, None, refl, subst, arith}
use Rattle.std.specs.Prelude.{slice_get}
use Rattle.std.specs.List.{range_with_len, last_or}
use Rattle.std.proofs.lemmas.Bool.Decides.{nat_tests}
use Rattle.std.proofs.lemmas.List.FromFn.{length-map-range_with_len}
use Rattle.std.proofs.lemmas.Option.{slice_get_within}
use Rattle.sx_base.specs.declared.moment.Moment.{Moment}
use Rattle.sx_base.specs.declared.moment.Moment.TheVariants.{Journal, File, Commit}
use Rattle.sx_moment.proofs.Moments.{commit_listed}
use Rattle.sx_moment.specs.Gathered.{Gathered, moments_of, is_moment, is_live_state}

-- a moment is one of those of a case with a live journal or without, and with so many commits
abbrev is_listed : Bool → ℕ → Moment → Bool
is_listed live n Journal = live
is_listed live n File = true
is_listed live n (Commit k) = nat_le 1 k && nat_le k n

is_within : (k n : ℕ) → 1 ≤ k → k ≤ n → IsTrue (nat_le 1 k && nat_le k n)
is_within k n least most = grind (arith, nat_tests)

commit_within : (live : Bool) (n i before : ℕ) (moment : Moment) → before ≡ cond live 1 0 → before < i → i - before ≤ n
    → i < length (cond live (Journal ∷ []) [] ++ File ∷ map Commit (range_with_len 1 n))
    → slice_get (cond live (Journal ∷ []) [] ++ File ∷ map Commit (range_with_len 1 n)) i ≡ Some moment
    → IsTrue (is_listed live n moment)
commit_within live n i before moment is past few within found =
    let at = commit_listed live n i before is past within in
    let same : Commit (i - before) ≡ moment = cc in
    subst (λ (m : Moment). IsTrue (is_listed live n m)) same (is_within (i - before) n (omega arith) few)

each_listed : (live : Bool) (n i : ℕ) (moment : Moment) → slice_get (cond live (Journal ∷ []) [] ++ File ∷ map Commit (range_with_len 1 n)) i ≡ Some moment
    → IsTrue (is_listed live n moment)
each_listed true n zero moment found = let same : Journal ≡ moment = cc in subst (λ (m : Moment). IsTrue (is_listed true n m)) same refl
each_listed true n (suc zero) moment found = let same : File ≡ moment = cc in subst (λ (m : Moment). IsTrue (is_listed true n m)) same refl
each_listed true n (suc (suc j)) moment found =
    let long = length-map-range_with_len Commit 1 n in
    let within = slice_get_within (Journal ∷ File ∷ map Commit (range_with_len 1 n)) (suc (suc j)) moment found in
    commit_within true n (suc (suc j)) 1 moment refl (omega arith) (omega (arith, long, within)) within found
each_listed false n zero moment found = let same : File ≡ moment = cc in subst (λ (m : Moment). IsTrue (is_listed false n m)) same refl
each_listed false n (suc j) moment found =
    let long = length-map-range_with_len Commit 1 n in
    let within = slice_get_within (File ∷ map Commit (range_with_len 1 n)) (suc j) moment found in
    commit_within false n (suc j) 0 moment refl (omega arith) (omega (arith, long, within)) within found

same_test : (case : Gathered) (moment : Moment) → is_listed (is_live_state case.journal.state) (length case.wal.commits) moment ≡ is_moment case moment
same_test case Journal = refl
same_test case File = refl
same_test case (Commit k) = refl

-- a moment of the list is one of the case
pub listed_is : (case : Gathered) (i : ℕ) (moment : Moment) → slice_get (moments_of case) i ≡ Some moment → IsTrue (is_moment case moment)
listed_is case i moment listed = subst IsTrue (same_test case moment) (each_listed (is_live_state case.journal.state) (length case.wal.commits) i moment listed)

never : {moment : Moment} → (let none : Option Moment = None in none ≡ Some moment) → ⊥
never is = cc

-- the last of a list stands in it
last_there : (before : Option Moment) (xs : List Moment) (moment : Moment) → last_or before xs ≡ Some moment → (before ≡ Some moment) ⊎ ((i : ℕ) × (slice_get xs i ≡ Some moment))
last_there before [] moment is = inl is
last_there before (x ∷ xs) moment is =
    ⊎_elim (λ first. inr (0, first)) (λ later. inr (suc later.0, later.1)) (last_there (Some x) xs moment is)

-- so is the last one
pub last_is : (case : Gathered) (moment : Moment) → last_or None (moments_of case) ≡ Some moment → IsTrue (is_moment case moment)
last_is case moment last =
    ⊎_elim (λ none. absurd (never none)) (λ at. listed_is case at.0 moment at.1) (last_there None (moments_of case) moment last)
