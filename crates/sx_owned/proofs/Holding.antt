-- Which half of runs that lie apart can hold a place.
use Rattle.std.proofs.Common.{◌≡◌, ℕ, ◌+◌, ◌<◌, ◌≤◌, Bool, true, false, ◌&&◌, ◌||◌, nat_le, nat_lt, List, [], ◌∷◌, ◌++◌, take, drop, refl, sym, ap, subst, ◌∙◌, arith}
use Rattle.std.proofs.lemmas.Bool.Decides.{nat_tests}
use Rattle.std.proofs.lemmas.List.{take-append-drop}
use Rattle.std.proofs.lemmas.List.Folds.{list_any-append}
use Rattle.sx_owned.specs.declared.run.Run.{Run}
use Rattle.sx_owned.specs.Runs.{holds, Apart, is_owned}
use Rattle.sx_owned.proofs.Adding.{apart_front}
use Rattle.sx_owned.proofs.RunLemmas.{apart_less, below_none, or_false}

-- runs in front of one that begins at a place or before it
passed : (least at : ℕ) (front others : List Run) (first : Run) → Apart least (front ++ (first ∷ others)) → first.start ≤ at → (is_owned front at ≡ false) × (least ≤ first.start)
unfolding is_owned
passed least at [] others first apart begins = (refl, apart.0)
passed least at (run ∷ front) others first apart begins =
    let rest = passed (run.end + 1) at front others first apart.2 begins in
    let ends : nat_lt at run.end ≡ false = let far = rest.1 in grind (arith, nat_tests) in
    (or_by (nat_le run.start at) (nat_lt at run.end) (is_owned front at) ends rest.0, omega (arith, apart.0, apart.1, rest.1))
  where
    or_by : (a b c : Bool) → b ≡ false → c ≡ false → ((a && b) || c) ≡ false
    or_by true b c none rest = rw (none, rest) refl
    or_by false b c none rest = rest

back_apart : (least : ℕ) (front back : List Run) → Apart least (front ++ back) → Apart 0 back
back_apart least [] back apart = apart_less back least 0 apart (omega arith)
back_apart least (run ∷ front) back apart = back_apart (run.end + 1) front back apart.2

-- the two halves
pub record AreHalves (runs front behind : List Run) : Type 0 where
  pub parts : front ++ behind ≡ runs
  pub apart : Apart 0 (front ++ behind)

pub halves : (runs front behind : List Run) (count : ℕ) → front ≡ take count runs → behind ≡ drop count runs → Apart 0 runs → AreHalves runs front behind
halves runs front behind count is_front is_behind apart =
    let parts : front ++ behind ≡ runs = rw (is_front, is_behind) (take-append-drop count runs) in
    record { parts = parts; apart = subst (Apart 0) (sym parts) apart }

owned_parts : (runs front behind : List Run) (at : ℕ) → front ++ behind ≡ runs → is_owned runs at ≡ (is_owned front at || is_owned behind at)
unfolding is_owned
owned_parts runs front behind at parts = ap (λ runs. is_owned runs at) (sym parts) ∙ list_any-append (holds at) front behind

pub behind_holds : (runs front behind others : List Run) (first : Run) (at : ℕ) → AreHalves runs front behind → behind ≡ first ∷ others → first.start ≤ at → is_owned behind at ≡ is_owned runs at
behind_holds runs front behind others first at both is begins =
    let none = passed 0 at front others first (subst (λ behind. Apart 0 (front ++ behind)) is both.apart) begins in
    sym (owned_parts runs front behind at both.parts ∙ rw none.0 refl)

pub front_holds : (runs front behind others : List Run) (first : Run) (at : ℕ) → AreHalves runs front behind → behind ≡ first ∷ others → at < first.start → is_owned front at ≡ is_owned runs at
front_holds runs front behind others first at both is before =
    let apart : Apart 0 (first ∷ others) = subst (Apart 0) is (back_apart 0 front behind both.apart) in
    let none : is_owned behind at ≡ false = ap (λ runs. is_owned runs at) is ∙ below_none (first ∷ others) first.start at (omega arith, apart.1, apart.2) before in
    sym (owned_parts runs front behind at both.parts ∙ rw none (or_false (is_owned front at)))

pub front_apart : (runs front behind : List Run) → AreHalves runs front behind → Apart 0 front
front_apart runs front behind both = apart_front 0 front behind both.apart

pub behind_apart : (runs front behind : List Run) → AreHalves runs front behind → Apart 0 behind
behind_apart runs front behind both = back_apart 0 front behind both.apart
