-- What is known besides, and what is known still.
use Rattle.std.proofs.Common.{◌≡◌, ℕ, zero, suc, ◌+◌, ◌-◌, ◌<◌, ◌≤◌, ◌==◌, Bool, true, false, ◌||◌, ◌&&◌, refl, sym, ap, ◌∙◌, arith}
use Rattle.std.specs.List.{list_any, range_with_len}
use Rattle.std.proofs.lemmas.Bool.Decides.{nat_tests}
use Rattle.sx_owned.specs.Owned.{Owned, owned_at, block_at}
use Rattle.sx_sweep.specs.Growth.{Grows}
use Rattle.sx_sweep.specs.Passing.{Adds}
use Rattle.sx_sweep.specs.Told.{any_above}

-- ---- tests

pub or_left : (a b : Bool) → a ≡ true → (a || b) ≡ true
or_left true b is = refl
or_left false b is = absurd (let never : false ≡ true = is in cc)

pub or_right : (a b : Bool) → b ≡ true → (a || b) ≡ true
or_right true b is = refl
or_right false b is = is

pub and_both : (a b : Bool) → a ≡ true → b ≡ true → (a && b) ≡ true
and_both true b one other = other
and_both false b one other = absurd (let never : false ≡ true = one in cc)

pub and_first : (a b : Bool) → (a && b) ≡ true → a ≡ true
and_first true b is = refl
and_first false b is = is

pub and_second : (a b : Bool) → (a && b) ≡ true → b ≡ true
and_second true b is = is
and_second false b is = absurd (let never : false ≡ true = is in cc)

same_tests : (a b : Bool) → (a ≡ true → b ≡ true) → (b ≡ true → a ≡ true) → a ≡ b
same_tests true b one other = sym (one refl)
same_tests false true one other = other refl
same_tests false false one other = refl

by_either : (old now owns : Bool) → (now ≡ true → (old || owns) ≡ true) → (now || owns) ≡ true → (old || owns) ≡ true
by_either old true owns first second = first refl
by_either old false owns first second = or_right old owns second

by_other : (old grown owns : Bool) → (grown ≡ true → owns ≡ true) → (old || grown) ≡ true → (old || owns) ≡ true
by_other true grown owns more is = refl
by_other false grown owns more is = more is

-- what is in either is known
either_known : (old owns now : Bool) → (old ≡ true → now ≡ true) → (owns ≡ true → now ≡ true) → (old || owns) ≡ true → now ≡ true
either_known true owns now one other is = one refl
either_known false owns now one other is = other is

-- ---- what is known besides

pub adds_none : (table : Owned) (owns begins : ℕ → ℕ → Bool) → Adds table table owns begins
adds_none table owns begins = record {
  count = refl;
  size = refl;
  owned_still = λ image at is. is;
  owned_by = λ image at is. or_left (owned_at table image at) (owns image at) is;
  block_still = λ image at is. is;
  block_by = λ image at is. or_left (block_at table image at) (begins image at) is;
}

pub adds_both : (old now new : Owned) (owns begins : ℕ → ℕ → Bool) → Adds old now owns begins → Adds now new owns begins → Adds old new owns begins
adds_both old now new owns begins first second = record {
  count = second.count ∙ first.count;
  size = second.size ∙ first.size;
  owned_still = λ image at is. second.owned_still image at (first.owned_still image at is);
  owned_by = λ image at is. by_either (owned_at old image at) (owned_at now image at) (owns image at) (first.owned_by image at) (second.owned_by image at is);
  block_still = λ image at is. second.block_still image at (first.block_still image at is);
  block_by = λ image at is. by_either (block_at old image at) (block_at now image at) (begins image at) (first.block_by image at) (second.block_by image at is);
}

pub adds_grown : (old new : Owned) (grown named owns begins : ℕ → ℕ → Bool) → Grows old new grown named
    → ((image at : ℕ) → grown image at ≡ true → owns image at ≡ true) → ((image at : ℕ) → named image at ≡ true → begins image at ≡ true)
    → Adds old new owns begins
adds_grown old new grown named owns begins grows more further = record {
  count = grows.count;
  size = grows.size;
  owned_still = λ image at is. grows.owned image at ∙ or_left (owned_at old image at) (grown image at) is;
  owned_by = λ image at is. by_other (owned_at old image at) (grown image at) (owns image at) (more image at) (sym (grows.owned image at) ∙ is);
  block_still = λ image at is. grows.block image at ∙ or_left (block_at old image at) (named image at) is;
  block_by = λ image at is. by_other (block_at old image at) (named image at) (begins image at) (further image at) (sym (grows.block image at) ∙ is);
}

-- where all that passes is known, it is all that was added
pub grows_all : (old new : Owned) (owns begins : ℕ → ℕ → Bool) → Adds old new owns begins
    → ((image at : ℕ) → owns image at ≡ true → owned_at new image at ≡ true) → ((image at : ℕ) → begins image at ≡ true → block_at new image at ≡ true)
    → Grows old new owns begins
grows_all old new owns begins adds more further = record {
  count = adds.count;
  size = adds.size;
  owned = λ image at.
      same_tests (owned_at new image at) (owned_at old image at || owns image at) (adds.owned_by image at)
      (either_known (owned_at old image at) (owns image at) (owned_at new image at) (adds.owned_still image at) (more image at));
  block = λ image at.
      same_tests (block_at new image at) (block_at old image at || begins image at) (adds.block_by image at)
      (either_known (block_at old image at) (begins image at) (block_at new image at) (adds.block_still image at) (further image at));
}

-- ---- some page passes

here_case : (p : ℕ → Bool) (from count page : ℕ) (same : Bool) → (from == page) ≡ same → from ≤ page → page < from + suc count → p page ≡ true
    → (from + 1 ≤ page → page < from + 1 + count → p page ≡ true → list_any p (range_with_len (from + 1) count) ≡ true)
    → (p from || list_any p (range_with_len (from + 1) count)) ≡ true
here_case p from count page true same low high is later =
    let equal : from ≡ page = grind (arith, nat_tests) in
    or_left (p from) (list_any p (range_with_len (from + 1) count)) (ap p equal ∙ is)
here_case p from count page false same low high is later =
    let apart : from + 1 ≤ page = grind (arith, nat_tests) in
    or_right (p from) (list_any p (range_with_len (from + 1) count)) (later apart (omega arith) is)

range_here : (p : ℕ → Bool) (from count page : ℕ) → from ≤ page → page < from + count → p page ≡ true → list_any p (range_with_len from count) ≡ true
range_here p from zero page low high is = absurd (omega arith)
range_here p from (suc count) page low high is = here_case p from count page (from == page) refl low high is (range_here p (from + 1) count page)

pub any_here : (p : ℕ → Bool) (size page : ℕ) → 1 ≤ page → page ≤ size → p page ≡ true → any_above p 0 size ≡ true
unfolding any_above
any_here p size page low high is = range_here p (0 + 1) (size - 0) page (omega arith) (omega arith) is

found_case : (p : ℕ → Bool) (from count : ℕ) (first : Bool) → p from ≡ first → (first || list_any p (range_with_len (from + 1) count)) ≡ true
    → (list_any p (range_with_len (from + 1) count) ≡ true → (page : ℕ) × (p page ≡ true)) → (page : ℕ) × (p page ≡ true)
found_case p from count true here is later = (from, here)
found_case p from count false here is later = later is

range_found : (p : ℕ → Bool) (from count : ℕ) → list_any p (range_with_len from count) ≡ true → (page : ℕ) × (p page ≡ true)
range_found p from zero is = absurd (let never : false ≡ true = is in cc)
range_found p from (suc count) is = found_case p from count (p from) refl is (range_found p (from + 1) count)

pub any_found : (p : ℕ → Bool) (size : ℕ) → any_above p 0 size ≡ true → (page : ℕ) × (p page ≡ true)
unfolding any_above
any_found p size is = range_found p (0 + 1) (size - 0) is
