-- The walk along the freeblocks: it ends, and its list is the one that the rules determine.
use Rattle.std.proofs.Common.{◌≡◌, inl, inr, ℕ, zero, suc, ◌+◌, ◌-◌, ◌<◌, ◌≤◌, List, [], ◌∷◌, length, Option, Some, None, refl, sym, ap, ◌∙◌, arith}
use Rattle.std.specs.List.{AllByRecursion}
use Rattle.std.proofs.lemmas.Bool.{cases_eq}
use Rattle.std.proofs.lemmas.Bool.Decides.{nat_tests}
use Rattle.sx_base.specs.declared.evidence.Span.{Span}
use Rattle.sx_node.specs.Freeblocks.{counts, after, IsWalk, listed, walk, blocks_from}

-- what holds of a block that counts
record Counts (usable at size : ℕ) : Type 0 where
  some : 0 < at
  least : 4 ≤ size
  fits : at + size ≤ usable

counted : (page : List ℕ) (usable at size : ℕ) → counts page usable at ≡ Some size → Counts usable at size
unfolding counts
counted page usable at size is = record { some = grind (arith, nat_tests); least = grind (arith, nat_tests); fits = grind (arith, nat_tests) }

-- the walk doesn't go back
after_past : (page : List ℕ) (at end : ℕ) → (after page at end ≡ 0 → ⊥) → end ≤ after page at end
unfolding after
after_past page at end some = grind (arith, nat_tests)

none_at_zero : (page : List ℕ) (usable : ℕ) → counts page usable 0 ≡ None
unfolding counts
none_at_zero page usable = refl

none_past : (page : List ℕ) (usable at : ℕ) → usable ≤ at → counts page usable at ≡ None
unfolding counts
none_past page usable at past = grind (arith, nat_tests)

-- where no block counts there is none, whatever the bound on their number
walk_none : (most : ℕ) (page : List ℕ) (usable at : ℕ) → counts page usable at ≡ None → walk most page usable at ≡ []
walk_none zero page usable at none = refl
walk_none (suc most) page usable at none = rw none refl

walk_zero : (most : ℕ) (page : List ℕ) (usable at : ℕ) → at ≡ 0 → walk most page usable at ≡ []
walk_zero most page usable at is = walk_none most page usable at (ap (counts page usable) is ∙ none_at_zero page usable)

listed_same : (size : Option ℕ) (f g : ℕ → List Span) → ((n : ℕ) → size ≡ Some n → f n ≡ g n) → listed size f ≡ listed size g
listed_same None f g same = refl
listed_same (Some n) f g same = same n refl

-- behind a block that counts two bounds give the same, if they do further on
behind_same : (m n : ℕ) (page : List ℕ) (usable at size : ℕ) → counts page usable at ≡ Some size
    → ((next : ℕ) → at + 4 ≤ next → walk m page usable next ≡ walk n page usable next)
    → walk m page usable (after page at (at + size)) ≡ walk n page usable (after page at (at + size))
behind_same m n page usable at size is further =
    let next = after page at (at + size) in
    let block = counted page usable at size is in
    elim (cases_eq next 0) [
      | inl ends ↦ walk_zero m page usable next ends ∙ sym (walk_zero n page usable next ends)
      | inr goes_on ↦ further next (omega (arith, block.least, after_past page at (at + size) goes_on))
    ]

-- a bound that reaches the end of the usable bytes doesn't matter
enough : (m n : ℕ) (page : List ℕ) (usable at : ℕ) → usable ≤ m + at → usable ≤ n + at → walk m page usable at ≡ walk n page usable at
enough zero n page usable at left right = sym (walk_none n page usable at (none_past page usable at (omega arith)))
enough (suc m) zero page usable at left right = walk_none (suc m) page usable at (none_past page usable at (omega arith))
enough (suc m) (suc n) page usable at left right =
    listed_same (counts page usable at) _ _
    (λ size is. ap (λ rest. (record { start = at; len = size }) ∷ rest)
    (behind_same m n page usable at size is (λ next behind. enough m n page usable next (omega arith) (omega arith))))

pub no_block : (page : List ℕ) (usable at : ℕ) → counts page usable at ≡ None → blocks_from page usable at ≡ []
unfolding blocks_from
no_block page usable at none = walk_none usable page usable at none

walk_more : (most : ℕ) (page : List ℕ) (usable at size : ℕ) → counts page usable at ≡ Some size
    → walk (suc most) page usable at ≡ (record { start = at; len = size }) ∷ walk most page usable (after page at (at + size))
walk_more most page usable at size is = rw is refl

pub one_block : (page : List ℕ) (usable at size : ℕ) → counts page usable at ≡ Some size
    → blocks_from page usable at ≡ record { start = at; len = size } ∷ blocks_from page usable (after page at (at + size))
unfolding blocks_from
one_block page usable at size is =
    let block = counted page usable at size is in
    let most = usable - 1 in
    let one : usable ≡ suc most = omega (arith, block.fits, block.least) in
    ap (λ n. walk n page usable at) one
    ∙ walk_more most page usable at size is
    ∙ ap (λ rest. (record { start = at; len = size }) ∷ rest)
    (behind_same most usable page usable at size is
    (λ next behind. enough most usable page usable next (omega (arith, block.some)) (omega arith)))

-- ---- how many there are, and where they lie

length_listed : (size : Option ℕ) (f : ℕ → List Span) (most : ℕ) → ((n : ℕ) → length (f n) ≤ most) → length (listed size f) ≤ most
length_listed None f most few = omega arith
length_listed (Some n) f most few = few n

length_walk : (most : ℕ) (page : List ℕ) (usable at : ℕ) → length (walk most page usable at) ≤ most
length_walk zero page usable at = omega arith
length_walk (suc most) page usable at =
    length_listed (counts page usable at) _ (suc most)
    (λ size. let tail = length_walk most page usable (after page at (at + size)) in omega (arith, tail))

pub few_blocks : (page : List ℕ) (usable at : ℕ) → length (blocks_from page usable at) ≤ usable
unfolding blocks_from
few_blocks page usable at = length_walk usable page usable at

-- the block has at least its first four bytes, and ends within the usable ones
abbrev pub IsBlock : ℕ → Span → Type 0
IsBlock usable block = (4 ≤ block.len) × (block.start + block.len ≤ usable)

listed_all : (P : Span → Type 0) (size : Option ℕ) (f : ℕ → List Span) → ((n : ℕ) → size ≡ Some n → AllByRecursion P (f n))
    → AllByRecursion P (listed size f)
listed_all P None f all = tt
listed_all P (Some n) f all = all n refl

walk_within : (most : ℕ) (page : List ℕ) (usable at : ℕ) → AllByRecursion (IsBlock usable) (walk most page usable at)
walk_within zero page usable at = tt
walk_within (suc most) page usable at =
    listed_all (IsBlock usable) (counts page usable at) _
    (λ size is. let block = counted page usable at size is in
    ((block.least, block.fits), walk_within most page usable (after page at (at + size))))

pub blocks_within : (page : List ℕ) (usable at : ℕ) → AllByRecursion (IsBlock usable) (blocks_from page usable at)
unfolding blocks_from
blocks_within page usable at = walk_within usable page usable at

-- ---- the list that the rules determine

walk_case : (most : ℕ) (page : List ℕ) (usable at : ℕ) (size : Option ℕ) → counts page usable at ≡ size
    → ((n : ℕ) → size ≡ Some n → IsWalk page usable (after page at (at + n)) (walk most page usable (after page at (at + n))))
    → IsWalk page usable at (listed size (λ n. (record { start = at; len = n }) ∷ walk most page usable (after page at (at + n))))
walk_case most page usable at None is further = is
walk_case most page usable at (Some n) is further = (refl, is, further n refl)

walk_at_zero : (most : ℕ) (page : List ℕ) (usable at : ℕ) → at ≡ 0 → IsWalk page usable at (walk most page usable at)
walk_at_zero most page usable at is = rw (walk_zero most page usable at is) (ap (counts page usable) is ∙ none_at_zero page usable)

walk_is : (most : ℕ) (page : List ℕ) (usable at : ℕ) → usable ≤ most + at → IsWalk page usable at (walk most page usable at)
walk_is zero page usable at reach = none_past page usable at (omega arith)
walk_is (suc most) page usable at reach =
    walk_case most page usable at (counts page usable at) refl
    (λ size is.
    let next = after page at (at + size) in
    let block = counted page usable at size is in
    elim (cases_eq next 0) [
      | inl ends ↦ walk_at_zero most page usable next ends
      | inr goes_on ↦ walk_is most page usable next (omega (arith, block.least, after_past page at (at + size) goes_on))
    ])

pub are_blocks : (page : List ℕ) (usable at : ℕ) → IsWalk page usable at (blocks_from page usable at)
unfolding blocks_from
are_blocks page usable at = walk_is usable page usable at (omega arith)

block_is : (block : Span) (at : ℕ) → block.start ≡ at → block ≡ record { start = at; len = block.len }
block_is block at is = rw (← is) refl

pub one_walk : (page : List ℕ) (usable at : ℕ) (blocks : List Span) → IsWalk page usable at blocks → blocks ≡ blocks_from page usable at
one_walk page usable at [] is = sym (no_block page usable at is)
one_walk page usable at (block ∷ blocks) is =
    let tail = one_walk page usable (after page at (at + block.len)) blocks is.2 in
    ap (λ first. first ∷ blocks) (block_is block at is.0)
    ∙ ap (λ rest. (record { start = at; len = block.len }) ∷ rest) tail
    ∙ sym (one_block page usable at block.len is.1)
