-- The numbers of overflow pages, where those of some were written anew: they are right everywhere, where each of them fits that
-- of the page before and those of the pages behind fit it.
use Rattle.std.proofs.Common.{◌≡◌, ℕ, zero, suc, ◌+◌, ◌-◌, ◌*◌, ◌<◌, ◌≤◌, Bool, true, false, cond, List, [], ◌∷◌, length, Option, Some, None, ◌⊎◌, inl, inr, refl, sym, ap, subst, ◌∙◌, arith, add-mul, one-mul}
use Rattle.std.specs.Option.{option_map}
use Rattle.sx_closure.specs.declared.pair.Source.{Source}
use Rattle.sx_closure.specs.declared.pair.Source.TheVariants.{Root, Cell, Page}
use Rattle.sx_closure.specs.declared.pair.Target.{Target}
use Rattle.sx_closure.specs.Chains.{page_of, page_before, rest_of, rest_at, IsChain, is_overflow, IsLeft, number_by, number_of}
use Rattle.sx_closure.proofs.Numbering.{IsNumber, number_step, left_is}
use Rattle.sx_walk.proofs.ChainLemmas.{before_one, chain_one, IsChained}

either : (b : Bool) → (b ≡ true) ⊎ (b ≡ false)
either true = inl refl
either false = inr refl

-- ---- a page has one chain at most

source_both : (source : Source) (more rest before : ℕ) → rest_of source more ≡ Some rest → page_of source ≡ Some before → ⊥
source_both Root more rest before is at = let never : None ≡ Some rest = is in cc
source_both (Cell page cell) more rest before is at = let never : None ≡ Some before = at in cc
source_both (Page page) more rest before is at = let never : None ≡ Some rest = is in cc

cell_or_page : (one : Option Target) (rest before : ℕ) → rest_at one ≡ Some rest → page_before one ≡ Some before → ⊥
cell_or_page None rest before is at = let never : None ≡ Some rest = is in cc
cell_or_page (Some target) rest before is at = source_both target.source target.rest rest before is at

chain_same : (one : ℕ → Option Target) (page rest more : ℕ) (pages others : List ℕ) → IsChain one rest (page ∷ pages) → IsChain one more (page ∷ others)
    → (rest ≡ more) × (pages ≡ others)
chain_same one page rest more [] [] first second =
    let both : Some rest ≡ Some more = sym first ∙ second in
    let same : rest ≡ more = cc in
    (same, refl)
chain_same one page rest more [] (next ∷ others) first second = absurd (cell_or_page (one page) rest next first second.0)
chain_same one page rest more (before ∷ pages) [] first second = absurd (cell_or_page (one page) more before second first.0)
chain_same one page rest more (before ∷ pages) (next ∷ others) first second =
    let both : Some before ≡ Some next = sym first.0 ∙ second.0 in
    let same : before ≡ next = cc in
    let tail = chain_same one before rest more pages others first.1 (subst (λ number. IsChain one more (number ∷ others)) (sym same) second.1) in
    (tail.0, ap (λ number. number ∷ pages) same ∙ ap (λ list. next ∷ list) tail.1)

left_same : (one : ℕ → Option Target) (body page : ℕ) (left other : Option ℕ) → IsLeft one body page left → IsLeft one body page other → left ≡ other
left_same one body page None None is also = refl
left_same one body page None (Some other) is also = absurd (is also.0 also.1 also.2)
left_same one body page (Some left) None is also = absurd (also is.0 is.1 is.2)
left_same one body page (Some left) (Some other) is also =
    let same = chain_same one page is.1 also.1 is.2.before also.2.before is.2.chain also.2.chain in
    let places : is.0 ≡ also.0 = is.2.long ∙ ap (λ pages. length pages + 1) same.1 ∙ sym also.2.long in
    ap Some (is.3 ∙ ap (λ rest. rest - (is.0 - 1) * body) same.0 ∙ ap (λ place. also.1 - (place - 1) * body) places ∙ sym also.3)

-- ---- right numbers keep the rule

-- the number of the page before, if there is one
abbrev pub left_by : (ℕ → Option ℕ) → Option ℕ → Option ℕ
left_by lefts None = None
left_by lefts (Some before) = lefts before

number_before : (one : ℕ → Option Target) (body page before : ℕ) (left : Option ℕ) → IsChained one → is_overflow (one page) ≡ true → page_before (one page) ≡ Some before
    → IsLeft one body before left → IsNumber one body before left
number_before one body page before None chained over at is = λ rest pages chain.
    let first = before_one one page before (one page) refl at in
    let next = chain_one one rest before pages chain in
    let role : is_overflow (one before) ≡ true =
    ap is_overflow next.is ∙ chained page before first.target next.target first.is (ap is_overflow (sym first.is) ∙ over) (ap page_before (sym first.is) ∙ at) next.is in
    is (length pages + 1) rest (record { before = pages; chain = chain; long = refl; role = role })
number_before one body page before (Some left) chained over at is =
    let long = is.2.long in
    (is.1, is.2.before, is.2.chain, is.3 ∙ ap (λ count. is.1 - count * body) (omega (arith, long)))

ruled_of : (one : ℕ → Option Target) (lefts : ℕ → Option ℕ) (body page : ℕ) → IsChained one → ((number : ℕ) → IsLeft one body number (lefts number))
    → is_overflow (one page) ≡ true → lefts page ≡ number_of body (one page) (left_by lefts (page_before (one page)))
ruled_of one lefts body page chained all over =
    let before : Option ℕ = left_by lefts (page_before (one page)) in
    let number : IsNumber one body page (number_of body (one page) before) =
    number_step one body page before (one page) refl
    (λ number at. subst (IsNumber one body number) (sym (ap (left_by lefts) at)) (number_before one body page number (lefts number) chained over at (all number))) in
    left_same one body page (lefts page) (number_of body (one page) before) (all page)
    (subst (IsLeft one body page) (ap (λ b. cond b (number_of body (one page) before) None) over) (left_is one body page (number_of body (one page) before) number))

-- ---- the number by a reference

source_rest : (body : ℕ) (source : Source) (more rest : ℕ) (before : Option ℕ) → rest_of source more ≡ Some rest → number_by body source more before ≡ Some rest
source_rest body Root more rest before is = let never : None ≡ Some rest = is in cc
source_rest body (Cell page cell) more rest before is = is
source_rest body (Page page) more rest before is = let never : None ≡ Some rest = is in cc

cell_number : (body : ℕ) (one : Option Target) (rest : ℕ) (before : Option ℕ) → rest_at one ≡ Some rest → number_of body one before ≡ Some rest
cell_number body None rest before is = let never : None ≡ Some rest = is in cc
cell_number body (Some target) rest before is = source_rest body target.source target.rest rest before is

source_page_number : (body : ℕ) (source : Source) (more next : ℕ) (before : Option ℕ) → page_of source ≡ Some next → number_by body source more before ≡ option_map (λ left. left - body) before
source_page_number body Root more next before at = let never : None ≡ Some next = at in cc
source_page_number body (Cell page cell) more next before at = let never : None ≡ Some next = at in cc
source_page_number body (Page page) more next before at = refl

page_number : (body : ℕ) (one : Option Target) (next : ℕ) (before : Option ℕ) → page_before one ≡ Some next → number_of body one before ≡ option_map (λ left. left - body) before
page_number body None next before at = let never : None ≡ Some next = at in cc
page_number body (Some target) next before at = source_page_number body target.source target.rest next before at

-- a reference comes from a cell, or from a page, or gives no number
abbrev pub ByCell : Option Target → Type 0
ByCell one = (rest : ℕ) × (rest_at one ≡ Some rest)

abbrev pub ByPage : Option Target → Type 0
ByPage one = (before : ℕ) × (page_before one ≡ Some before)

abbrev pub ByNone : ℕ → Option Target → Type 0
ByNone body one = (before : Option ℕ) → number_of body one before ≡ None

source_cases : (body : ℕ) (target : Target) (source : Source) → target.source ≡ source → ByCell (Some target) ⊎ (ByPage (Some target) ⊎ ByNone body (Some target))
source_cases body target Root is = inr (inr (λ before. ap (λ s. number_by body s target.rest before) is))
source_cases body target (Cell page cell) is = inl (target.rest, ap (λ s. rest_of s target.rest) is)
source_cases body target (Page page) is = inr (inl (page, ap page_of is))

by_source : (body : ℕ) (one : Option Target) → ByCell one ⊎ (ByPage one ⊎ ByNone body one)
by_source body None = inr (inr (λ before. refl))
by_source body (Some target) = source_cases body target target.source refl

body_less : (left rest count body : ℕ) → left ≡ rest - count * body → left - body ≡ rest - (count + 1) * body
body_less left rest count body is =
    let parts : (count + 1) * body ≡ count * body + body = grind (arith, add-mul, one-mul) in
    omega (arith, is, parts)

-- ---- the numbers of a moment, of which those of some pages were written anew since the moment before

module _ (one was : ℕ → Option Target) (lefts before : ℕ → Option ℕ) (touched : ℕ → Bool) (body most : ℕ) (positive : 0 < body)
    (over_is : (page left : ℕ) → lefts page ≡ Some left → is_overflow (one page) ≡ true) (below : (page left : ℕ) → lefts page ≡ Some left → left < most)
    (chained : IsChained one) (chained_was : IsChained was) (known : (page : ℕ) → IsLeft was body page (before page))
    (same_one : (page : ℕ) → touched page ≡ false → one page ≡ was page) (same_left : (page : ℕ) → touched page ≡ false → lefts page ≡ before page)
    (ruled : (page : ℕ) → touched page ≡ true → is_overflow (one page) ≡ true → lefts page ≡ number_of body (one page) (left_by lefts (page_before (one page))))
    (goes_on : (page next : ℕ) → touched page ≡ true → is_overflow (one page) ≡ true → page_before (one page) ≡ Some next → lefts next ≡ Some 0 → ⊥)
    (behind : (page next : ℕ) → touched next ≡ true → is_overflow (one page) ≡ true → page_before (one page) ≡ Some next
    → lefts page ≡ number_of body (one page) (left_by lefts (page_before (one page)))) where
  -- the rule holds of all pages
  kept_ruled : (page : ℕ) → touched page ≡ false → is_overflow (one page) ≡ true → left_by before (page_before (one page)) ≡ left_by lefts (page_before (one page))
      → lefts page ≡ number_of body (one page) (left_by lefts (page_before (one page)))
  kept_ruled page out over same =
      same_left page out ∙ ruled_of was before body page chained_was known (ap is_overflow (sym (same_one page out)) ∙ over)
      ∙ ap (λ o. number_of body o (left_by before (page_before o))) (sym (same_one page out)) ∙ ap (number_of body (one page)) same

  before_case : (page : ℕ) (o : Option ℕ) → page_before (one page) ≡ o → touched page ≡ false → is_overflow (one page) ≡ true
      → lefts page ≡ number_of body (one page) (left_by lefts (page_before (one page)))
  before_case page None at out over = kept_ruled page out over (ap (left_by before) at ∙ sym (ap (left_by lefts) at))
  before_case page (Some next) at out over =
      elim (either (touched next)) [
        | inl there ↦ behind page next there over at
        | inr none ↦ kept_ruled page out over (ap (left_by before) at ∙ sym (same_left next none) ∙ sym (ap (left_by lefts) at))
      ]

  ruled_at : (page : ℕ) → is_overflow (one page) ≡ true → lefts page ≡ number_of body (one page) (left_by lefts (page_before (one page)))
  ruled_at page over =
      elim (either (touched page)) [
        | inl there ↦ ruled page there over
        | inr out ↦ before_case page (page_before (one page)) refl out over
      ]

  ruled_by : (page next : ℕ) → is_overflow (one page) ≡ true → page_before (one page) ≡ Some next → lefts page ≡ option_map (λ left. left - body) (lefts next)
  ruled_by page next over at =
      ruled_at page over ∙ page_number body (one page) next (left_by lefts (page_before (one page))) at ∙ ap (λ o. option_map (λ left. left - body) (left_by lefts o)) at

  -- a page of a chain has its number
  come : (pages : List ℕ) (page rest : ℕ) → is_overflow (one page) ≡ true → IsChain one rest (page ∷ pages) → lefts page ≡ Some (rest - length pages * body)
  come [] page rest over chain =
      ruled_at page over ∙ cell_number body (one page) rest (left_by lefts (page_before (one page))) chain ∙ ap Some (omega arith)
  come (next ∷ pages) page rest over chain =
      let first = before_one one page next (one page) refl chain.0 in
      let other = chain_one one rest next pages chain.1 in
      let role : is_overflow (one next) ≡ true =
      ap is_overflow other.is ∙ chained page next first.target other.target first.is (ap is_overflow (sym first.is) ∙ over) (ap page_before (sym first.is) ∙ chain.0) other.is in
      ruled_by page next over chain.0 ∙ ap (option_map (λ left. left - body)) (come pages next rest role chain.1)
      ∙ ap Some (body_less (rest - length pages * body) rest (length pages) body refl ∙ ap (λ count. rest - count * body) (omega arith))

  -- and a page with a number has a chain: the way back ends, since the numbers rise where it passes a page that was numbered
  -- anew, and elsewhere it goes along the chain of the moment before
  record HasChain (page : ℕ) : Type 0 where
    pub rest : ℕ
    pub pages : List ℕ
    pub chain : IsChain one rest (page ∷ pages)

  on : (page next : ℕ) → page_before (one page) ≡ Some next → HasChain next → HasChain page
  on page next at chain = record { rest = chain.rest; pages = next ∷ chain.pages; chain = (at, chain.chain) }

  step_case : (page next left : ℕ) (o : Option ℕ) → lefts next ≡ o → is_overflow (one page) ≡ true → page_before (one page) ≡ Some next → lefts page ≡ Some left
      → ((more : ℕ) → lefts next ≡ Some more → left ≡ more - body → HasChain next) → HasChain page
  step_case page next left None none over at is go =
      let never : Some left ≡ None = sym is ∙ ruled_by page next over at ∙ ap (option_map (λ n. n - body)) none in
      cc
  step_case page next left (Some more) some over at is go =
      let both : Some left ≡ Some (more - body) = sym is ∙ ruled_by page next over at ∙ ap (option_map (λ n. n - body)) some in
      let same : left ≡ more - body = cc in
      on page next at (go more some same)

  more_case : (m page next left more : ℕ) → touched page ≡ true → is_overflow (one page) ≡ true → page_before (one page) ≡ Some next → lefts next ≡ Some more → left ≡ more - body
      → most ≤ left + suc m → most ≤ more + m
  more_case m page next left zero there over at some less low = absurd (goes_on page next there over at some)
  more_case m page next left (suc more) there over at some less low = omega (arith, less, low, positive)

  from_touched : (m : ℕ) → ((page left : ℕ) → most ≤ left + m → lefts page ≡ Some left → HasChain page)
      → (page left : ℕ) → touched page ≡ true → most ≤ left + suc m → lefts page ≡ Some left → HasChain page
  from_touched m known_before page left there low is =
      let over = over_is page left is in
      elim (by_source body (one page)) [
        | inl (rest, at) ↦ record { rest = rest; pages = []; chain = at }
        | inr (inl (next, at)) ↦ step_case page next left (lefts next) refl over at is
            (λ more some less. known_before next more (more_case m page next left more there over at some less low) some)
        | inr (inr none) ↦ (let never : Some left ≡ None = sym is ∙ ruled_at page over ∙ none (left_by lefts (page_before (one page))) in cc)
      ]

  walk : (m : ℕ) → ((page left : ℕ) → most ≤ left + m → lefts page ≡ Some left → HasChain page)
      → (list : List ℕ) (page left rest : ℕ) → touched page ≡ false → most ≤ left + suc m → lefts page ≡ Some left → IsChain was rest (page ∷ list) → HasChain page
  walk m known_before [] page left rest out low is chain = record { rest = rest; pages = []; chain = ap rest_at (same_one page out) ∙ chain }
  walk m known_before (next ∷ list) page left rest out low is chain =
      let at : page_before (one page) ≡ Some next = ap page_before (same_one page out) ∙ chain.0 in
      step_case page next left (lefts next) refl (over_is page left is) at is (λ more some less.
      let high : most ≤ more + suc m = omega (arith, less, low) in
      elim (either (touched next)) [
        | inl there ↦ from_touched m known_before next more there high some
        | inr none ↦ walk m known_before list next more rest none high some chain.1
      ])

  from_known : (m page left : ℕ) (o : Option ℕ) → ((page left : ℕ) → most ≤ left + m → lefts page ≡ Some left → HasChain page) → before page ≡ o → IsLeft was body page o
      → touched page ≡ false → most ≤ left + suc m → lefts page ≡ Some left → HasChain page
  from_known m page left None known_before none placed out low is = let never : Some left ≡ None = sym is ∙ same_left page out ∙ none in cc
  from_known m page left (Some old) known_before some placed out low is = walk m known_before placed.2.before page left placed.1 out low is placed.2.chain

  sound : (m page left : ℕ) → most ≤ left + m → lefts page ≡ Some left → HasChain page
  sound zero page left low is = let high = below page left is in absurd (omega (arith, high, low))
  sound (suc m) page left low is =
      elim (either (touched page)) [
        | inl there ↦ from_touched m (λ other more low_more some. sound m other more low_more some) page left there low is
        | inr out ↦ from_known m page left (before page) (λ other more low_more some. sound m other more low_more some) refl (known page) out low is
      ]

  final_case : (page : ℕ) (o : Option ℕ) → lefts page ≡ o → IsLeft one body page o
  final_case page None none = λ place rest placed.
      (let never : None ≡ Some (rest - length placed.before * body) = sym none ∙ come placed.before page rest placed.role placed.chain in cc)
  final_case page (Some left) some =
      let chain = sound most page left (omega arith) some in
      let role = over_is page left some in
      let both : Some left ≡ Some (chain.rest - length chain.pages * body) = sym some ∙ come chain.pages page chain.rest role chain.chain in
      let same : left ≡ chain.rest - length chain.pages * body = cc in (
        length chain.pages + 1,
        chain.rest,
        record { before = chain.pages; chain = chain.chain; long = refl; role = role },
        same ∙ ap (λ count. chain.rest - count * body) (omega arith),
      )

  pub all_left : (page : ℕ) → IsLeft one body page (lefts page)
  all_left page = final_case page (lefts page) refl
