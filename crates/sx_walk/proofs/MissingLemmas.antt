-- The references to pages without a view, counted anew, page by page.
use Rattle.std.proofs.Common.{◌≡◌, ℕ, ◌<◌, Bool, true, List, set, length, map, get_or, Some, None, ◌⊎◌, inl, inr, refl, sym, ap, ◌∙◌, arith}
use Rattle.std.proofs.lemmas.Bool.{cases_eq}
use Rattle.std.proofs.lemmas.List.{length-set, length-map, get_or-set_other, get_or-set_same, get_or-map, ext_get_or}
use Rattle.sx_closure.specs.declared.pair.Pair.{Pair}
use Rattle.sx_closure.specs.Graph.{Rises}
use Rattle.sx_closure.specs.Tallying.{rank_of}
use Rattle.sx_closure.proofs.Ranks.{rank_found}
use Rattle.sx_follow.specs.Sums.{Sums}
use Rattle.sx_follow.specs.Keeping.{has_page}
use Rattle.sx_walk.specs.Renewing.{unsaid_count, has_rank}
use Rattle.sx_walk.specs.Missing.{Recounts}
use Rattle.sx_walk.proofs.TurnLemmas.{rank_is}

-- ---- one page

put_case : (shown : ℕ → Bool) (sums : Sums) (numbers before : List ℕ) (own at rank count : ℕ) → Rises numbers → length before ≡ length numbers → rank_of numbers own ≡ Some at
    → at < length before → count ≡ unsaid_count shown sums own → rank < length numbers → (rank ≡ at) ⊎ (rank ≡ at → ⊥)
    → (get_or numbers rank 0 ≡ own) ⊎ (get_or before rank 0 ≡ unsaid_count shown sums (get_or numbers rank 0))
    → get_or (set before at count) rank 0 ≡ unsaid_count shown sums (get_or numbers rank 0)
put_case shown sums numbers before own at rank count rises long ranked low is within (inl same) which =
    ap (λ r. get_or (set before at count) r 0) same ∙ get_or-set_same before at count 0 low ∙ is ∙ ap (unsaid_count shown sums) (sym (rank_is numbers own at ranked))
    ∙ ap (λ r. unsaid_count shown sums (get_or numbers r 0)) (sym same)
put_case shown sums numbers before own at rank count rises long ranked low is within (inr differ) (inr old) = get_or-set_other before at rank count 0 differ ∙ old
put_case shown sums numbers before own at rank count rises long ranked low is within (inr differ) (inl there) =
    let both : Some rank ≡ Some at = sym (rank_found numbers rank own rises within there) ∙ ranked in
    let same : rank ≡ at = cc in
    absurd (differ same)

pub recounts_one : (shown : ℕ → Bool) (sums : Sums) (numbers before : List ℕ) (own at count : ℕ) → Rises numbers → length before ≡ length numbers → rank_of numbers own ≡ Some at
    → at < length before → count ≡ unsaid_count shown sums own → Recounts shown (λ page. page ≡ own) sums numbers before (set before at count)
recounts_one shown sums numbers before own at count rises long ranked low is = record {
  long = length-set before at count;
  agrees = λ rank within which. put_case shown sums numbers before own at rank count rises long ranked low is within (cases_eq rank at) which;
}

-- a page that has no rank
pub recounts_other : (shown : ℕ → Bool) (sums : Sums) (numbers before : List ℕ) (own : ℕ) → Rises numbers → rank_of numbers own ≡ None
    → Recounts shown (λ page. page ≡ own) sums numbers before before
recounts_other shown sums numbers before own rises none = record {
  long = refl;
  agrees = λ rank within which. elim which [
    | inl there ↦ (let never : Some rank ≡ None = sym (rank_found numbers rank own rises within there) ∙ none in cc)
    | inr old ↦ old
  ];
}

-- ---- one after the other

pub recounts_none : (shown : ℕ → Bool) (told : ℕ → Type 0) (sums : Sums) (numbers before : List ℕ) → ((page : ℕ) → told page → ⊥) → Recounts shown told sums numbers before before
recounts_none shown told sums numbers before none = record {
  long = refl;
  agrees = λ rank within which. elim which [
    | inl there ↦ absurd (none (get_or numbers rank 0) there)
    | inr old ↦ old
  ];
}

pub recounts_more : (shown : ℕ → Bool) (told next all : ℕ → Type 0) (sums : Sums) (numbers before mid now : List ℕ) → ((page : ℕ) → all page → told page ⊎ next page)
    → Recounts shown told sums numbers before mid → Recounts shown next sums numbers mid now → Recounts shown all sums numbers before now
recounts_more shown told next all sums numbers before mid now split first second = record {
  long = second.long ∙ first.long;
  agrees = λ rank within which. elim which [
    | inl there ↦ elim (split (get_or numbers rank 0) there) [
      | inl early ↦ second.agrees rank within (inr (first.agrees rank within (inl early)))
      | inr late ↦ second.agrees rank within (inl late)
    ]
    | inr old ↦ second.agrees rank within (inr (first.agrees rank within (inr old)))
  ];
}

-- those that were named, those that lost a name, and those whose views were taken anew
pub recounts_both : (shown : ℕ → Bool) (named lost some others : List Pair) (changed : List ℕ) (sums : Sums) (numbers before mid late now : List ℕ) → some ≡ named → others ≡ lost
    → Recounts shown (λ page. has_page some page ≡ true) sums numbers before mid → Recounts shown (λ page. has_page others page ≡ true) sums numbers mid late
    → Recounts shown (λ page. has_rank numbers changed page ≡ true) sums numbers late now
    → Recounts shown (λ page. (has_page named page ≡ true) ⊎ ((has_page lost page ≡ true) ⊎ (has_rank numbers changed page ≡ true))) sums numbers before now
recounts_both shown named lost some others changed sums numbers before mid late now some_is others_is one two three =
    let rest : ℕ → Type 0 = λ page. (has_page lost page ≡ true) ⊎ (has_rank numbers changed page ≡ true) in
    let later : Recounts shown rest sums numbers mid now =
    recounts_more shown (λ page. has_page others page ≡ true) (λ page. has_rank numbers changed page ≡ true) rest sums numbers mid late now (λ page which.
    elim which [
      | inl early ↦ inl (ap (λ pairs. has_page pairs page) others_is ∙ early)
      | inr last ↦ inr last
    ]) two three in
    recounts_more shown (λ page. has_page some page ≡ true) rest (λ page. (has_page named page ≡ true) ⊎ rest page) sums numbers before mid now (λ page which.
    elim which [
      | inl early ↦ inl (ap (λ pairs. has_page pairs page) some_is ∙ early)
      | inr last ↦ inr last
    ]) one later

-- ---- all pages have the count that the sums say, where those that aren't told had it

pub all_recounted : (shown : ℕ → Bool) (told : ℕ → Type 0) (sums : Sums) (numbers before now : List ℕ) → length before ≡ length numbers → Recounts shown told sums numbers before now
    → ((rank : ℕ) → rank < length numbers → told (get_or numbers rank 0) ⊎ (get_or before rank 0 ≡ unsaid_count shown sums (get_or numbers rank 0)))
    → now ≡ map (unsaid_count shown sums) numbers
all_recounted shown told sums numbers before now long recounts each =
    let same : length now ≡ length numbers = recounts.long ∙ long in
    ext_get_or 0 now (map (unsaid_count shown sums) numbers) (same ∙ sym (length-map numbers (unsaid_count shown sums)))
    (λ rank low.
    let within : rank < length numbers = omega (arith, low, same) in
    recounts.agrees rank within (each rank within) ∙ sym (get_or-map (unsaid_count shown sums) numbers rank 0 0 within))
