-- The entries of a table written anew, page by page.
use Rattle.std.proofs.Common.{◌≡◌, ℕ, ◌+◌, ◌<◌, ◌==◌, Bool, true, false, cond, List, [], ◌∷◌, length, get_or, take, Option, Some, None, ◌⊎◌, inl, inr, refl, sym, ap, subst, ◌∙◌}
use Rattle.std.specs.List.{Contains}
use Rattle.std.proofs.lemmas.Bool.{eq-eqb, eqb-true, or_cases, cases_eq, false≢true}
use Rattle.std.proofs.lemmas.List.Elements.{Contains-push, Contains-append_left}
use Rattle.std.proofs.lemmas.List.Folds.{list_any_more}
use Rattle.sx_closure.specs.declared.pair.Pair.{Pair}
use Rattle.sx_closure.specs.declared.pair.Target.{Target}
use Rattle.sx_closure.specs.Graph.{Rises}
use Rattle.sx_closure.specs.Tallying.{rank_of, entry_at, entry_of, count_of, one_of, Table, put, number_at}
use Rattle.sx_closure.proofs.Ranks.{rank_found}
use Rattle.sx_closure.proofs.Putting.{put_other, put_number, count_put, one_put_none, one_put_some}
use Rattle.sx_follow.specs.declared.sums.Sum.{Sum}
use Rattle.sx_follow.specs.Sums.{Sums}
use Rattle.sx_follow.specs.Climbing.{all_of}
use Rattle.sx_follow.specs.Following.{sum_of}
use Rattle.sx_follow.specs.Keeping.{has_page}
use Rattle.sx_follow.specs.Ones.{role_in, source_in, one_in, the_one}
use Rattle.sx_walk.specs.Renewing.{said_count, said_one, Agrees, has_rank, SameEntry, noted, Renews}

-- ---- the one reference as the sums tell it

none_case : (page : ℕ) (sum : Sum) (b : Bool) → (all_of sum == 1) ≡ b → one_in page sum ≡ None → b ≡ false
none_case page sum false is none = refl
none_case page sum true is none =
    let one : one_in page sum ≡ Some (record { pair = record { page = page; role = role_in sum }; source = source_in sum; rest = sum.rest }) =
    ap (λ b. cond b (Some (record { pair = record { page = page; role = role_in sum }; source = source_in sum; rest = sum.rest })) None) is in
    let never : None ≡ Some (record { pair = record { page = page; role = role_in sum }; source = source_in sum; rest = sum.rest }) = sym none ∙ one in
    cc

one_in_none : (page : ℕ) (sum : Sum) → one_in page sum ≡ None → all_of sum ≡ 1 → ⊥
one_in_none page sum none one = false≢true (sym (none_case page sum (all_of sum == 1) refl none) ∙ eq-eqb (all_of sum) 1 one)

some_case : (page : ℕ) (sum : Sum) (target : Target) (b : Bool) → (all_of sum == 1) ≡ b → one_in page sum ≡ Some target → (all_of sum ≡ 1) × (target.pair.page ≡ page)
some_case page sum target false is some =
    let none : one_in page sum ≡ None = ap (λ b. cond b (Some (record { pair = record { page = page; role = role_in sum }; source = source_in sum; rest = sum.rest })) None) is in
    let never : None ≡ Some target = sym none ∙ some in
    cc
some_case page sum target true is some =
    let made : Target = record { pair = record { page = page; role = role_in sum }; source = source_in sum; rest = sum.rest } in
    let one : one_in page sum ≡ Some made = ap (λ b. cond b (Some made) None) is in
    let both : Some made ≡ Some target = sym one ∙ some in
    let same : made ≡ target = cc in
    (eqb-true (all_of sum) 1 is, ap (λ t. t.pair.page) (sym same))

one_put : (page count : ℕ) (sum : Sum) (one : Option Target) → count ≡ all_of sum → one ≡ one_in page sum → one_of page (Some (entry_of count one)) ≡ one
one_put page count sum None count_is one_is = one_put_none page count (λ is. one_in_none page sum (sym one_is) (sym count_is ∙ is))
one_put page count sum (Some target) count_is one_is =
    let parts = some_case page sum target (all_of sum == 1) refl (sym one_is) in
    one_put_some page count target (count_is ∙ parts.0) parts.1

-- ---- one page

one_said : (shown : ℕ → Bool) (sums : Sums) (page count : ℕ) (one : Option Target) (b : Bool) → shown page ≡ b → count ≡ said_count shown sums page
    → one ≡ said_one shown sums page → one_of page (Some (entry_of count one)) ≡ one
one_said shown sums page count one true is count_is one_is =
    one_put page count (sum_of sums page) one (count_is ∙ ap (λ b. cond b (all_of (sum_of sums page)) 0) is) (one_is ∙ ap (λ b. cond b (the_one sums page) None) is)
one_said shown sums page count one false is count_is one_is =
    let none : one ≡ None = one_is ∙ ap (λ b. cond b (the_one sums page) None) is in
    let zero_count : count ≡ 0 = count_is ∙ ap (λ b. cond b (all_of (sum_of sums page)) 0) is in
    ap (λ n. one_of page (Some (entry_of n one))) zero_count ∙ ap (λ o. one_of page (Some (entry_of 0 o))) none ∙ sym none

renewed_there : (shown : ℕ → Bool) (sums : Sums) (before now : Table) (page count : ℕ) (one : Option Target) → count ≡ said_count shown sums page → one ≡ said_one shown sums page
    → entry_at now.held now.entries page ≡ Some (entry_of count one) → Agrees shown now sums page
renewed_there shown sums before now page count one count_is one_is entry = record {
  count = ap count_of entry ∙ count_put count one ∙ count_is;
  one = ap (one_of page) entry ∙ one_said shown sums page count one (shown page) refl count_is one_is ∙ one_is;
}

other_entry : (before now : Table) (page other : ℕ) (count : ℕ) (one : Option Target) → now ≡ put before page (entry_of count one) → (page ≡ other → ⊥) → SameEntry before now other
other_entry before now page other count one made differ =
    let same : entry_at now.held now.entries other ≡ entry_at before.held before.entries other =
    ap (λ table. entry_at table.held table.entries other) made ∙ put_other before page (entry_of count one) other differ in
    record { count = ap count_of same; one = ap (one_of other) same }

agrees_case : (shown : ℕ → Bool) (sums : Sums) (before now : Table) (own page : ℕ) → Agrees shown now sums own → ((page ≡ own → ⊥) → SameEntry before now page)
    → (page ≡ own) ⊎ (page ≡ own → ⊥) → (page ≡ own) ⊎ Agrees shown before sums page → Agrees shown now sums page
agrees_case shown sums before now own page there other (inl same) which = subst (Agrees shown now sums) (sym same) there
agrees_case shown sums before now own page there other (inr differ) (inl same) = absurd (differ same)
agrees_case shown sums before now own page there other (inr differ) (inr old) =
    let same = other differ in
    record { count = same.count ∙ old.count; one = same.one ∙ old.one }

noted_rank : (numbers : List ℕ) (own rank : ℕ) (o : Option ℕ) (touched : List ℕ) → rank_of numbers own ≡ Some rank → Contains (noted (rank_of numbers own) touched) rank
noted_rank numbers own rank o touched ranked = subst (λ found. Contains (noted found touched) rank) (sym ranked) (Contains-push touched rank)

noted_grows : (o : Option ℕ) (touched : List ℕ) (rank : ℕ) → Contains touched rank → Contains (noted o touched) rank
noted_grows None touched rank there = there
noted_grows (Some other) touched rank there = Contains-append_left touched (other ∷ []) rank there

notes_case : (before now : Table) (numbers touched more : List ℕ) (own rank : ℕ) → Rises numbers → rank < length numbers → more ≡ noted (rank_of numbers own) touched
    → (Contains more rank → ⊥) → ((page : ℕ) → (page ≡ own → ⊥) → SameEntry before now page) → (get_or numbers rank 0 ≡ own) ⊎ (get_or numbers rank 0 ≡ own → ⊥)
    → SameEntry before now (get_or numbers rank 0)
notes_case before now numbers touched more own rank rises within made none other (inr differ) = other (get_or numbers rank 0) differ
notes_case before now numbers touched more own rank rises within made none other (inl same) =
    absurd (none (subst (λ xs. Contains xs rank) (sym made) (noted_rank numbers own rank (rank_of numbers own) touched (rank_found numbers rank own rises within same))))

pub renews_one : (shown : ℕ → Bool) (sums : Sums) (numbers : List ℕ) (before now : Table) (own count : ℕ) (one : Option Target) (touched more : List ℕ) → Rises numbers
    → count ≡ said_count shown sums own → one ≡ said_one shown sums own → now ≡ put before own (entry_of count one) → entry_at now.held now.entries own ≡ Some (entry_of count one)
    → more ≡ noted (rank_of numbers own) touched → Renews shown (λ page. page ≡ own) sums numbers before now touched more
renews_one shown sums numbers before now own count one touched more rises count_is one_is made entry noted_is =
    let there = renewed_there shown sums before now own count one count_is one_is entry in
    let other : (page : ℕ) → (page ≡ own → ⊥) → SameEntry before now page = λ page differ. other_entry before now own page count one made (λ same. differ (sym same)) in
    record {
      agrees = λ page which. agrees_case shown sums before now own page there (other page) (cases_eq page own) which;
      numbers_stay = λ page. ap (λ table. number_at table page) made ∙ put_number before own (entry_of count one) page;
      grows = λ rank there_is. subst (λ xs. Contains xs rank) (sym noted_is) (noted_grows (rank_of numbers own) touched rank there_is);
      notes = λ rank within none. notes_case before now numbers touched more own rank rises within noted_is none other (cases_eq (get_or numbers rank 0) own);
    }

-- ---- one after the other

pub renews_none : (shown : ℕ → Bool) (told : ℕ → Type 0) (sums : Sums) (numbers : List ℕ) (table : Table) (touched : List ℕ) → ((page : ℕ) → told page → ⊥)
    → Renews shown told sums numbers table table touched touched
renews_none shown told sums numbers table touched none = record {
  agrees = λ page which. elim which [
    | inl there ↦ absurd (none page there)
    | inr old ↦ old
  ];
  numbers_stay = λ page. refl;
  grows = λ rank there. there;
  notes = λ rank within none. record { count = refl; one = refl };
}

pub renews_more : (shown : ℕ → Bool) (told next all : ℕ → Type 0) (sums : Sums) (numbers : List ℕ) (before mid now : Table) (touched more most : List ℕ)
    → ((page : ℕ) → all page → told page ⊎ next page)
    → Renews shown told sums numbers before mid touched more → Renews shown next sums numbers mid now more most → Renews shown all sums numbers before now touched most
renews_more shown told next all sums numbers before mid now touched more most split first second = record {
  agrees = λ page which. elim which [
    | inl there ↦ elim (split page there) [
      | inl early ↦ second.agrees page (inr (first.agrees page (inl early)))
      | inr late ↦ second.agrees page (inl late)
    ]
    | inr old ↦ second.agrees page (inr (first.agrees page (inr old)))
  ];
  numbers_stay = λ page. second.numbers_stay page ∙ first.numbers_stay page;
  grows = λ rank there. second.grows rank (first.grows rank there);
  notes = λ rank within none.
      let one = first.notes rank within (λ there. none (second.grows rank there)) in
      let two = second.notes rank within none in
      record { count = two.count ∙ one.count; one = two.one ∙ one.one };
}

-- one more pair of a list
pub one_more_page : (pairs : List Pair) (i : ℕ) (pair : Pair) (page : ℕ) → i < length pairs → has_page (take (i + 1) pairs) page ≡ true
    → (has_page (take i pairs) page ≡ true) ⊎ (page ≡ (get_or pairs i pair).page)
one_more_page pairs i pair page within there =
    elim (or_cases (has_page (take i pairs) page) ((get_or pairs i pair).page == page)
    (sym (list_any_more (λ p. p.page == page) pairs i pair within) ∙ there)) [
      | inl old ↦ inl old
      | inr new ↦ inr (sym (eqb-true (get_or pairs i pair).page page new))
    ]

dead_renews : (shown : ℕ → Bool) (told : ℕ → Type 0) (sums : Sums) (numbers : List ℕ) (before now : Table) (touched more : List ℕ) (dead : ℕ) → Renews shown told sums numbers before now touched more
    → Renews shown told sums numbers before (record now { dead = dead }) touched more
dead_renews shown told sums numbers before now touched more dead is = record {
  agrees = λ page which. (let old = is.agrees page which in record { count = old.count; one = old.one });
  numbers_stay = is.numbers_stay;
  grows = is.grows;
  notes = λ rank within none. (let old = is.notes rank within none in record { count = old.count; one = old.one });
}

-- and one more rank
pub one_more_rank : (numbers changed : List ℕ) (i page : ℕ) → i < length changed → has_rank numbers (take (i + 1) changed) page ≡ true
    → (has_rank numbers (take i changed) page ≡ true) ⊎ (page ≡ get_or numbers (get_or changed i 0) 0)
one_more_rank numbers changed i page within there =
    elim (or_cases (has_rank numbers (take i changed) page) (get_or numbers (get_or changed i 0) 0 == page)
    (sym (list_any_more (λ rank. get_or numbers rank 0 == page) changed i 0 within) ∙ there)) [
      | inl old ↦ inl old
      | inr new ↦ inr (sym (eqb-true (get_or numbers (get_or changed i 0) 0) page new))
    ]

-- those that were named, those that lost a name, and those whose views were taken anew; then the count of dead links
pub renews_both : (shown : ℕ → Bool) (named lost some others : List Pair) (changed : List ℕ) (sums : Sums) (numbers : List ℕ) (before mid late last now : Table) (dead : ℕ)
    (first touched more most : List ℕ) → first ≡ [] → some ≡ named → others ≡ lost → Renews shown (λ page. has_page some page ≡ true) sums numbers before mid first touched
    → Renews shown (λ page. has_page others page ≡ true) sums numbers mid late touched more → Renews shown (λ page. has_rank numbers changed page ≡ true) sums numbers late last more most
    → now ≡ record last { dead = dead }
    → Renews shown (λ page. (has_page named page ≡ true) ⊎ ((has_page lost page ≡ true) ⊎ (has_rank numbers changed page ≡ true))) sums numbers before now [] most
renews_both shown named lost some others changed sums numbers before mid late last now dead first touched more most empty some_is others_is one two three made =
    let rest : ℕ → Type 0 = λ page. (has_page lost page ≡ true) ⊎ (has_rank numbers changed page ≡ true) in
    let told : ℕ → Type 0 = λ page. (has_page named page ≡ true) ⊎ ((has_page lost page ≡ true) ⊎ (has_rank numbers changed page ≡ true)) in
    let later : Renews shown rest sums numbers mid last touched most =
    renews_more shown (λ page. has_page others page ≡ true) (λ page. has_rank numbers changed page ≡ true) rest sums numbers mid late last touched more most (λ page which.
    elim which [
      | inl early ↦ inl (ap (λ pairs. has_page pairs page) others_is ∙ early)
      | inr late ↦ inr late
    ]) two three in
    let all : Renews shown told sums numbers before last first most =
    renews_more shown (λ page. has_page some page ≡ true) rest told sums numbers before mid last first touched most (λ page which.
    elim which [
      | inl early ↦ inl (ap (λ pairs. has_page pairs page) some_is ∙ early)
      | inr late ↦ inr late
    ]) one later in
    subst (λ table. Renews shown told sums numbers before table [] most) (sym made)
    (dead_renews shown told sums numbers before last [] most dead (subst (λ xs. Renews shown told sums numbers before last xs most) empty all))
