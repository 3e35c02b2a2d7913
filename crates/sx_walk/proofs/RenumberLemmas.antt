-- Numbers of overflow pages, written anew one after the other.
use Rattle.std.proofs.Common.{◌≡◌, ℕ, zero, suc, ◌+◌, ◌<◌, ◌≤◌, ◌==◌, ◌⊎◌, Bool, true, false, if◌then◌else◌, cond, List, [], ◌∷◌, ◌++◌, length, take, get_or, sum_by, Option, Some, None, inl, inr, refl, sym, ap, subst, ◌∙◌, arith}
use Rattle.std.specs.List.{Contains, list_any, All}
use Rattle.std.specs.Option.{option_map}
use Rattle.std.proofs.lemmas.Bool.{eq-eqb, eqb-true, or_cases, false≢true, cases_lt}
use Rattle.std.proofs.Math.ListN.{get_or-eq_default}
use Rattle.std.proofs.lemmas.List.{get_or_default}
use Rattle.std.proofs.lemmas.List.Sums.{get_or-le-sum_by}
use Rattle.std.proofs.lemmas.List.Elements.{All-nil, All-cons, All-head, All-tail, Contains-push, Contains-append_left}
use Rattle.std.proofs.lemmas.List.Folds.{list_any_more, list_any_at}
use Rattle.sx_closure.specs.declared.pair.Source.{Source}
use Rattle.sx_closure.specs.declared.pair.Source.TheVariants.{Root, Cell, Page}
use Rattle.sx_closure.specs.declared.pair.Target.{Target}
use Rattle.sx_closure.specs.Graph.{Rises}
use Rattle.sx_closure.specs.Chains.{page_of, page_before, is_overflow, number_of}
use Rattle.sx_closure.specs.Tallying.{Table, rank_of, count_of, one_of, one_at, left_by_rank, number_at, left_at, left_before, ruled, put_left}
use Rattle.sx_closure.proofs.Numbering.{Among}
use Rattle.sx_closure.proofs.Putting.{put_left_other, put_left_entry, put_left_dead}
use Rattle.sx_closure.proofs.Ranks.{rank_found}
use Rattle.sx_base.specs.declared.role.Role.TheVariants.{Overflow}
use Rattle.sx_refs.specs.Targets.{linked, target}
use Rattle.sx_walk.specs.Renumbering.{is_listed, is_touched, IsRuled, SayButNumber, Grows, Renumbers, HoldsAt}
use Rattle.sx_walk.proofs.Renumbering.{left_by}

-- ---- ranks that are listed

not_true : (b : Bool) → (b ≡ true → ⊥) → b ≡ false
not_true false none = refl
not_true true none = absurd (none refl)

any_at : (xs : List ℕ) (x : ℕ) → list_any (λ other. other == x) xs ≡ true → Contains xs x
any_at [] x there = absurd (false≢true there)
any_at (y ∷ ys) x there = elim (or_cases (y == x) (list_any (λ other. other == x) ys) there) [
  | inl same ↦ (zero, omega arith, eqb-true y x same)
  | inr rest ↦ (let tail = any_at ys x rest in let low = tail.1 in (suc tail.0, omega (arith, low), tail.2))
]

-- a rank that stands in the list is listed
pub listed : (ranks : List ℕ) (rank : ℕ) → Contains ranks rank → list_any (λ other. other == rank) ranks ≡ true
listed ranks rank (i, within, is) = list_any_at (λ other. other == rank) ranks i rank within (eq-eqb (get_or ranks i rank) rank is)

pub untouched_rank : (numbers ranks : List ℕ) (rank : ℕ) → Rises numbers → rank < length numbers → (Contains ranks rank → ⊥) → is_touched numbers ranks (get_or numbers rank 0) ≡ false
untouched_rank numbers ranks rank rises within none =
    ap (is_listed ranks) (rank_found numbers rank (get_or numbers rank 0) rises within refl)
    ∙ not_true (list_any (λ other. other == rank) ranks) (λ there. none (any_at ranks rank there))

-- a page stays listed as the list grows
grown_case : (some more : List ℕ) (o : Option ℕ) → Grows some more → is_listed some o ≡ true → is_listed more o ≡ true
grown_case some more None grows there = absurd (false≢true there)
grown_case some more (Some rank) grows there = listed more rank (grows rank (any_at some rank there))

pub touched_grows : (numbers some more : List ℕ) (page : ℕ) → Grows some more → is_touched numbers some page ≡ true → is_touched numbers more page ≡ true
touched_grows numbers some more page grows there = grown_case some more (rank_of numbers page) grows there

untouched_before : (numbers some more : List ℕ) (page : ℕ) → Grows some more → is_touched numbers more page ≡ false → is_touched numbers some page ≡ false
untouched_before numbers some more page grows out =
    not_true (is_touched numbers some page) (λ there. false≢true (sym out ∙ touched_grows numbers some more page grows there))

-- one more rank is listed
pub grows_push : (touched more : List ℕ) (rank : ℕ) → more ≡ touched ++ rank ∷ [] → Grows touched more
grows_push touched more rank is item there = subst (λ xs. Contains xs item) (sym is) (Contains-append_left touched (rank ∷ []) item there)

pub put_listed : (numbers touched more : List ℕ) (page rank : ℕ) → rank_of numbers page ≡ Some rank → more ≡ touched ++ rank ∷ [] → is_touched numbers more page ≡ true
put_listed numbers touched more page rank ranked is =
    ap (is_listed more) ranked ∙ listed more rank (subst (λ xs. Contains xs rank) (sym is) (Contains-push touched rank))

pub place_listed : (numbers touched : List ℕ) (place rank page : ℕ) → Rises numbers → place < length touched → get_or touched place 0 ≡ rank → rank < length numbers → get_or numbers rank 0 ≡ page
    → is_touched numbers touched page ≡ true
place_listed numbers touched place rank page rises within is low at =
    ap (is_listed touched) (rank_found numbers rank page rises low at)
    ∙ listed touched rank (place, within, sym (get_or_default touched place 0 rank within) ∙ is)

-- ---- one number

pub say_same : (own : ℕ) (table : Table) → SayButNumber own table table
say_same own table = record { count = λ page. refl; one = λ page. refl; number = λ page differ. refl; dead = refl }

pub say_put : (own : ℕ) (left : Option ℕ) (before now : Table) → now ≡ put_left before own left → SayButNumber own before now
say_put own left before now made =
    subst (SayButNumber own before) (sym made) (record {
      count = λ page. ap count_of (put_left_entry before own left page);
      one = λ page. ap (one_of page) (put_left_entry before own left page);
      number = λ page differ. put_left_other before own left page differ;
      dead = put_left_dead before own left;
    })

-- ---- one number after the other

pub renumbers_none : (numbers ranks : List ℕ) (table : Table) → Renumbers numbers ranks table table
renumbers_none numbers ranks table = record { count = λ page. refl; one = λ page. refl; number = λ page out. refl; dead = refl }

pub renumbers_both : (numbers some more : List ℕ) (before mid now : Table) → Grows some more → Renumbers numbers some before mid → Renumbers numbers more mid now
    → Renumbers numbers more before now
renumbers_both numbers some more before mid now grows first second = record {
  count = λ page. second.count page ∙ first.count page;
  one = λ page. second.one page ∙ first.one page;
  number = λ page out. second.number page out ∙ first.number page (untouched_before numbers some more page grows out);
  dead = second.dead ∙ first.dead;
}

renumbers_said : (numbers ranks : List ℕ) (own : ℕ) (before now : Table) → is_touched numbers ranks own ≡ true → SayButNumber own before now → Renumbers numbers ranks before now
renumbers_said numbers ranks own before now there is = record {
  count = is.count;
  one = is.one;
  number = λ page out. is.number page (λ same. false≢true (sym out ∙ ap (is_touched numbers ranks) (sym same) ∙ there));
  dead = is.dead;
}

pub renumbers_step : (numbers some more : List ℕ) (own : ℕ) (before mid now : Table) → Grows some more → is_touched numbers some own ≡ true → Renumbers numbers some before mid
    → SayButNumber own mid now → Renumbers numbers more before now
renumbers_step numbers some more own before mid now grows there first is =
    renumbers_both numbers some more before mid now grows first
    (renumbers_said numbers more own mid now (touched_grows numbers some more own grows there) is)

-- ---- one page after the other holds

hold_case : (view : ℕ → Option (List ℕ)) (usable : ℕ) (numbers ranks : List ℕ) (i page : ℕ) (table : Table) (o : Option ℕ) → i < length ranks → rank_of numbers page ≡ o
    → is_listed (take (i + 1) ranks) o ≡ true → (is_listed (take i ranks) o ≡ true → HoldsAt view usable table page)
    → ((rank : ℕ) → rank_of numbers page ≡ Some rank → get_or ranks i 0 ≡ rank → HoldsAt view usable table page) → HoldsAt view usable table page
hold_case view usable numbers ranks i page table None within ranked there old new = absurd (false≢true there)
hold_case view usable numbers ranks i page table (Some rank) within ranked there old new =
    elim (or_cases (list_any (λ other. other == rank) (take i ranks)) (get_or ranks i 0 == rank)
    (sym (list_any_more (λ other. other == rank) ranks i 0 within) ∙ there)) [
      | inl early ↦ old early
      | inr last ↦ new rank ranked (eqb-true (get_or ranks i 0) rank last)
    ]

pub holds_more : (view : ℕ → Option (List ℕ)) (usable : ℕ) (numbers ranks : List ℕ) (i : ℕ) (table : Table) → i < length ranks
    → ((page : ℕ) → is_touched numbers (take i ranks) page ≡ true → HoldsAt view usable table page)
    → ((page rank : ℕ) → rank_of numbers page ≡ Some rank → get_or ranks i 0 ≡ rank → HoldsAt view usable table page)
    → (page : ℕ) → is_touched numbers (take (i + 1) ranks) page ≡ true → HoldsAt view usable table page
holds_more view usable numbers ranks i table within old new page there =
    hold_case view usable numbers ranks i page table (rank_of numbers page) within refl there (old page) (new page)

-- the page that a link names
abbrev HasRule : Table → ℕ → Target → Type 0
HasRule table body target = IsRuled table body target.pair.page

link_case : (table : Table) (body page link : ℕ) (b : Bool) → (link == 0) ≡ b → ((link ≡ 0) ⊎ IsRuled table body link)
    → All (HasRule table body) (if b then [] else target link Overflow (Page page) 0 ∷ [])
link_case table body page link true is fits = All-nil (HasRule table body)
link_case table body page link false is (inl none) = absurd (false≢true (sym is ∙ eq-eqb link 0 none))
link_case table body page link false is (inr fits) = All-cons (HasRule table body) (target link Overflow (Page page) 0) [] fits (All-nil (HasRule table body))

pub behind_ruled : (table : Table) (body page link : ℕ) → (link ≡ 0) ⊎ IsRuled table body link → All (λ target. IsRuled table body target.pair.page) (linked link Overflow (Page page))
unfolding linked
behind_ruled table body page link fits = link_case table body page link (link == 0) refl fits

-- ---- the table in the words of its references

pub left_before_is : (table : Table) (before : Option ℕ) → left_before table before ≡ left_by (left_at table) before
left_before_is table None = refl
left_before_is table (Some page) = refl

pub ruled_is : (table : Table) (body page : ℕ) (one : Option Target) → one_at table page ≡ one → ruled body table page ≡ number_of body one (left_by (left_at table) (page_before one))
ruled_is table body page one is =
    ap (λ o. number_of body o (left_before table (page_before o))) is ∙ ap (number_of body one) (left_before_is table (page_before one))

-- a page with a number is an overflow page
over_case : (b : Bool) (number : Option ℕ) (left : ℕ) → cond b number None ≡ Some left → b ≡ true
over_case true number left is = refl
over_case false number left is = let never : None ≡ Some left = is in cc

pub left_over : (table : Table) (page left : ℕ) → left_at table page ≡ Some left → is_overflow (one_at table page) ≡ true
left_over table page left is = over_case (is_overflow (one_at table page)) (number_at table page) left is

-- all numbers are below a number
abbrev number_or : Option ℕ → ℕ
number_or None = 0
number_or (Some left) = left

pub most_left : Table → ℕ
most_left table = suc (sum_by number_or table.lefts)

below_case : (lefts : List (Option ℕ)) (rank left : ℕ) → get_or lefts rank None ≡ Some left → left ≤ sum_by number_or lefts
below_case lefts rank left is =
    elim (cases_lt rank (length lefts)) [
      | inl low ↦
          let part = get_or-le-sum_by number_or lefts rank None low in
          let same : number_or (get_or lefts rank None) ≡ left = ap number_or is in
          omega (arith, part, same)
      | inr past ↦ (let never : None ≡ Some left = sym (get_or-eq_default lefts None past) ∙ is in cc)
    ]

below_rank : (lefts : List (Option ℕ)) (o : Option ℕ) (left : ℕ) → left_by_rank lefts o ≡ Some left → left ≤ sum_by number_or lefts
below_rank lefts None left is = let never : None ≡ Some left = is in cc
below_rank lefts (Some rank) left is = below_case lefts rank left is

number_there : (b : Bool) (number : Option ℕ) (left : ℕ) → cond b number None ≡ Some left → number ≡ Some left
number_there true number left is = is
number_there false number left is = let never : None ≡ Some left = is in cc

pub left_below : (table : Table) (page left : ℕ) → left_at table page ≡ Some left → left < most_left table
unfolding most_left
left_below table page left is =
    let low = below_rank table.lefts (rank_of table.held page) left (number_there (is_overflow (one_at table page)) (number_at table page) left is) in
    omega (arith, low)

-- what holds of all holds of one that stands among them
pub all_among : (P : Target → Type 0) (targets : List Target) (target : Target) → All P targets → Among targets target → P target
all_among P [] target all there = absurd there
all_among P (one ∷ targets) target all (inl same) = subst P same (All-head P one targets all)
all_among P (one ∷ targets) target all (inr there) = all_among P targets target (All-tail P one targets all) there

-- where a page's one reference comes from a page
source_case : (source : Source) (before : ℕ) → source ≡ Page before → page_of source ≡ Some before
source_case source before is = ap page_of is

pub page_by_source : (one : Option Target) (before : ℕ) → option_map (λ target. target.source) one ≡ Some (Page before) → page_before one ≡ Some before
page_by_source None before is = let never : None ≡ Some (Page before) = is in cc
page_by_source (Some target) before is =
    let both : Some target.source ≡ Some (Page before) = is in
    let same : target.source ≡ Page before = cc in
    source_case target.source before same

-- else it comes from none
other_case : (source : Source) (page : ℕ) → ((before : ℕ) → source ≡ Page before → ⊥) → page_of source ≡ Some page → ⊥
other_case Root page other at = let never : None ≡ Some page = at in cc
other_case (Cell number cell) page other at = let never : None ≡ Some page = at in cc
other_case (Page number) page other at = other number refl

pub no_page_by_source : (one : Option Target) (page : ℕ) → ((before : ℕ) → option_map (λ target. target.source) one ≡ Some (Page before) → ⊥) → page_before one ≡ Some page → ⊥
no_page_by_source None page other at = let never : None ≡ Some page = at in cc
no_page_by_source (Some target) page other at = other_case target.source page (λ before is. other before (ap Some is)) at
