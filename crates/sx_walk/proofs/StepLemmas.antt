-- A step from the references of one moment to those of the next.
use Rattle.std.proofs.Common.{◌≡◌, ℕ, zero, suc, ◌+◌, ◌-◌, ◌<◌, ◌≤◌, ◌==◌, Bool, true, false, cond, ℤ, List, [], ◌∷◌, ◌++◌, length, map, filter, get_or, sum, sum_by, Option, Some, None, is_some, ◌⊎◌, inl, inr, refl, sym, ap, subst, ◌∙◌, arith}
use Rattle.std.specs.List.{Contains, range_with_len}
use Rattle.std.specs.Option.{option_map}
use Rattle.std.proofs.lemmas.Bool.{eq-eqb, false≢true}
use Rattle.std.proofs.lemmas.List.Folds.{list_any_at}
use Rattle.std.proofs.lemmas.List.{get_or_default, get_or-map, length-map}
use Rattle.std.proofs.lemmas.List.Sums.{sum-map}
use Rattle.sx_base.specs.declared.layout.Layout.{Layout}
use Rattle.sx_base.specs.Held.{held_pages}
use Rattle.sx_closure.specs.declared.pair.Pair.{Pair}
use Rattle.sx_closure.specs.declared.pair.Target.{Target}
use Rattle.sx_base.specs.declared.role.Role.TheVariants.{Overflow}
use Rattle.sx_closure.specs.Graph.{Graph, IsGraph, Rises, is_held}
use Rattle.sx_closure.specs.Chains.{one_reference, page_before, is_overflow, IsLeft}
use Rattle.sx_closure.proofs.Numbering.{Among}
use Rattle.sx_closure.specs.Tallying.{rank_of, Table, one_at, number_at, left_at, IsTableOf}
use Rattle.sx_closure.proofs.Tallies.{rank_is_some}
use Rattle.sx_follow.specs.Sums.{Sums}
use Rattle.sx_follow.specs.Climbing.{all_of}
use Rattle.sx_follow.specs.Following.{sum_of, HasFollowed, CanFollow}
use Rattle.sx_follow.specs.Keeping.{has_page, AreKeptBut}
use Rattle.sx_follow.specs.Ones.{one_in}
use Rattle.sx_follow.specs.Gathered.{IsChange}
use Rattle.sx_follow.proofs.Following.{order_apart}
use Rattle.sx_follow.proofs.FollowLemmas.{met_marked}
use Rattle.sx_follow.proofs.Widening.{are_references_of}
use Rattle.sx_follow.specs.Widened.{widened, AreReferencesOf}
use Rattle.sx_follow.proofs.Gathering.{gathered_start, gathered_same, gathered_follow}
use Rattle.sx_refs.specs.Pages.{all_roots, if_held, graph_of}
use Rattle.sx_refs.specs.Covering.{Covers}
use Rattle.sx_walk.specs.Walks.{SayOther}
use Rattle.sx_walk.specs.Turning.{HasUsable, Exchanges, view_by, view_in, named_in, HasTurned}
use Rattle.sx_walk.specs.Keeping.{IsKept}
use Rattle.sx_walk.specs.Renewing.{unsaid_count, Agrees, has_rank, Renews}
use Rattle.sx_walk.specs.Missing.{Recounts}
use Rattle.sx_walk.proofs.MissingLemmas.{all_recounted}
use Rattle.sx_walk.proofs.Shown.{graph_shown, is_wider, said_counts, said_ones, said_dead}
use Rattle.sx_walk.specs.Stepping.{HasStepped}
use Rattle.sx_walk.proofs.Views.{map_at}
use Rattle.sx_walk.proofs.TurnLemmas.{rank_is}
use Rattle.sx_walk.proofs.ChainLemmas.{IsPaged, is_paged, IsChained, before_overflow, named_as_overflow}
use Rattle.sx_walk.specs.Renumbering.{is_listed, is_touched, Grows, IsRuled, HoldsAt, IsRenumbered}
use Rattle.sx_walk.proofs.Renumbering.{all_left}
use Rattle.sx_walk.proofs.RenumberLemmas.{listed, untouched_rank, ruled_is, left_over, most_left, left_below, all_among}

-- ---- views

-- the view of a rank, as the code has it in hand
pub view_at : {A : Type 0} (copied : A → Option (List ℕ)) (views : List A) (rank : ℕ) (none : A) → rank < length views
    → copied (get_or views rank none) ≡ get_or (map copied views) rank None
view_at copied [] rank none within = absurd (omega (arith, within))
view_at copied (one ∷ views) zero none within = refl
view_at copied (one ∷ views) (suc rank) none within = view_at copied views rank none (omega (arith, within))

within_case : (held : List ℕ) (rank : ℕ) (b : Bool) (o : Option ℕ) → ((r : ℕ) → o ≡ Some r → r < length held)
    → cond b (Some 0) (option_map (λ r. r + 1) o) ≡ Some rank → rank < length held + 1
within_case held rank true o below is = let both : Some 0 ≡ Some rank = is in let same : 0 ≡ rank = cc in omega (arith, same)
within_case held rank false None below is = let never : None ≡ Some rank = is in cc
within_case held rank false (Some r) below is =
    let both : Some (r + 1) ≡ Some rank = is in
    let same : r + 1 ≡ rank = cc in
    let low = below r refl in
    omega (arith, same, low)

pub rank_within : (numbers : List ℕ) (page rank : ℕ) → rank_of numbers page ≡ Some rank → rank < length numbers
rank_within [] page rank ranked = let never : None ≡ Some rank = ranked in cc
rank_within (number ∷ numbers) page rank ranked =
    let low = within_case numbers rank (number == page) (rank_of numbers page) (rank_within numbers page) ranked in
    omega (arith, low)

none_view : (view : Option (List ℕ)) → (is_some view ≡ true → ⊥) → view ≡ None
none_view None none = refl
none_view (Some page) none = absurd (none refl)

by_case : (numbers : List ℕ) (view : ℕ → Option (List ℕ)) (number : ℕ) (o : Option ℕ) → Covers numbers view → rank_of numbers number ≡ o → view_by (map view numbers) o ≡ view number
by_case numbers view number (Some rank) covered ranked = map_at view numbers rank (rank_within numbers number rank ranked) ∙ ap view (rank_is numbers number rank ranked)
by_case numbers view number None covered ranked =
    sym (none_view (view number) (λ there.
    let at = covered number there in
    let held : is_held numbers number ≡ true = list_any_at (λ n. n == number) numbers at.0 number at.1 (eq-eqb (get_or numbers at.0 number) number at.2) in
    false≢true (ap is_some (sym ranked) ∙ rank_is_some numbers number ∙ held)))

-- a list of all views by rank has the view of each page
view_is : (numbers : List ℕ) (views : List (Option (List ℕ))) (view : ℕ → Option (List ℕ)) (number : ℕ) → Covers numbers view → views ≡ map view numbers
    → view_in numbers views number ≡ view number
view_is numbers views view number covered are = ap (λ vs. view_in numbers vs number) are ∙ by_case numbers view number (rank_of numbers number) covered refl

filter_same : (some others : ℕ → Bool) (xs : List ℕ) → ((x : ℕ) → some x ≡ others x) → filter some xs ≡ filter others xs
filter_same some others [] same = refl
filter_same some others (x ∷ xs) same =
    ap (λ b. cond b (x ∷ filter some xs) (filter some xs)) (same x) ∙ ap (λ rest. cond (others x) (x ∷ rest) rest) (filter_same some others xs same)

pub held_same : (size : ℕ) (view next : ℕ → Option (List ℕ)) → ((number : ℕ) → is_some (next number) ≡ is_some (view number)) → held_pages size view ≡ held_pages size next
unfolding held_pages
held_same size view next same = filter_same (λ number. is_some (view number)) (λ number. is_some (next number)) (range_with_len 1 size) (λ number. sym (same number))

pub usable_at : (usable : ℕ) (view : ℕ → Option (List ℕ)) (numbers : List ℕ) (rank : ℕ) → ((number : ℕ) → HasUsable usable (view number))
    → HasUsable usable (get_or (map view numbers) rank None)
usable_at usable view [] rank each = tt
usable_at usable view (number ∷ numbers) zero each = each number
usable_at usable view (number ∷ numbers) (suc rank) each = usable_at usable view numbers rank each

pub kept_usable : (numbers : List ℕ) (views : List (Option (List ℕ))) (usable : ℕ) (table : Table) (sums : Sums) (trail : List Target) (missing : List ℕ)
    → IsKept numbers views usable table sums trail missing → (rank : ℕ) → HasUsable usable (get_or views rank None)
kept_usable numbers views usable table sums trail missing kept rank =
    subst (λ all. HasUsable usable (get_or all rank None)) (sym kept.views_are) (usable_at usable kept.view numbers rank kept.usable)

pub has_usable : (usable page_size : ℕ) (view : Option (List ℕ)) → usable ≤ page_size → page_size ≤ 65536 → ((page : List ℕ) → view ≡ Some page → length page ≡ page_size)
    → HasUsable usable view
has_usable usable page_size None within small whole = tt
has_usable usable page_size (Some page) within small whole = let long = whole page refl in (omega (arith, long, within), omega (arith, long, small))

pub next_kept : (numbers : List ℕ) (views : List (Option (List ℕ))) (size : ℕ) (layout : Layout) (roots : List ℤ) (table : Table) (sums : Sums) (trail : List Target)
    (missing : List ℕ) (next : ℕ → Option (List ℕ)) (page_size usable : ℕ) → layout.usable ≡ usable → Covers numbers next → views ≡ map next numbers → layout.usable ≤ page_size → page_size ≤ 65536
    → ((number : ℕ) (page : List ℕ) → next number ≡ Some page → length page ≡ page_size)
    → ((number : ℕ) → size < number → next number ≡ None) → next 0 ≡ None → IsGraph (graph_of size next layout roots)
    → IsGraph (widened numbers (graph_of size next layout roots))
    → IsTableOf (graph_of size next layout roots) (layout.usable - 4) table → HasFollowed (widened numbers (graph_of size next layout roots)) sums
    → trail ≡ all_roots (held_pages size next) layout roots → missing ≡ map (unsaid_count (λ number. is_some (next number)) sums) numbers
    → IsKept numbers views usable table sums trail missing
next_kept numbers views size layout roots table sums trail missing next page_size usable bytes covered are fits small whole within from_one good wide is followed trail_is missing_is = record {
  size = size;
  view = next;
  layout = layout;
  roots = roots;
  bytes = bytes;
  covered = covered;
  views_are = are;
  usable = λ number. subst (λ n. HasUsable n (next number)) bytes (has_usable layout.usable page_size (next number) fits small (whole number));
  within = within;
  from_one = from_one;
  good = good;
  wide = wide;
  table_is = subst (λ n. IsTableOf (graph_of size next layout roots) (n - 4) table) bytes is;
  followed = followed;
  trail_is = trail_is;
  missing_is = missing_is;
}

-- ---- the sums can be followed

module _ (numbers : List ℕ) (views now : List (Option (List ℕ))) (size : ℕ) (layout : Layout) (roots : List ℤ) (table : Table) (sums : Sums) (trail : List Target) (next : ℕ → Option (List ℕ))
    (come coming gone going : List Target) (missing : List ℕ) (kept : IsKept numbers views layout.usable table sums trail missing) (covers : Covers numbers next) (now_are : now ≡ map next numbers)
    (turned : HasTurned next sums layout.usable numbers views now come coming gone going) where
  pub can_follow : (first last new : List Target) → first ≡ [] → last ≡ [] → new ≡ all_roots (held_pages size next) layout roots → Exchanges trail new first come last gone
      → CanFollow (widened numbers (graph_of size next layout roots)) sums coming going
  unfolding graph_of
  can_follow first last new no_first no_last new_is exchange =
      let prior = widened numbers (graph_of kept.size kept.view kept.layout kept.roots) in
      let graph = widened numbers (graph_of size next layout roots) in
      let met = kept.followed.met in
      let change : IsChange prior.roots graph.roots come gone =
      subst (λ xs. IsChange xs graph.roots come gone) kept.trail_is
      (subst (λ xs. IsChange trail xs come gone) new_is
      (subst (λ xs. IsChange trail new xs gone) (sym (exchange.coming_is ∙ ap (λ front. front ++ exchange.more) no_first))
      (subst (λ xs. IsChange trail new exchange.more xs) (sym (exchange.going_is ∙ ap (λ front. front ++ exchange.less) no_last)) exchange.change))) in
      let was : (pair : Pair) → prior.targets pair ≡ named_in layout.usable numbers views pair = λ pair.
      ap (λ v. if_held v pair kept.layout.usable) (sym (view_is numbers views kept.view pair.page kept.covered kept.views_are))
      ∙ ap (if_held (view_in numbers views pair.page) pair) kept.bytes in
      let start = gathered_same prior graph met prior.targets (named_in layout.usable numbers views) come gone (λ pair there. was pair) (gathered_start prior graph met come gone change) in
      let end = turned.gathers prior graph met (order_apart prior [] met kept.followed.order) (λ pair. met_marked prior sums pair kept.wide kept.followed) (λ pair. refl) start in
      gathered_follow prior graph sums (named_in layout.usable numbers now) coming going kept.wide kept.followed refl
      (λ pair there. ap (λ v. if_held v pair layout.usable) (view_is numbers now next pair.page covers now_are)) end

-- ---- a page whose rank isn't listed has the view that it had

same_rank : (numbers changed : List ℕ) (views : List (Option (List ℕ))) (view next : ℕ → Option (List ℕ)) (page : ℕ) → views ≡ map view numbers
    → ((rank : ℕ) → rank < length numbers → (Contains changed rank → ⊥) → get_or views rank None ≡ next (get_or numbers rank 0))
    → has_rank numbers changed page ≡ false → Contains numbers page → next page ≡ view page
same_rank numbers changed views view next page are stand out (rank, within, is) =
    let number : get_or numbers rank 0 ≡ page = get_or_default numbers rank 0 page within ∙ is in
    let none : Contains changed rank → ⊥ = λ there.
    false≢true (sym out ∙ list_any_at (λ r. get_or numbers r 0 == page) changed there.0 0 there.1
    (eq-eqb (get_or numbers (get_or changed there.0 0) 0) page (ap (λ r. get_or numbers r 0) (get_or_default changed there.0 0 rank there.1 ∙ there.2) ∙ number))) in
    ap next (sym number) ∙ sym (stand rank within none) ∙ ap (λ vs. get_or vs rank None) are ∙ map_at view numbers rank within ∙ ap view number

same_case : (numbers : List ℕ) (view next : ℕ → Option (List ℕ)) (page : ℕ) (before now : Option (List ℕ)) → Covers numbers view → Covers numbers next → view page ≡ before → next page ≡ now
    → (Contains numbers page → next page ≡ view page) → next page ≡ view page
same_case numbers view next page (Some old) now covered covers was is same = same (covered page (ap is_some was))
same_case numbers view next page None (Some new) covered covers was is same = same (covers page (ap is_some is))
same_case numbers view next page None None covered covers was is same = is ∙ sym was

pub same_view : (numbers changed : List ℕ) (views : List (Option (List ℕ))) (view next : ℕ → Option (List ℕ)) (page : ℕ) → views ≡ map view numbers → Covers numbers view → Covers numbers next
    → ((rank : ℕ) → rank < length numbers → (Contains changed rank → ⊥) → get_or views rank None ≡ next (get_or numbers rank 0))
    → has_rank numbers changed page ≡ false → next page ≡ view page
same_view numbers changed views view next page are covered covers stand out =
    same_case numbers view next page (view page) (next page) covered covers refl refl (same_rank numbers changed views view next page are stand out)

-- ---- the table that was written anew

before_overflow_of : (graph : Graph) → IsPaged graph → IsChained (one_reference graph)
before_overflow_of graph paged page before target other one over of next = before_overflow graph page before target other paged one over of next

-- the page behind one whose number was written anew
behind_case : (graph : Graph) (view : ℕ → Option (List ℕ)) (usable page next : ℕ) (final : Table) (o : Option Target) → IsPaged graph
    → ((pair : Pair) → graph.targets pair ≡ if_held (view pair.page) pair usable) → HoldsAt view usable final next
    → one_reference graph page ≡ o → is_overflow o ≡ true → page_before o ≡ Some next → IsRuled final (usable - 4) page
behind_case graph view usable page next final None paged targets holds one over at = let never : None ≡ Some next = at in cc
behind_case graph view usable page next final (Some target) paged targets holds one over at =
    let named = named_as_overflow graph page next target paged one over at in
    subst (IsRuled final (usable - 4)) named.1
    (all_among (λ t. IsRuled final (usable - 4) t.pair.page) (if_held (view next) (record { page = next; role = Overflow }) usable) target holds.behind
    (subst (λ xs. Among xs target) (targets (record { page = next; role = Overflow })) named.0))

left_case : (before now : Table) (page : ℕ) → one_at now page ≡ one_at before page → number_at now page ≡ number_at before page → left_at now page ≡ left_at before page
left_case before now page one number =
    ap (λ o. cond (is_overflow o) (number_at now page) None) one ∙ ap (λ n. cond (is_overflow (one_at before page)) n None) number

page_case : (named lost : List Pair) (numbers changed : List ℕ) (page : ℕ) (b c d : Bool) → has_page named page ≡ b → has_page lost page ≡ c → has_rank numbers changed page ≡ d
    → ((has_page named page ≡ true) ⊎ ((has_page lost page ≡ true) ⊎ (has_rank numbers changed page ≡ true)))
    ⊎ ((has_page named page ≡ false) × (has_page lost page ≡ false) × (has_rank numbers changed page ≡ false))
page_case named lost numbers changed page true c d is at there = inl (inl is)
page_case named lost numbers changed page false true d is at there = inl (inr (inl at))
page_case named lost numbers changed page false false true is at there = inl (inr (inr there))
page_case named lost numbers changed page false false false is at there = inr (is, at, there)

module _ (prior graph : Graph) (view : ℕ → Option (List ℕ)) (usable : ℕ) (numbers : List ℕ) (before now final : Table) (all sums : Sums) (named lost : List Pair) (changed touched ranks : List ℕ)
    (was : IsTableOf prior (usable - 4) before) (least : 480 ≤ usable) (rises : Rises numbers) (shown_before shown : ℕ → Bool)
    (held_before : (page : ℕ) → is_held prior.held page ≡ shown_before page) (held_now : (page : ℕ) → is_held graph.held page ≡ shown page)
    (same : (page : ℕ) → has_rank numbers changed page ≡ false → shown page ≡ shown_before page)
    (unranked_before : (page : ℕ) → rank_of numbers page ≡ None → shown_before page ≡ false) (unranked : (page : ℕ) → rank_of numbers page ≡ None → shown page ≡ false)
    (known : AreReferencesOf prior all) (is : AreReferencesOf graph sums) (kept : AreKeptBut named lost all sums)
    (renews : Renews shown (λ page. (has_page named page ≡ true) ⊎ ((has_page lost page ≡ true) ⊎ (has_rank numbers changed page ≡ true))) sums numbers before now [] touched)
    (grows : Grows touched ranks) (renumbered : IsRenumbered view usable numbers ranks now final)
    (held : sums.held ≡ numbers) (dead : now.dead ≡ sums.dead + sum_by (unsaid_count shown sums) numbers)
    (paged : IsPaged prior) (pages : IsPaged graph) (targets : (pair : Pair) → graph.targets pair ≡ if_held (view pair.page) pair usable) where
  stays : (page : ℕ) → has_page named page ≡ false → has_page lost page ≡ false → has_rank numbers changed page ≡ false → Agrees shown before sums page
  stays page none_named none_lost none_changed =
      let sum = kept page none_named none_lost in
      let seen = same page none_changed in
      record {
        count = was.counts page ∙ sym (said_counts prior shown_before all held_before known page)
            ∙ ap (λ b. cond b (all_of (sum_of all page)) 0) (sym seen) ∙ ap (λ one. cond (shown page) (all_of one) 0) (sym sum);
        one = was.ones page ∙ sym (said_ones prior shown_before all held_before known page)
            ∙ ap (λ b. cond b (one_in page (sum_of all page)) None) (sym seen) ∙ ap (λ one. cond (shown page) (one_in page one) None) (sym sum);
      }

  agrees : (page : ℕ) → Agrees shown now sums page
  agrees page =
      renews.agrees page (elim (page_case named lost numbers changed page (has_page named page) (has_page lost page) (has_rank numbers changed page) refl refl refl) [
        | inl there ↦ inl there
        | inr none ↦ inr (stays page none.0 none.1 none.2)
      ])

  one_before : (page : ℕ) → one_at before page ≡ one_reference prior page
  one_before page = was.ones page

  one_final : (page : ℕ) → one_at final page ≡ one_reference graph page
  one_final page = renumbered.renumbers.one page ∙ (agrees page).one ∙ said_ones graph shown sums held_now is page

  -- a page that isn't touched has the reference and the number that it had
  untouched_case : (page : ℕ) (o : Option ℕ) → rank_of numbers page ≡ o → is_listed ranks o ≡ false → one_reference graph page ≡ one_reference prior page
  untouched_case page None ranked out =
      sym (said_ones graph shown sums held_now is page) ∙ ap (λ b. cond b (one_in page (sum_of sums page)) None) (unranked page ranked)
      ∙ sym (ap (λ b. cond b (one_in page (sum_of all page)) None) (unranked_before page ranked)) ∙ said_ones prior shown_before all held_before known page
  untouched_case page (Some rank) ranked out =
      let entry = renews.notes rank (rank_within numbers page rank ranked) (λ there. false≢true (sym out ∙ listed ranks rank (grows rank there))) in
      let at : get_or numbers rank 0 ≡ page = rank_is numbers page rank ranked in
      sym (one_final page) ∙ renumbered.renumbers.one page ∙ subst (λ p. one_at now p ≡ one_at before p) at entry.one ∙ one_before page

  same_one : (page : ℕ) → is_touched numbers ranks page ≡ false → one_reference graph page ≡ one_reference prior page
  same_one page out = untouched_case page (rank_of numbers page) refl out

  same_left : (page : ℕ) → is_touched numbers ranks page ≡ false → left_at final page ≡ left_at before page
  same_left page out =
      left_case before final page (one_final page ∙ same_one page out ∙ sym (one_before page))
      (renumbered.renumbers.number page out ∙ renews.numbers_stay page)

  over_final : (page : ℕ) → is_overflow (one_reference graph page) ≡ true → is_overflow (one_at final page) ≡ true
  over_final page over = ap is_overflow (one_final page) ∙ over

  lefts : (page : ℕ) → IsLeft (one_reference graph) (usable - 4) page (left_at final page)
  lefts page =
      all_left (one_reference graph) (one_reference prior) (left_at final) (left_at before) (is_touched numbers ranks) (usable - 4) (most_left final) (omega (arith, least))
      (λ p left some. ap is_overflow (sym (one_final p)) ∙ left_over final p left some)
      (left_below final) (before_overflow_of graph pages) (before_overflow_of prior paged) was.lefts same_one same_left
      (λ p there over. (renumbered.holds p there).ruled (over_final p over) ∙ ruled_is final (usable - 4) p (one_reference graph p) (one_final p))
      (λ p next there over at. (renumbered.holds p there).goes_on next (over_final p over) (ap page_before (one_final p) ∙ at))
      (λ p next there over at.
      behind_case graph view usable p next final (one_reference graph p) pages targets (renumbered.holds next there) refl over at (over_final p over)
      ∙ ruled_is final (usable - 4) p (one_reference graph p) (one_final p))
      page

  pub table_is : IsTableOf graph (usable - 4) final
  table_is = record {
    counts = λ page. renumbered.renumbers.count page ∙ (agrees page).count ∙ said_counts graph shown sums held_now is page;
    ones = one_final;
    dead = renumbered.renumbers.dead ∙ said_dead graph shown sums held_now is numbers now.dead held dead;
    lefts = lefts;
  }

  pub say_other : SayOther numbers before final (Some ranks)
  say_other rank within none =
      let page = get_or numbers rank 0 in
      let entry = renews.notes rank within (λ there. none (grows rank there)) in
      let out = untouched_rank numbers ranks rank rises within none in
      record {
        count = renumbered.renumbers.count page ∙ entry.count;
        one = renumbered.renumbers.one page ∙ entry.one;
        left = same_left page out;
      }

-- the step is whole
module _ (numbers : List ℕ) (views : List (Option (List ℕ))) (size : ℕ) (layout : Layout) (roots : List ℤ) (before now final : Table) (all sums : Sums) (trail : List Target)
    (next : ℕ → Option (List ℕ)) (named lost : List Pair) (changed touched ranks missing counted : List ℕ) (kept : IsKept numbers views layout.usable before all trail missing) (covers : Covers numbers next)
    (within : (number : ℕ) → size < number → next number ≡ None) (from_one : next 0 ≡ None)
    (stand : (rank : ℕ) → rank < length numbers → (Contains changed rank → ⊥) → get_or views rank None ≡ next (get_or numbers rank 0))
    (good : IsGraph (graph_of size next layout roots)) (wide : IsGraph (widened numbers (graph_of size next layout roots)))
    (followed : HasFollowed (widened numbers (graph_of size next layout roots)) sums) (but : AreKeptBut named lost all sums)
    (renews : Renews (λ number. is_some (next number)) (λ page. (has_page named page ≡ true) ⊎ ((has_page lost page ≡ true) ⊎ (has_rank numbers changed page ≡ true))) sums numbers before now [] touched)
    (recounts : Recounts (λ number. is_some (next number)) (λ page. (has_page named page ≡ true) ⊎ ((has_page lost page ≡ true) ⊎ (has_rank numbers changed page ≡ true))) sums numbers missing counted)
    (total : now.dead ≡ sums.dead + sum counted) (rises : Rises numbers) (least : 480 ≤ layout.usable)
    (grows : Grows touched ranks) (renumbered : IsRenumbered next layout.usable numbers ranks now final) where
  same_shown : (page : ℕ) → has_rank numbers changed page ≡ false → is_some (next page) ≡ is_some (kept.view page)
  same_shown page out = ap is_some (same_view numbers changed views kept.view next page kept.views_are kept.covered covers stand out)

  -- a page that isn't told has the count that it had
  was_counted : (rank : ℕ) → rank < length numbers → has_page named (get_or numbers rank 0) ≡ false → has_page lost (get_or numbers rank 0) ≡ false
      → has_rank numbers changed (get_or numbers rank 0) ≡ false → get_or missing rank 0 ≡ unsaid_count (λ number. is_some (next number)) sums (get_or numbers rank 0)
  was_counted rank low none_named none_lost none_changed =
      let page = get_or numbers rank 0 in
      ap (λ counts. get_or counts rank 0) kept.missing_is ∙ get_or-map (unsaid_count (λ number. is_some (kept.view number)) all) numbers rank 0 0 low
      ∙ ap (λ b. cond b 0 (all_of (sum_of all page))) (sym (same_shown page none_changed))
      ∙ ap (λ one. cond (is_some (next page)) 0 (all_of one)) (sym (but page none_named none_lost))

  pub missing_is : counted ≡ map (unsaid_count (λ number. is_some (next number)) sums) numbers
  missing_is =
      all_recounted (λ number. is_some (next number)) (λ page. (has_page named page ≡ true) ⊎ ((has_page lost page ≡ true) ⊎ (has_rank numbers changed page ≡ true))) sums numbers missing counted
      (ap length kept.missing_is ∙ length-map numbers (unsaid_count (λ number. is_some (kept.view number)) all)) recounts
      (λ rank low.
      let page = get_or numbers rank 0 in
      elim (page_case named lost numbers changed page (has_page named page) (has_page lost page) (has_rank numbers changed page) refl refl refl) [
        | inl there ↦ inl there
        | inr none ↦ inr (was_counted rank low none.0 none.1 none.2)
      ])

  dead : now.dead ≡ sums.dead + sum_by (unsaid_count (λ number. is_some (next number)) sums) numbers
  dead = total ∙ ap (λ n. sums.dead + n) (ap sum missing_is ∙ sum-map (unsaid_count (λ number. is_some (next number)) sums) numbers)

  unranked_next : (view : ℕ → Option (List ℕ)) → Covers numbers view → (page : ℕ) → rank_of numbers page ≡ None → is_some (view page) ≡ false
  unranked_next view covered page ranked = ap is_some (sym (by_case numbers view page None covered ranked))

  pub has_stepped : HasStepped (graph_of size next layout roots) (layout.usable - 4) numbers before final sums ranks
  unfolding graph_of
  has_stepped =
      let prior = graph_of kept.size kept.view kept.layout kept.roots in
      let graph = graph_of size next layout roots in
      let shown_before : ℕ → Bool = λ number. is_some (kept.view number) in
      let shown : ℕ → Bool = λ number. is_some (next number) in
      let held_before : (page : ℕ) → is_held prior.held page ≡ shown_before page = λ page. graph_shown kept.size kept.view kept.layout kept.roots page kept.within kept.from_one in
      let held_now : (page : ℕ) → is_held graph.held page ≡ shown page = λ page. graph_shown size next layout roots page within from_one in
      let known = are_references_of numbers prior all kept.good kept.wide (is_wider numbers kept.size kept.view kept.layout kept.roots kept.covered kept.within kept.from_one) kept.followed in
      let is = are_references_of numbers graph sums good wide (is_wider numbers size next layout roots covers within from_one) followed in
      let paged = is_paged kept.size kept.view kept.layout kept.roots in
      let pages = is_paged size next layout roots in
      record {
        good = good;
        wide = wide;
        table = table_is prior graph next layout.usable numbers before now final all sums named lost changed touched ranks kept.table_is least rises shown_before shown held_before held_now same_shown
            (unranked_next kept.view kept.covered) (unranked_next next covers) known is but renews grows renumbered followed.held_is dead paged pages (λ pair. refl);
        followed = followed;
        others = say_other prior graph next layout.usable numbers before now final all sums named lost changed touched ranks kept.table_is least rises shown_before shown held_before held_now same_shown
            (unranked_next kept.view kept.covered) (unranked_next next covers) known is but renews grows renumbered followed.held_is dead paged pages (λ pair. refl);
      }
