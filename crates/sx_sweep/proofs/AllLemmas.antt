-- Moments with a header, one after the other, and their totals.
use Rattle.std.proofs.Common.{◌≡◌, ◌↔◌, ℕ, ℤ, zero, suc, ◌+◌, ◌-◌, ◌<◌, ◌≤◌, ◌==◌, Bool, true, false, cond, not, IsTrue, is_some, List, [], ◌∷◌, ◌++◌, length, map, drop, get_or, slice_get, slice_index, replicate, Option, Some, None, Result, Ok, Err, refl, sym, ap, subst, ◌∙◌, eq-eqb, append_assoc, length-drop, nat_lt, arith}
use Rattle.std.specs.Prelude.{IfOk}
use Rattle.std.specs.Option.{option_map, option_or}
use Rattle.std.specs.List.Sorted.{IsStrictlyIncreasing}
use Rattle.std.proofs.lemmas.Bool.Decides.{nat_tests}
use Rattle.std.proofs.lemmas.List.{append-nil, length-replicate}
use Rattle.std.proofs.Math.ListN.{drop_of_length-le}
use Rattle.std.proofs.lemmas.Option.{get_or_from_slice_get, slice_get_within}
use Rattle.sx_base.specs.Held.{held_pages}
use Rattle.sx_base.specs.Maps.{lock_page_of}
use Rattle.sx_base.specs.declared.evidence.Place.{Place}
use Rattle.sx_base.specs.declared.layout.Layout.{Layout}
use Rattle.sx_base.specs.declared.moment.Moment.{Moment}
use Rattle.sx_base.specs.declared.moment.Moment.TheVariants.{Journal, File}
use Rattle.sx_header.specs.declared.header.Header.{Header}
use Rattle.sx_closure.specs.Graph.{Graph}
use Rattle.sx_closure.specs.Tallying.{Table, IsTableOf}
use Rattle.sx_images.specs.Images.{Table as ImageTable, images_of}
use Rattle.sx_moment.specs.Gathered.{Gathered, size_at, is_moment, moments_of}
use Rattle.sx_moment.specs.Heads.{head_of, layout_of, encoding_at}
use Rattle.sx_moment.specs.Views.{image_at, can_be_viewed, lock_in, file_page, origin_of, place_of, bytes_of, bytes_from, source_of, view_of}
use Rattle.sx_moment.specs.declared.origin.Origin.{Origin}
use Rattle.sx_moment.specs.Sweep.{Swept, GoesOn, moment_at}
use Rattle.sx_owned.specs.Owned.{Owned, IsFresh}
use Rattle.sx_prov.specs.Keys.{key_of, keyed_labels, table_labels}
use Rattle.sx_prov.specs.Labels.{labels_of}
use Rattle.sx_prov.proofs.Standings.{labels_are}
use Rattle.sx_refs.specs.Pages.{graph_of}
use Rattle.sx_walk.specs.Walks.{Walk}
use Rattle.sx_schema.specs.Entries.{schema_of, roots_of}
use Rattle.sx_sums.specs.Entries.{entry_at}
use Rattle.sx_sums.specs.Shown.{AreTotals, IsShown, AreShown, AreMoment}
use Rattle.sx_sums.specs.declared.entry.Entry.{Entry}
use Rattle.sx_sums.specs.declared.moments.PageTotals.{PageTotals}
use Rattle.sx_sweep.specs.declared.totals.MomentTotals.{MomentTotals}
use Rattle.sx_sweep.specs.Moments.{totals_by, totals_at}
use Rattle.sx_images.specs.declared.image.Image.{Image}
use Rattle.sx_sweep.specs.Growth.{Grows, Growing}
use Rattle.sx_sweep.specs.Owning.{graph_at, moment_owns, moment_begins, owned_under, block_under}
use Rattle.sx_sweep.specs.Passing.{labels_by, AreTold, IsKnown, Matches, AreMatched, IsReached, IsBefore, GoesOver, IsHeaded}
use Rattle.sx_sweep.proofs.MomentLemmas.{HasRanks, moment_grows, rises}
use Rattle.sx_sweep.proofs.GrowthLemmas.{growing_start}
use Rattle.sx_sweep.proofs.SweepLemmas.{drop_at, sweep_step, sweep_end}
use Rattle.sx_sweep.proofs.ViewLemmas.{can_stand, view_labels, source_stands}
use Rattle.sx_sweep.proofs.WalkLemmas.{same_size, moment_pages}
use Rattle.sx_moment.proofs.Numbered.{among_contains}

pub is_there : (some none : Bool) → some ≡ not none → none ≡ false → some ≡ true
is_there some none is not_none = is ∙ ap not not_none

pub if_ok : {A E : Type 0} {P Q : A → Type 0} (r : Result A E) → ((a : A) → P a → Q a) → IfOk r P → IfOk r Q
if_ok (Ok a) f p = f a p
if_ok (Err refused) f p = tt

-- ---- a moment with a header

pub moment_here : (case other : Gathered) (moment at : Moment) → other ≡ case → at ≡ moment → IsTrue (is_moment other at) → IsTrue (is_moment case moment)
moment_here case other moment at same_case same_moment is = subst (λ m. IsTrue (is_moment case m)) same_moment (subst (λ c. IsTrue (is_moment c at)) same_case is)

pub encoding_here : (case other : Gathered) (moment at : Moment) → other ≡ case → at ≡ moment → encoding_at other at ≡ encoding_at case moment
encoding_here case other moment at same_case same_moment = ap (λ c. encoding_at c at) same_case ∙ ap (encoding_at case) same_moment

pub head_here : (case other : Gathered) (moment at : Moment) → other ≡ case → at ≡ moment → head_of other at ≡ head_of case moment
head_here case other moment at same_case same_moment = ap (λ c. head_of c at) same_case ∙ ap (head_of case) same_moment

pub headed_all : (case : Gathered) (moment : Moment) (numbers : List ℕ) (layout : Layout) (roots : List ℤ) (images : ImageTable) (owned now : Owned) (after : List Entry) (walk : Walk)
    → ((page : ℕ) (bytes : List ℕ) → view_of case moment page ≡ Some bytes → length bytes ≡ layout.page_size) → layout ≡ layout_of case moment
    → roots ≡ roots_of (schema_of (size_at case moment) (view_of case moment) layout.usable (encoding_at case moment)) → HasRanks case moment numbers
    → GoesOver case moment numbers layout roots images owned now after walk → IsHeaded case moment numbers images owned now after walk
headed_all case moment numbers layout roots images owned now after walk whole layout_is roots_are has over =
    let size = size_at case moment in
    let view = view_of case moment in
    let page_size : layout.page_size ≡ case.header.page_size = sym (same_size case moment layout layout_is) in
    let first : IsTableOf (graph_of size view layout (roots_of (schema_of size view layout.usable (encoding_at case moment)))) (layout.usable - 4) walk.table =
    subst (λ r. IsTableOf (graph_of size view layout r) (layout.usable - 4) walk.table) roots_are over.table_is in
    record {
      grows =
          moment_pages walk.table layout case moment (images_of images) roots owned now whole over.table_is layout_is roots_are
          (moment_grows case moment numbers walk.table layout (images_of images) owned now after page_size has over.reached.matched over.known.told over.adds);
      known = over.known;
      reached = subst (λ (l : Layout). IsReached case moment numbers walk l.usable after) layout_is over.reached;
      table_is = subst (λ (l : Layout). IsTableOf (graph_of size view l (roots_of (schema_of size view l.usable (encoding_at case moment)))) (l.usable - 4) walk.table) layout_is first;
    }

-- ---- its totals

viewed_case : (case : Gathered) (size number : ℕ) (origin : Option Origin) (can : Bool) → can_be_viewed (lock_in case) size number ≡ can
    → is_some (option_map (bytes_of case number) (cond can origin None)) ≡ true → (1 ≤ number) × (number ≤ size) × ((number == lock_in case) ≡ false)
viewed_case case size number origin true can is = can_stand (lock_in case) size number can
viewed_case case size number origin false can is = absurd (let never : false ≡ true = is in cc)

view_stands : (case : Gathered) (moment : Moment) (number : ℕ) → is_some (view_of case moment number) ≡ true → (1 ≤ number) × (number ≤ size_at case moment) × ((number == lock_in case) ≡ false)
unfolding origin_of
view_stands case moment number is =
    viewed_case case (size_at case moment) number (option_or (image_at case moment number) (file_page case number)) (can_be_viewed (lock_in case) (size_at case moment) number) refl is

none_case : (v : Option (List ℕ)) → (is_some v ≡ true → ⊥) → v ≡ None
none_case None never = refl
none_case (Some bytes) never = absurd (never refl)

lock_none : (case : Gathered) (moment : Moment) → view_of case moment (lock_in case) ≡ None
lock_none case moment =
    none_case (view_of case moment (lock_in case))
    (λ is. let stands = view_stands case moment (lock_in case) is in let same = eq-eqb (lock_in case) (lock_in case) refl in let never : true ≡ false = sym same ∙ stands.2 in cc)

no_view : (case : Gathered) (number : ℕ) (origin : Option Origin) → option_map (place_of case number) origin ≡ None → option_map (bytes_of case number) origin ≡ None
no_view case number None is = refl
no_view case number (Some origin) is = absurd (let never : Some (place_of case number origin) ≡ None = is in cc)

shown_case : (case : Gathered) (moment : Moment) (numbers : List ℕ) (graph : Graph) (table : Table) (layout : Layout) (images : ImageTable) (owned : Owned) (entries : List Entry) (rank number : ℕ) (source : Option Place)
    → HasRanks case moment numbers → layout.page_size ≡ case.header.page_size → AreTold case (images_of images) owned entries
    → table_labels table layout (view_of case moment) number ≡ labels_of graph layout (view_of case moment) number
    → source_of case moment number ≡ source → Matches source (key_of table layout.usable number) (entry_at entries rank)
    → IsShown (labels_of graph layout (view_of case moment) number) (view_of case moment number) (entry_at entries rank)
shown_case case moment numbers graph table layout images owned entries rank number None has size told labels from matches =
    subst (λ v. IsShown (labels_of graph layout (view_of case moment) number) v (entry_at entries rank)) (sym (no_view case number (origin_of case moment number) from)) matches
shown_case case moment numbers graph table layout images owned entries rank number (Some place) has size told labels from matches =
    let held = has.lie number place from in
    let stands = source_stands case moment number place from in
    let other : (number == lock_page_of layout.page_size) ≡ false = ap (λ s. number == lock_page_of s) size ∙ stands.2 in
    let labelled = matches.labelled in
    let same : labels_by case labelled ≡ labels_of graph layout (view_of case moment) number =
    ap (λ k. keyed_labels k (bytes_from case labelled.place)) matches.same_key
    ∙ ap (λ p. keyed_labels (key_of table layout.usable number) (bytes_from case p)) matches.same_place
    ∙ sym (view_labels table layout (view_of case moment) number (bytes_from case place) other held)
    ∙ labels in
    subst (λ v. IsShown (labels_of graph layout (view_of case moment) number) v (entry_at entries rank)) (sym held)
    (matches.shown, (labelled, matches.last, subst (λ list. AreTotals list labelled.totals) same (told rank labelled matches.last).totals))

pub all_shown : (case : Gathered) (moment : Moment) (numbers : List ℕ) (table : Table) (layout : Layout) (images : ImageTable) (owned : Owned) (entries : List Entry)
    → ((page : ℕ) (bytes : List ℕ) → view_of case moment page ≡ Some bytes → length bytes ≡ layout.page_size) → layout ≡ layout_of case moment → HasRanks case moment numbers → IsStrictlyIncreasing numbers
    → IsKnown case numbers images owned entries → AreMatched case moment table layout.usable numbers entries → IsTableOf (graph_at case moment) (layout.usable - 4) table
    → AreShown (graph_at case moment) layout (view_of case moment) (size_at case moment) numbers entries
all_shown case moment numbers table layout images owned entries whole layout_is has rising known matched table_is =
    let size = size_at case moment in
    let view = view_of case moment in
    let page_size : layout.page_size ≡ case.header.page_size = sym (same_size case moment layout layout_is) in
    let graph_is : graph_of size view layout (roots_of (schema_of size view layout.usable (encoding_at case moment))) ≡ graph_at case moment =
    ap (λ (l : Layout). graph_of size view l (roots_of (schema_of size view l.usable (encoding_at case moment)))) layout_is in
    let roots = roots_of (schema_of size view layout.usable (encoding_at case moment)) in
    let here : IsTableOf (graph_of size view layout roots) (layout.usable - 4) table = subst (λ g. IsTableOf g (layout.usable - 4) table) (sym graph_is) table_is in
    record {
      rise = rises numbers rising;
      covered = λ number some. among_contains numbers number (has.held number some);
      within = λ number some. let stands = view_stands case moment number some in (stands.0, stands.1);
      lock = ap (λ s. view (lock_page_of s)) page_size ∙ lock_none case moment;
      count = known.long;
      shown = λ rank below.
          let number = slice_index numbers rank in
          shown_case case moment numbers (graph_at case moment) table layout images owned entries rank number (source_of case moment number) has page_size known.told
          (labels_are size view layout table number (table_labels table layout view number) (whole number) refl roots here ∙ ap (λ g. labels_of g layout view number) graph_is)
          refl (matched rank below);
    }

pub totals_here : (case : Gathered) (moment : Moment) (numbers : List ℕ) (layout : Layout) (size held dead : ℕ) (table : Table) (entries : List Entry) (totals : PageTotals) (head : Header)
    → layout ≡ layout_of case moment → size ≡ size_at case moment → held ≡ length (held_pages (size_at case moment) (view_of case moment)) → dead ≡ table.dead
    → ((graph : Graph) (view : ℕ → Option (List ℕ)) (numbers : List ℕ) → AreShown graph layout view size numbers entries → held ≡ length (held_pages size view) → AreMoment graph layout view size totals)
    → AreShown (graph_at case moment) layout (view_of case moment) (size_at case moment) numbers entries → IsTableOf (graph_at case moment) (layout.usable - 4) table
    → Some (record { owned = totals.owned; slack = totals.slack; fault = totals.fault; dead = dead }) ≡ totals_by case moment (Some head)
totals_here case moment numbers layout size held dead table entries totals head layout_is size_is held_is dead_is law shown table_is =
    let graph = graph_at case moment in
    let view = view_of case moment in
    let shown_here : AreShown graph layout view size numbers entries = subst (λ n. AreShown graph layout view n numbers entries) (sym size_is) shown in
    let held_here : held ≡ length (held_pages size view) = held_is ∙ ap (λ n. length (held_pages n view)) (sym size_is) in
    let first : AreMoment graph layout view (size_at case moment) totals = subst (λ n. AreMoment graph layout view n totals) size_is (law graph view numbers shown_here held_here) in
    let here : AreMoment graph (layout_of case moment) view (size_at case moment) totals = subst (λ l. AreMoment graph l view (size_at case moment) totals) layout_is first in
    let owned = here.owned in
    let slack = here.slack in
    let fault = here.fault in
    let links = dead_is ∙ table_is.dead in
    cc

totals_case : (case : Gathered) (moment : Moment) (found : Option Header) (before after : List (Option MomentTotals)) → is_some found ≡ true
    → ((head : Header) → after ≡ before ++ totals_by case moment (Some head) ∷ []) → after ≡ before ++ totals_by case moment found ∷ []
totals_case case moment None before after some are = absurd (let never : false ≡ true = some in cc)
totals_case case moment (Some head) before after some are = are head

pub totals_more : (case : Gathered) (moment : Moment) (found : Option Header) (before after : List (Option MomentTotals)) → found ≡ head_of case moment → is_some found ≡ true
    → ((head : Header) → after ≡ before ++ totals_by case moment (Some head) ∷ []) → after ≡ before ++ totals_at case moment ∷ []
unfolding totals_at
totals_more case moment found before after head some are = totals_case case moment found before after some are ∙ ap (λ h. before ++ totals_by case moment h ∷ []) head

-- ---- from moment to moment

abbrev ReachedBy : Gathered → ℕ → List ℕ → Walk → ℕ → List Entry → Type 0
ReachedBy case settled numbers walk usable entries = (1 ≤ settled) × IsReached case (moment_at case (settled - 1)) numbers walk usable entries

by_fields : (case other : Gathered) (settled turn : ℕ) (numbers list : List ℕ) (walk : Walk) (usable : ℕ) (entries : List Entry) → other ≡ case → turn ≡ settled → list ≡ numbers
    → ReachedBy case settled numbers walk usable entries → ReachedBy other turn list walk usable entries
by_fields case other settled turn numbers list walk usable entries same_case same_settled same_numbers is =
    subst (λ k. ReachedBy k turn list walk usable entries) (sym same_case)
    (subst (λ n. ReachedBy case n list walk usable entries) (sym same_settled) (subst (λ xs. ReachedBy case settled xs walk usable entries) (sym same_numbers) is))

pub before_on : (old new : Swept) (walk : Option Walk) (usable : ℕ) (entries : List Entry) → GoesOn old new → IsBefore old walk usable entries → IsBefore new walk usable entries
before_on old new None usable entries on is = tt
before_on old new (Some walk) usable entries on is =
    by_fields old.case new.case old.settled new.settled old.numbers new.numbers walk usable entries on.case on.settled on.numbers is

pub before_settled : (old new : Swept) (walk : Walk) (usable : ℕ) (entries : List Entry) → new.case ≡ old.case → new.numbers ≡ old.numbers → new.settled ≡ old.place + 1
    → slice_get (moments_of old.case) old.place ≡ Some old.moment → IsReached old.case old.moment old.numbers walk usable entries → IsBefore new (Some walk) usable entries
before_settled old new walk usable entries same_case same_numbers settled there reached =
    let place : old.place + 1 - 1 ≡ old.place = omega arith in
    let moment : moment_at old.case (old.place + 1 - 1) ≡ old.moment = ap (moment_at old.case) place ∙ get_or_from_slice_get (moments_of old.case) old.place old.moment File there in
    let some : 1 ≤ old.place + 1 = omega arith in
    by_fields old.case new.case (old.place + 1) new.settled old.numbers new.numbers walk usable entries same_case settled same_numbers
    (some, subst (λ m. IsReached old.case m old.numbers walk usable entries) (sym moment) reached)

pub known_on : (case other : Gathered) (numbers list : List ℕ) (images : ImageTable) (owned : Owned) (entries : List Entry) → other ≡ case → list ≡ numbers
    → IsKnown case numbers images owned entries → IsKnown other list images owned entries
known_on case other numbers list images owned entries same_case same_numbers known =
    subst (λ k. IsKnown k list images owned entries) (sym same_case) (subst (λ xs. IsKnown case xs images owned entries) (sym same_numbers) known)

-- ---- the totals of the moments

pub totals_step : (case : Gathered) (moments : List Moment) (before after : List (Option MomentTotals)) (i : ℕ) (d : Moment) → i < length moments
    → before ++ map (totals_at case) (drop i moments) ≡ map (totals_at case) moments → after ≡ before ++ totals_at case (get_or moments i d) ∷ []
    → after ++ map (totals_at case) (drop (i + 1) moments) ≡ map (totals_at case) moments
totals_step case moments before after i d within all more =
    ap (λ list. list ++ map (totals_at case) (drop (i + 1) moments)) more
    ∙ append_assoc before (totals_at case (get_or moments i d) ∷ []) (map (totals_at case) (drop (i + 1) moments))
    ∙ ap (λ list. before ++ map (totals_at case) list) (sym (drop_at moments i d within))
    ∙ all

-- ---- a moment more

pub step_growing : (case here : Gathered) (images : List Image) (old now new : Owned) (i place last : ℕ) (moment : Moment) → here ≡ case → i ≡ place → last ≡ place → slice_get (moments_of here) place ≡ Some moment
    → Growing old now (owned_under case images (moments_of case)) (block_under case images (moments_of case)) (owned_under case images (drop i (moments_of case))) (block_under case images (drop i (moments_of case)))
    → Grows now new (λ image at. moment_owns here images image at moment) (λ image at. moment_begins here images image at moment)
    → Growing old new (owned_under case images (moments_of case)) (block_under case images (moments_of case)) (owned_under case images (drop (last + 1) (moments_of case))) (block_under case images (drop (last + 1) (moments_of case)))
step_growing case here images old now new i place last moment same from to there growing grows =
    let moments = moments_of case in
    let here_there : slice_get moments place ≡ Some moment = subst (λ c. slice_get (moments_of c) place ≡ Some moment) same there in
    let found : get_or moments place Journal ≡ moment = get_or_from_slice_get moments place moment Journal here_there in
    let first : Growing old now (owned_under case images moments) (block_under case images moments) (owned_under case images (drop place moments)) (block_under case images (drop place moments)) =
    subst (λ n. Growing old now (owned_under case images moments) (block_under case images moments) (owned_under case images (drop n moments)) (block_under case images (drop n moments))) from growing in
    let one : Grows now new (λ image at. moment_owns case images image at moment) (λ image at. moment_begins case images image at moment) =
    subst (λ c. Grows now new (λ image at. moment_owns c images image at moment) (λ image at. moment_begins c images image at moment)) same grows in
    let more : Grows now new (λ image at. moment_owns case images image at (get_or moments place Journal)) (λ image at. moment_begins case images image at (get_or moments place Journal)) =
    subst (λ m. Grows now new (λ image at. moment_owns case images image at m) (λ image at. moment_begins case images image at m)) (sym found) one in
    subst (λ n. Growing old new (owned_under case images moments) (block_under case images moments) (owned_under case images (drop (n + 1) moments)) (block_under case images (drop (n + 1) moments))) (sym to)
    (sweep_step case images moments old now new place Journal (slice_get_within moments place moment here_there) first more)

pub step_totals : (case here : Gathered) (before after : List (Option MomentTotals)) (i place last : ℕ) (moment : Moment) → here ≡ case → i ≡ place → last ≡ place → slice_get (moments_of here) place ≡ Some moment
    → before ++ map (totals_at case) (drop i (moments_of case)) ≡ map (totals_at case) (moments_of case) → after ≡ before ++ totals_at here moment ∷ []
    → after ++ map (totals_at case) (drop (last + 1) (moments_of case)) ≡ map (totals_at case) (moments_of case)
step_totals case here before after i place last moment same from to there all more =
    let moments = moments_of case in
    let here_there : slice_get moments place ≡ Some moment = subst (λ c. slice_get (moments_of c) place ≡ Some moment) same there in
    let found : get_or moments place Journal ≡ moment = get_or_from_slice_get moments place moment Journal here_there in
    let first : before ++ map (totals_at case) (drop place moments) ≡ map (totals_at case) moments = subst (λ n. before ++ map (totals_at case) (drop n moments) ≡ map (totals_at case) moments) from all in
    let one : after ≡ before ++ totals_at case (get_or moments place Journal) ∷ [] = more ∙ ap (λ c. before ++ totals_at c moment ∷ []) same ∙ ap (λ m. before ++ totals_at case m ∷ []) (sym found) in
    subst (λ n. after ++ map (totals_at case) (drop (n + 1) moments) ≡ map (totals_at case) moments) (sym to)
    (totals_step case moments before after place Journal (slice_get_within moments place moment here_there) first one)

-- before the first moment
pub first_growing : (case : Gathered) (images : List Image) (old : Owned)
    → Growing old old (owned_under case images (moments_of case)) (block_under case images (moments_of case)) (owned_under case images (drop 0 (moments_of case))) (block_under case images (drop 0 (moments_of case)))
first_growing case images old =
    growing_start old (owned_under case images (moments_of case)) (block_under case images (moments_of case)) (owned_under case images (drop 0 (moments_of case))) (block_under case images (drop 0 (moments_of case)))
    (λ image at. refl) (λ image at. refl)

pub first_totals : (case : Gathered) (totals : List (Option MomentTotals)) → totals ≡ [] → totals ++ map (totals_at case) (drop 0 (moments_of case)) ≡ map (totals_at case) (moments_of case)
first_totals case totals none = ap (λ list. list ++ map (totals_at case) (moments_of case)) none

bound_case : (n m : ℕ) (t : Bool) → nat_lt n m ≡ t → (n < m → ⊥) → m ≤ n
bound_case n m true is never = absurd (never (grind (arith, nat_tests)))
bound_case n m false is never = grind (arith, nat_tests)

no_more : (more : Bool) (n m : ℕ) → (IsTrue more ↔ (n < m)) → more ≡ false → m ≤ n
no_more more n m says is = bound_case n m (nat_lt n m) refl (λ less. let yes : more ≡ true = says.1 less in let never : true ≡ false = sym yes ∙ is in cc)

-- behind the last moment
pub last_grows : (case here : Gathered) (images : List Image) (old now : Owned) (place : ℕ) (more : Bool) → here ≡ case → (IsTrue more ↔ (place + 1 < length (moments_of here))) → more ≡ false
    → Growing old now (owned_under case images (moments_of case)) (block_under case images (moments_of case)) (owned_under case images (drop (place + 1) (moments_of case))) (block_under case images (drop (place + 1) (moments_of case)))
    → Grows old now (owned_under case images (moments_of case)) (block_under case images (moments_of case))
last_grows case here images old now place more same says is growing =
    let bound = no_more more (place + 1) (length (moments_of here)) says is in
    let long : length (moments_of here) ≡ length (moments_of case) = ap (λ c. length (moments_of c)) same in
    let rest = length-drop (place + 1) (moments_of case) in
    sweep_end case images (moments_of case) old now (place + 1) (omega (arith, bound, long, rest)) growing

pub last_totals : (case here : Gathered) (totals : List (Option MomentTotals)) (place : ℕ) (more : Bool) → here ≡ case → (IsTrue more ↔ (place + 1 < length (moments_of here))) → more ≡ false
    → totals ++ map (totals_at case) (drop (place + 1) (moments_of case)) ≡ map (totals_at case) (moments_of case) → totals ≡ map (totals_at case) (moments_of case)
last_totals case here totals place more same says is all =
    let bound = no_more more (place + 1) (length (moments_of here)) says is in
    let long : length (moments_of here) ≡ length (moments_of case) = ap (λ c. length (moments_of c)) same in
    let none : drop (place + 1) (moments_of case) ≡ [] = drop_of_length-le (moments_of case) {i = place + 1} (omega (arith, bound, long)) in
    sym (append-nil totals) ∙ ap (λ list. totals ++ map (totals_at case) list) (sym none) ∙ all

-- ---- before any

fresh_at : (n rank : ℕ) → entry_at (replicate n (record { last = None; shown = false })) rank ≡ record { last = None; shown = false }
fresh_at zero rank = refl
fresh_at (suc n) zero = refl
fresh_at (suc n) (suc rank) = fresh_at n rank

pub fresh_known : (case : Gathered) (numbers : List ℕ) (images : ImageTable) (owned : Owned) (entries : List Entry) (ranks : ℕ) → ranks ≡ length numbers → IsFresh owned (length (images_of images)) images.page_size
    → entries ≡ replicate ranks (record { last = None; shown = false }) → IsKnown case numbers images owned entries
fresh_known case numbers images owned entries ranks long fresh are = record {
  long = ap length are ∙ length-replicate ranks (record { last = None; shown = false }) ∙ long;
  size = fresh.size;
  count = fresh.count;
  told = λ rank labelled last.
      let none : (entry_at entries rank).last ≡ None = ap (λ (list : List Entry). (entry_at list rank).last) are ∙ ap (λ (e : Entry). e.last) (fresh_at ranks rank) in
      absurd (let never : None ≡ Some labelled = sym none ∙ last in cc);
}
