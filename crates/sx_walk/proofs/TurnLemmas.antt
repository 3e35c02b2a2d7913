-- What comes and what goes is gathered while the views of pages are taken anew, one after the other.
use Rattle.std.proofs.Common.{◌≡◌, ℕ, ◌<◌, ◌≤◌, ◌==◌, ◌&&◌, Bool, true, false, cond, List, ◌++◌, length, map, get_or, set, Option, Some, None, IfSome, option_copied, inl, inr, ◌⊎◌, refl, sym, ap, subst, ◌∙◌, arith}
use Rattle.std.specs.Borrow.{Bor}
use Rattle.std.proofs.lemmas.Bool.{eq-eqb, eqb-true, cases_eq, false≢true}
use Rattle.std.proofs.lemmas.List.{get_or-set_same, get_or-set_other, map-id, map-set, length-map}
use Rattle.sx_base.specs.declared.role.Role.{Role}
use Rattle.sx_base.specs.declared.role.Role.TheVariants.{Node, Overflow, Trunk, FreeLeaf, PointerMap}
use Rattle.sx_closure.specs.declared.pair.Pair.{Pair}
use Rattle.sx_closure.specs.declared.pair.Target.{Target}
use Rattle.sx_closure.specs.Graph.{same_pair, is_in, Graph, Rises}
use Rattle.sx_closure.specs.Tallying.{rank_of}
use Rattle.sx_closure.proofs.Pairs.{Apart, same_is, same_self}
use Rattle.sx_closure.proofs.Ranks.{rank_found}
use Rattle.sx_closure.proofs.Tallies.{at_rank}
use Rattle.sx_follow.specs.Sums.{Sums}
use Rattle.sx_follow.specs.Climbing.{is_marked_in}
use Rattle.sx_follow.specs.Gathered.{IsChange, IsGathered}
use Rattle.sx_follow.proofs.Gathering.{gathered_same, gathered_one}
use Rattle.sx_refs.specs.Pages.{if_held}
use Rattle.sx_walk.specs.Turning.{in_the_role, HasUsable}
use Rattle.sx_walk.specs.Turning.{ExchangesIf, ExchangesPage, view_by, view_in, named_in, AreMarked, HasTurned}
use Rattle.sx_refs.proofs.Naming.{names_nothing}

-- ---- the view of a page in a list by rank

-- the page of a rank
pub rank_is : (numbers : List ℕ) (page rank : ℕ) → rank_of numbers page ≡ Some rank → get_or numbers rank 0 ≡ page
rank_is numbers page rank ranked =
    let same : ℕ → ℕ = λ x. x in
    ap (λ xs. get_or xs rank 0) (sym (map-id numbers)) ∙ at_rank numbers page rank same 0 ranked

pub view_was : (numbers : List ℕ) (views : List (Option (List ℕ))) (rank : ℕ) → Rises numbers → rank < length numbers
    → view_in numbers views (get_or numbers rank 0) ≡ get_or views rank None
view_was numbers views rank rises within = ap (view_by views) (rank_found numbers rank (get_or numbers rank 0) rises within refl)

view_set : (numbers : List ℕ) (views : List (Option (List ℕ))) (rank : ℕ) (view : Option (List ℕ)) → Rises numbers → rank < length numbers → length views ≡ length numbers
    → view_in numbers (set views rank view) (get_or numbers rank 0) ≡ view
view_set numbers views rank view rises within long =
    view_was numbers (set views rank view) rank rises within ∙ get_or-set_same views rank view None (omega (arith, within, long))

other_view : (numbers : List ℕ) (views : List (Option (List ℕ))) (rank : ℕ) (view : Option (List ℕ)) (page : ℕ) (o : Option ℕ) → rank_of numbers page ≡ o
    → (page ≡ get_or numbers rank 0 → ⊥) → view_by (set views rank view) o ≡ view_by views o
other_view numbers views rank view page None ranked differ = refl
other_view numbers views rank view page (Some place) ranked differ =
    get_or-set_other views rank place view None (λ same. differ (sym (rank_is numbers page place ranked) ∙ ap (λ r. get_or numbers r 0) same))

view_other : (numbers : List ℕ) (views : List (Option (List ℕ))) (rank : ℕ) (view : Option (List ℕ)) (page : ℕ) → (page ≡ get_or numbers rank 0 → ⊥)
    → view_in numbers (set views rank view) page ≡ view_in numbers views page
view_other numbers views rank view page differ = other_view numbers views rank view page (rank_of numbers page) refl differ

-- ---- one pair

-- other targets of one pair
abbrev put_targets : (Pair → List Target) → Pair → List Target → Pair → List Target
put_targets targets pair new other = cond (same_pair other pair) new (targets other)

unmarked : (met : List Pair) (targets : Pair → List Target) (pair : Pair) (new : List Target) (other : Pair) (b : Bool) → same_pair other pair ≡ b
    → is_in met pair ≡ false → is_in met other ≡ true → targets other ≡ put_targets targets pair new other
unmarked met targets pair new other true is none there = absurd (false≢true (sym none ∙ ap (is_in met) (sym (same_is other pair is)) ∙ there))
unmarked met targets pair new other false is none there = sym (ap (λ b. cond b new (targets other)) is)

stage_case : (before graph : Graph) (met : List Pair) (targets : Pair → List Target) (pair : Pair) (old new come coming gone going : List Target) (b : Bool) → Apart met
    → is_in met pair ≡ b → targets pair ≡ old → new ≡ graph.targets pair → ExchangesIf b old new come coming gone going
    → IsGathered before graph met targets come gone → IsGathered before graph met (put_targets targets pair new) coming going
stage_case before graph met targets pair old new come coming gone going true apart there old_is new_is exchange is =
    let put : put_targets targets pair new pair ≡ new = ap (λ b. cond b new (targets pair)) (same_self pair) in
    let change : IsChange (targets pair) (put_targets targets pair new pair) exchange.more exchange.less =
    subst (λ xs. IsChange xs (put_targets targets pair new pair) exchange.more exchange.less) (sym old_is)
    (subst (λ xs. IsChange old xs exchange.more exchange.less) (sym put) exchange.change) in
    subst (λ xs. IsGathered before graph met (put_targets targets pair new) xs going) (sym exchange.coming_is)
    (subst (λ xs. IsGathered before graph met (put_targets targets pair new) (come ++ exchange.more) xs) (sym exchange.going_is)
    (gathered_one before graph met targets (put_targets targets pair new) pair come gone exchange.more exchange.less apart there
    (λ x other. ap (λ b. cond b new (targets x)) other) (put ∙ new_is) change is))
stage_case before graph met targets pair old new come coming gone going false apart none old_is new_is exchange is =
    subst (λ xs. IsGathered before graph met (put_targets targets pair new) xs going) (sym exchange.0)
    (subst (λ xs. IsGathered before graph met (put_targets targets pair new) come xs) (sym exchange.1)
    (gathered_same before graph met targets (put_targets targets pair new) come gone (λ other there. unmarked met targets pair new other (same_pair other pair) refl none there) is))

stage : (before graph : Graph) (met : List Pair) (sums : Sums) (targets : Pair → List Target) (pair : Pair) (old new come coming gone going : List Target) → Apart met
    → AreMarked sums met → targets pair ≡ old → new ≡ graph.targets pair → ExchangesIf (is_marked_in sums pair) old new come coming gone going
    → IsGathered before graph met targets come gone → IsGathered before graph met (put_targets targets pair new) coming going
stage before graph met sums targets pair old new come coming gone going apart marked old_is new_is exchange is =
    stage_case before graph met targets pair old new come coming gone going (is_marked_in sums pair) apart (marked pair) old_is new_is exchange is

-- ---- one page

and_none : (a : Bool) → (a && false) ≡ false
and_none true = refl
and_none false = refl

-- another role is another pair
put_other : (targets : Pair → List Target) (page : ℕ) (one other : Role) (new : List Target) → (same_pair (in_the_role page other) (in_the_role page one) ≡ false)
    → put_targets targets (in_the_role page one) new (in_the_role page other) ≡ targets (in_the_role page other)
put_other targets page one other new differ = ap (λ b. cond b new (targets (in_the_role page other))) differ

-- the targets of a page's three roles that name others, by another view
abbrev put_page : ℕ → (Pair → List Target) → ℕ → Option (List ℕ) → Pair → List Target
put_page usable targets page view =
    put_targets (put_targets (put_targets targets (in_the_role page Node) (if_held view (in_the_role page Node) usable))
    (in_the_role page Overflow) (if_held view (in_the_role page Overflow) usable)) (in_the_role page Trunk) (if_held view (in_the_role page Trunk) usable)

page_stage : (before graph : Graph) (met : List Pair) (sums : Sums) (usable : ℕ) (targets : Pair → List Target) (page : ℕ) (was view : Option (List ℕ))
    (come coming gone going : List Target) → Apart met → AreMarked sums met → ((role : Role) → targets (in_the_role page role) ≡ if_held was (in_the_role page role) usable)
    → ((role : Role) → if_held view (in_the_role page role) usable ≡ graph.targets (in_the_role page role)) → ExchangesPage sums usable page was view come coming gone going
    → IsGathered before graph met targets come gone → IsGathered before graph met (put_page usable targets page view) coming going
page_stage before graph met sums usable targets page was view come coming gone going apart marked old_is new_is exchange is =
    let node = in_the_role page Node in
    let overflow = in_the_role page Overflow in
    let trunk = in_the_role page Trunk in
    let one = put_targets targets node (if_held view node usable) in
    let two = put_targets one overflow (if_held view overflow usable) in
    let first : IsGathered before graph met one exchange.come_node exchange.gone_node =
    stage before graph met sums targets node (if_held was node usable) (if_held view node usable) come exchange.come_node gone exchange.gone_node apart marked
    (old_is Node) (new_is Node) exchange.node is in
    let second : IsGathered before graph met two exchange.come_overflow exchange.gone_overflow =
    stage before graph met sums one overflow (if_held was overflow usable) (if_held view overflow usable) exchange.come_node exchange.come_overflow exchange.gone_node exchange.gone_overflow
    apart marked (put_other targets page Node Overflow (if_held view node usable) (and_none (page == page)) ∙ old_is Overflow) (new_is Overflow) exchange.overflow first in
    stage before graph met sums two trunk (if_held was trunk usable) (if_held view trunk usable) exchange.come_overflow coming exchange.gone_overflow going apart marked
    (put_other one page Overflow Trunk (if_held view overflow usable) (and_none (page == page)) ∙ put_other targets page Node Trunk (if_held view node usable) (and_none (page == page)) ∙ old_is Trunk)
    (new_is Trunk) exchange.trunk second

-- of that page it is what the view names, whatever the role
put_here : (usable : ℕ) (targets : Pair → List Target) (page : ℕ) (was view : Option (List ℕ)) (role : Role)
    → ((role : Role) → targets (in_the_role page role) ≡ if_held was (in_the_role page role) usable)
    → put_page usable targets page view (in_the_role page role) ≡ if_held view (in_the_role page role) usable
put_here usable targets page was view Node old_is = rw (eq-eqb page page refl) refl
put_here usable targets page was view Overflow old_is = rw (eq-eqb page page refl) refl
put_here usable targets page was view Trunk old_is = rw (eq-eqb page page refl) refl
put_here usable targets page was view FreeLeaf old_is =
    rw (eq-eqb page page refl) (old_is FreeLeaf ∙ names_nothing was (in_the_role page FreeLeaf) usable refl ∙ sym (names_nothing view (in_the_role page FreeLeaf) usable refl))
put_here usable targets page was view PointerMap old_is =
    rw (eq-eqb page page refl) (old_is PointerMap ∙ names_nothing was (in_the_role page PointerMap) usable refl ∙ sym (names_nothing view (in_the_role page PointerMap) usable refl))

-- of another it is what it was
put_there : (usable : ℕ) (targets : Pair → List Target) (page : ℕ) (view : Option (List ℕ)) (pair : Pair) → (pair.page == page) ≡ false
    → put_page usable targets page view pair ≡ targets pair
put_there usable targets page view pair other = rw other refl

put_case : (usable : ℕ) (numbers : List ℕ) (views : List (Option (List ℕ))) (rank : ℕ) (view : Option (List ℕ)) (pair : Pair) (b : Bool) → Rises numbers
    → rank < length numbers → length views ≡ length numbers → (pair.page == get_or numbers rank 0) ≡ b
    → put_page usable (named_in usable numbers views) (get_or numbers rank 0) view pair ≡ named_in usable numbers (set views rank view) pair
put_case usable numbers views rank view pair true rises within long is =
    let page = get_or numbers rank 0 in
    let same : pair.page ≡ page = eqb-true pair.page page is in
    let targets = named_in usable numbers views in
    let here : put_page usable targets page view (in_the_role page pair.role) ≡ if_held view (in_the_role page pair.role) usable =
    put_here usable targets page (get_or views rank None) view pair.role (λ role. ap (λ v. if_held v (in_the_role page role) usable) (view_was numbers views rank rises within)) in
    ap (λ p. put_page usable targets page view (in_the_role p pair.role)) same ∙ here
    ∙ ap (λ v. if_held v (in_the_role page pair.role) usable) (sym (view_set numbers views rank view rises within long))
    ∙ ap (λ p. named_in usable numbers (set views rank view) (in_the_role p pair.role)) (sym same)
put_case usable numbers views rank view pair false rises within long is =
    put_there usable (named_in usable numbers views) (get_or numbers rank 0) view pair is
    ∙ ap (λ v. if_held v pair usable)
    (sym (view_other numbers views rank view pair.page (λ same. false≢true (sym is ∙ eq-eqb pair.page (get_or numbers rank 0) same))))

-- ---- all pages

pub turned_none : (next : ℕ → Option (List ℕ)) (sums : Sums) (usable : ℕ) (numbers : List ℕ) (views : List (Option (List ℕ))) (come gone : List Target)
    → HasTurned next sums usable numbers views views come come gone gone
turned_none next sums usable numbers views come gone = record { gathers = λ before graph met apart marked targets is. is }

pub turned_more : (next : ℕ → Option (List ℕ)) (sums : Sums) (usable : ℕ) (numbers : List ℕ) (views now : List (Option (List ℕ))) (rank : ℕ)
    (come coming came gone going went : List Target) → Rises numbers → rank < length numbers → length now ≡ length numbers
    → HasTurned next sums usable numbers views now come coming gone going
    → ExchangesPage sums usable (get_or numbers rank 0) (get_or now rank None) (next (get_or numbers rank 0)) coming came going went
    → HasTurned next sums usable numbers views (set now rank (next (get_or numbers rank 0))) come came gone went
turned_more next sums usable numbers views now rank come coming came gone going went rises within long turned exchange =
    let page = get_or numbers rank 0 in
    let view = next page in
    let targets = named_in usable numbers now in
    record {
      gathers = λ before graph met apart marked names is.
          gathered_same before graph met (put_page usable targets page view) (named_in usable numbers (set now rank view)) came went
          (λ pair there. put_case usable numbers now rank view pair (pair.page == page) rises within long refl)
          (page_stage before graph met sums usable targets page (get_or now rank None) view coming came going went apart marked
          (λ role. ap (λ v. if_held v (in_the_role page role) usable) (view_was numbers now rank rises within))
          (λ role. sym (names (in_the_role page role))) exchange (turned.gathers before graph met apart marked names is));
    }

usable_case : (usable : ℕ) (views : List (Option (List ℕ))) (rank : ℕ) (view : Option (List ℕ)) (at : ℕ) → rank < length views
    → ((r : ℕ) → HasUsable usable (get_or views r None)) → HasUsable usable view → (at ≡ rank) ⊎ (at ≡ rank → ⊥) → HasUsable usable (get_or (set views rank view) at None)
usable_case usable views rank view at within each is (inl same) =
    subst (λ r. HasUsable usable (get_or (set views rank view) r None)) (sym same)
    (subst (HasUsable usable) (sym (get_or-set_same views rank view None within)) is)
usable_case usable views rank view at within each is (inr differ) =
    subst (HasUsable usable) (sym (get_or-set_other views rank at view None differ)) (each at)

-- the views keep their usable bytes
pub set_usable : (usable : ℕ) (views : List (Option (List ℕ))) (rank : ℕ) (view : Option (List ℕ)) → rank < length views
    → ((r : ℕ) → HasUsable usable (get_or views r None)) → HasUsable usable view → (at : ℕ) → HasUsable usable (get_or (set views rank view) at None)
set_usable usable views rank view within each is at = usable_case usable views rank view at within each is (cases_eq at rank)

-- a step of the loop, as the code has the views in hand
pub turn_more : {A : Type 0} (copied : A → Option (List ℕ)) (next : ℕ → Option (List ℕ)) (sums : Sums) (usable : ℕ) (numbers : List ℕ) (views : List (Option (List ℕ))) (now : List A)
    (rank : ℕ) (found was : A) (come coming came gone going went : List Target) → Rises numbers → rank < length numbers → length now ≡ length numbers
    → copied found ≡ next (get_or numbers rank 0) → copied was ≡ get_or (map copied now) rank None
    → HasTurned next sums usable numbers views (map copied now) come coming gone going
    → ExchangesPage sums usable (get_or numbers rank 0) (copied was) (copied found) coming came going went
    → HasTurned next sums usable numbers views (map copied (set now rank found)) come came gone went
turn_more copied next sums usable numbers views now rank found was come coming came gone going went rises within long found_is was_is turned exchange =
    let page = get_or numbers rank 0 in
    let all = map copied now in
    let exchanged : ExchangesPage sums usable page (get_or all rank None) (next page) coming came going went =
    subst (λ v. ExchangesPage sums usable page v (next page) coming came going went) was_is
    (subst (λ v. ExchangesPage sums usable page (copied was) v coming came going went) found_is exchange) in
    subst (λ vs. HasTurned next sums usable numbers views vs come came gone went) (ap (set all rank) (sym found_is) ∙ sym (map-set copied now rank found))
    (turned_more next sums usable numbers views all rank come coming came gone going went rises within (length-map now copied ∙ long) turned exchanged)

-- a view that was just taken has them
pub view_usable : (usable page_size : ℕ) (view : Option (Bor (List ℕ))) → usable ≤ page_size → page_size ≤ 65536 → IfSome view (λ bytes. length bytes.now ≡ page_size)
    → HasUsable usable (option_copied view)
view_usable usable page_size None within small whole = tt
view_usable usable page_size (Some bytes) within small whole = (omega (arith, whole, within), omega (arith, whole, small))
