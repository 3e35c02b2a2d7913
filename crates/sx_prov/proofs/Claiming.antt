-- What is claimed of the bytes of a b-tree page gives their labels.
use Rattle.std.proofs.Common.{◌≡◌, ℕ, ◌+◌, zero, suc, ◌<◌, ◌≤◌, Bool, true, false, cond, List, [], ◌∷◌, length, get_or, take, refl, sym, ap, subst, ◌∙◌, arith, All}
use Rattle.std.specs.Prelude.{filter, IsPermutation}
use Rattle.std.specs.List.{sum_by}
use Rattle.std.proofs.lemmas.List.{take_more, take_all}
use Rattle.std.proofs.lemmas.List.Elements.{All-head, All-tail, All-get_or}
use Rattle.std.proofs.lemmas.List.Sums.{sum_by-cons}
use Rattle.std.proofs.lemmas.List.Sorted.{sum_by-IsPermutation, All-permutation}
use Rattle.sx_base.specs.declared.evidence.Span.{Span}
use Rattle.sx_base.specs.declared.label.Label.{Label}
use Rattle.sx_node.specs.Nodes.{NodePage, content_start}
use Rattle.sx_node.specs.Claims.{Claim, LiesWithin, claims_of}
use Rattle.sx_seglist.specs.declared.claimed.Claimed.{Claimed}
use Rattle.sx_seglist.specs.declared.claimed.Claimed.TheVariants.{None, One, Many}
use Rattle.sx_seglist.specs.Claims.{holds, tally, claimed_by, AreCounted, Counts}
use Rattle.sx_seglist.specs.Runs.{state_at, IsMaximal, Cover, AreRuns}
use Rattle.sx_prov.specs.Runs.{label_number, label_index}
use Rattle.sx_prov.specs.Labels.{claimed_label, node_label}
use Rattle.sx_prov.specs.Filling.{up_to, state_label, Fills}
use Rattle.sx_prov.proofs.Same.{label_with, with_is}
use Rattle.sx_prov.proofs.Filling.{length_up_to, up_to_same}

-- ---- the order of the claims doesn't matter

-- what so many claims make of a byte, with the sums of their labels' numbers
by_sums : ℕ → ℕ → ℕ → Claimed
by_sums zero numbers indices = None
by_sums (suc zero) numbers indices = One (label_with numbers indices)
by_sums (suc (suc count)) numbers indices = Many

number_of : Span × Label → ℕ
number_of claim = label_number claim.1

index_of : Span × Label → ℕ
index_of claim = label_index claim.1

tally_by_sums : (claims : List (Span × Label)) → tally claims ≡ by_sums (length claims) (sum_by number_of claims) (sum_by index_of claims)
unfolding by_sums number_of index_of
tally_by_sums [] = refl
tally_by_sums (claim ∷ []) =
    let number : label_number claim.1 ≡ 0 + label_number claim.1 = omega arith in
    let index : label_index claim.1 ≡ 0 + label_index claim.1 = omega arith in
    ap One (sym (with_is claim.1) ∙ ap (λ n. label_with n (label_index claim.1)) number ∙ ap (label_with (0 + label_number claim.1)) index)
tally_by_sums (claim ∷ other ∷ claims) = refl

filter_case : (w : Span × Label → ℕ) (claim : Span × Label) (rest : List (Span × Label)) (b : Bool)
    → sum_by w (cond b (claim ∷ rest) rest) ≡ cond b (w claim) 0 + sum_by w rest
filter_case w claim rest true = sum_by-cons w claim rest
filter_case w claim rest false = let none : sum_by w rest ≡ 0 + sum_by w rest = omega arith in none

sum_filter : (p : Span × Label → Bool) (w : Span × Label → ℕ) (claims : List (Span × Label)) → sum_by w (filter p claims) ≡ sum_by (λ c. cond (p c) (w c) 0) claims
sum_filter p w [] = refl
sum_filter p w (claim ∷ claims) =
    filter_case w claim (filter p claims) (p claim) ∙ ap (λ sum. cond (p claim) (w claim) 0 + sum) (sum_filter p w claims)
    ∙ sym (sum_by-cons (λ c. cond (p c) (w c) 0) claim claims)

sum_permuted : (p : Span × Label → Bool) (w : Span × Label → ℕ) (claims sorted : List (Span × Label)) → IsPermutation claims sorted
    → sum_by w (filter p sorted) ≡ sum_by w (filter p claims)
sum_permuted p w claims sorted permuted =
    sum_filter p w sorted ∙ sum_by-IsPermutation (λ c. cond (p c) (w c) 0) claims sorted permuted ∙ sym (sum_filter p w claims)

length_sum : (claims : List (Span × Label)) → length claims ≡ sum_by (λ c. 1) claims
length_sum [] = refl
length_sum (claim ∷ claims) = let others = length_sum claims in let more = sum_by-cons (λ (c : Span × Label). 1) claim claims in omega (arith, others, more)

pub tally_permuted : (p : Span × Label → Bool) (claims sorted : List (Span × Label)) → IsPermutation claims sorted → tally (filter p sorted) ≡ tally (filter p claims)
tally_permuted p claims sorted permuted =
    let count : length (filter p sorted) ≡ length (filter p claims) =
    length_sum (filter p sorted) ∙ sum_permuted p (λ c. 1) claims sorted permuted ∙ sym (length_sum (filter p claims)) in
    tally_by_sums (filter p sorted)
    ∙ ap (λ n. by_sums n (sum_by number_of (filter p sorted)) (sum_by index_of (filter p sorted))) count
    ∙ ap (λ n. by_sums (length (filter p claims)) n (sum_by index_of (filter p sorted))) (sum_permuted p number_of claims sorted permuted)
    ∙ ap (by_sums (length (filter p claims)) (sum_by number_of (filter p claims))) (sum_permuted p index_of claims sorted permuted)
    ∙ sym (tally_by_sums (filter p claims))

-- ---- what is claimed of a byte gives its label

pub state_case : (node : NodePage) (at : ℕ) (claims : List Claim) → state_label (content_start node) (tally claims) at ≡ claimed_label node at claims
state_case node at [] = refl
state_case node at (claim ∷ []) = refl
state_case node at (claim ∷ other ∷ claims) = refl

pub node_labels : (node : NodePage) (sorted seen : List Claim) (states : List Claimed) (usable content : ℕ) → content ≡ content_start node → IsPermutation (claims_of node) sorted → seen ≡ sorted
    → AreCounted seen states → length states ≡ usable
    → up_to (λ at. state_label content (state_at states at) at) (length states) ≡ up_to (node_label node) usable
unfolding node_label claimed_by
node_labels node sorted seen states usable content begins permuted same counted long =
    up_to_same (λ at. state_label content (state_at states at) at) (node_label node) (length states)
    (λ at within. ap (λ place. state_label place (state_at states at) at) begins
    ∙ ap (λ state. state_label (content_start node) state at)
    (counted at within ∙ ap (λ (l : List Claim). tally (filter (holds at) l)) same ∙ tally_permuted (holds at) (claims_of node) sorted permuted)
    ∙ state_case node at (filter (holds at) (claims_of node)))
    ∙ ap (up_to (node_label node)) long

-- ---- one run after the other

abbrev pub whole_of : ℕ → List Claimed → ℕ → Label
whole_of content states at = state_label content (state_at states at) at

-- the labels of the bytes before the runs that are still to come
pub record IsPut (content : ℕ) (states : List Claimed) (map : List Label) (runs : List (Span × Claimed)) : Type 0 where
  pub labels : map ≡ up_to (whole_of content states) (length map)
  pub cover : Cover (length map) (length states) runs
  pub maximal : All (IsMaximal states) runs

pub put_start : (content : ℕ) (states : List Claimed) (map : List Label) (runs : List (Span × Claimed)) → map ≡ [] → AreRuns states runs → IsPut content states map runs
unfolding up_to
put_start content states map runs none are = record {
  labels = none ∙ ap (λ len. up_to (whole_of content states) len) (sym (ap length none));
  cover = subst (λ len. Cover len (length states) runs) (sym (ap length none)) are.all;
  maximal = are.maximal;
}

pub put_next : (content : ℕ) (states : List Claimed) (map new : List Label) (all runs : List (Span × Claimed)) (run : Span × Claimed) → all ≡ run ∷ runs → IsPut content states map all
    → Fills (state_label content run.1) (length map) (run.0.start + run.0.len) map new → IsPut content states new runs
put_next content states map new all runs run is put fills =
    let cover : Cover (length map) (length states) (run ∷ runs) = subst (Cover (length map) (length states)) is put.cover in
    let maximal : All (IsMaximal states) (run ∷ runs) = subst (All (IsMaximal states)) is put.maximal in
    let here = All-head (IsMaximal states) run runs maximal in
    let start = cover.0 in
    let labels : new ≡ up_to (whole_of content states) (run.0.start + run.0.len) =
    fills (whole_of content states) put.labels (λ at low high. ap (λ state. state_label content state at) (here.each at (omega arith) high)) in
    let long : length new ≡ run.0.start + run.0.len = ap length labels ∙ length_up_to (whole_of content states) (run.0.start + run.0.len) in
    record {
      labels = labels ∙ ap (up_to (whole_of content states)) (sym long);
      cover = subst (λ len. Cover len (length states) runs) (sym long) cover.1;
      maximal = All-tail (IsMaximal states) run runs maximal;
    }

pub record IsNext (content : ℕ) (states : List Claimed) (map : List Label) (run : Span × Claimed) : Type 0 where
  pub behind : length map ≤ run.0.start + run.0.len
  pub within : run.0.start + run.0.len ≤ length states

pub next_is : (content : ℕ) (states : List Claimed) (map : List Label) (all runs : List (Span × Claimed)) (run : Span × Claimed) → all ≡ run ∷ runs → IsPut content states map all
    → IsNext content states map run
next_is content states map all runs run is put =
    let cover : Cover (length map) (length states) (run ∷ runs) = subst (Cover (length map) (length states)) is put.cover in
    let here = All-head (IsMaximal states) run runs (subst (All (IsMaximal states)) is put.maximal) in
    let start = cover.0 in
    record { behind = omega arith; within = here.within }

pub put_end : (content : ℕ) (states : List Claimed) (map : List Label) (runs : List (Span × Claimed)) → runs ≡ [] → IsPut content states map runs
    → map ≡ up_to (whole_of content states) (length states)
put_end content states map runs none put =
    let cover : Cover (length map) (length states) [] = subst (Cover (length map) (length states)) none put.cover in
    put.labels ∙ ap (up_to (whole_of content states)) cover

-- ---- the claims one after the other

pub counted_next : (claims : List (Span × Label)) (old new : List Claimed) (i : ℕ) (d : Span × Label) → i < length claims
    → AreCounted (take i claims) old → Counts old new (get_or claims i d) → AreCounted (take (i + 1) claims) new
counted_next claims old new i d within counted counts =
    subst (λ some. AreCounted some new) (sym (take_more claims i d within)) (counts.counted (take i claims) counted)

pub counted_all : (claims : List (Span × Label)) (states : List Claimed) (i : ℕ) → length claims ≤ i → AreCounted (take i claims) states → AreCounted claims states
counted_all claims states i past counted = subst (λ some. AreCounted some states) (take_all i claims past) counted

pub counted_none : (claims : List (Span × Label)) (states : List Claimed) → AreCounted [] states → AreCounted (take 0 claims) states
counted_none [] states counted = counted
counted_none (claim ∷ claims) states counted = counted

pub claim_lies : (claims : List (Span × Label)) (i len : ℕ) (d : Span × Label) (states : List Claimed) → i < length claims → All (LiesWithin len) claims → length states ≡ len
    → (get_or claims i d).0.start + (get_or claims i d).0.len ≤ length states
claim_lies claims i len d states within all long = let here = (All-get_or (LiesWithin len) claims i d within all).within in omega arith

pub lie_permuted : (len : ℕ) (claims sorted seen : List (Span × Label)) → IsPermutation claims sorted → seen ≡ sorted → All (LiesWithin len) claims → All (LiesWithin len) seen
lie_permuted len claims sorted seen permuted same all = subst (All (LiesWithin len)) (sym same) (All-permutation (LiesWithin len) claims sorted permuted all)
