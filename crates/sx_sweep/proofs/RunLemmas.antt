-- The runs of a map and the blocks of a page, one after the other.
use Rattle.std.proofs.Common.{◌≡◌, ℕ, zero, suc, ◌+◌, ◌-◌, ◌<◌, ◌≤◌, Bool, true, false, ◌||◌, ◌&&◌, ◌==◌, nat_lt, List, [], ◌∷◌, ◌++◌, length, replicate, refl, sym, ap, subst, ◌∙◌, arith, length-append}
use Rattle.std.proofs.lemmas.Bool.Decides.{nat_tests}
use Rattle.std.proofs.lemmas.List.{length-replicate}
use Rattle.std.specs.List.{AllByRecursion}
use Rattle.sx_base.specs.Labels.{is_owning}
use Rattle.sx_base.specs.declared.evidence.Span.{Span}
use Rattle.sx_base.specs.declared.label.Label.{Label}
use Rattle.sx_owned.specs.Owned.{Owned, Begins}
use Rattle.sx_owned.specs.Spans.{in_span}
use Rattle.sx_prov.specs.Runs.{runs_of, AreRuns}
use Rattle.sx_prov.proofs.Maximal.{runs_are}
use Rattle.sx_node.specs.Nodes.{NodePage, first_freeblock}
use Rattle.sx_node.specs.Freeblocks.{freeblocks_of}
use Rattle.sx_node.proofs.Walks.{IsBlock, blocks_within}
use Rattle.sx_sweep.specs.Growth.{nowhere, Grows, Growing}
use Rattle.sx_sweep.specs.Owning.{blocks_begin}
use Rattle.sx_sweep.specs.Told.{owning_in, run_owns, runs_own, only_in, RunsIn}
use Rattle.sx_sweep.proofs.GrowthLemmas.{growing_start, growing_step, growing_end, block_grows}

-- ---- a map's labels and its runs

own_more : (run : Span × Label) (runs : List (Span × Label)) (at : ℕ) → runs_own (run ∷ runs) at ≡ (run_owns run at || runs_own runs at)
unfolding runs_own
own_more run runs at = refl

own_none : (at : ℕ) → runs_own [] at ≡ false
unfolding runs_own
own_none at = refl

in_none : (at : ℕ) → owning_in [] at ≡ false
unfolding owning_in
in_none at = refl

in_front : (len : ℕ) (label : Label) (rest : List Label) (k : ℕ) → k < len → owning_in (replicate len label ++ rest) k ≡ is_owning label
unfolding owning_in
in_front zero label rest k below = absurd (omega arith)
in_front (suc len) label rest zero below = refl
in_front (suc len) label rest (suc k) below = in_front len label rest k (omega arith)

in_rest : (len : ℕ) (label : Label) (rest : List Label) (k : ℕ) → owning_in (replicate len label ++ rest) (len + k) ≡ owning_in rest k
unfolding owning_in
in_rest zero label rest k = let same : zero + k ≡ k = omega arith in ap (owning_in rest) same
in_rest (suc len) label rest k = let more : suc len + k ≡ suc (len + k) = omega arith in ap (owning_in (label ∷ (replicate len label ++ rest))) more ∙ in_rest len label rest k

not_yet : (a b : Bool) → b ≡ false → (a && b) ≡ false
not_yet true b is = is
not_yet false b is = refl

none_or : (a b : Bool) → a ≡ false → b ≡ false → (a || b) ≡ false
none_or true b is other = absurd (cc)
none_or false b is other = other

out_of : (k : ℕ) (span : Span) → k < span.start → in_span k span ≡ false
out_of k span before = grind (arith, nat_tests)

before_runs : (at : ℕ) (labels : List Label) (runs : List (Span × Label)) (k : ℕ) → AreRuns at labels runs → k < at → runs_own runs k ≡ false
before_runs at labels [] k are below = own_none k
before_runs at labels (run ∷ runs) k are below =
    let start : run.0.start ≡ at = are.1.0 in
    let outside : in_span k run.0 ≡ false = out_of k run.0 (omega arith) in
    own_more run runs k ∙ none_or (run_owns run k) (runs_own runs k) (not_yet (is_owning run.1) (in_span k run.0) outside) (before_runs (at + run.0.len) are.0 runs k are.1.4 (omega arith))

in_first : (owning inside rest : Bool) → inside ≡ true → rest ≡ false → ((owning && inside) || rest) ≡ owning
in_first true true rest is none = refl
in_first false true rest is none = none
in_first owning false rest is none = absurd (cc)

in_later : (owning inside rest : Bool) → inside ≡ false → ((owning && inside) || rest) ≡ rest
in_later true false rest is = refl
in_later false false rest is = refl
in_later owning true rest is = absurd (cc)

behind_span : (k : ℕ) (span : Span) → span.start + span.len ≤ k → in_span k span ≡ false
behind_span k span past = grind (arith, nat_tests)

within_span : (k : ℕ) (span : Span) → span.start ≤ k → k < span.start + span.len → in_span k span ≡ true
within_span k span from before = grind (arith, nat_tests)

runs_by : (below : Bool) (at : ℕ) (labels : List Label) (run : Span × Label) (runs : List (Span × Label)) (k : ℕ) → nat_lt k run.0.len ≡ below → AreRuns at labels (run ∷ runs)
    → ((rest : List Label) (j : ℕ) → AreRuns (at + run.0.len) rest runs → runs_own runs (at + run.0.len + j) ≡ owning_in rest j)
    → runs_own (run ∷ runs) (at + k) ≡ owning_in labels k
runs_by true at labels run runs k is are further =
    let low : k < run.0.len = grind (arith, nat_tests) in
    let start : run.0.start ≡ at = are.1.0 in
    own_more run runs (at + k)
    ∙ in_first (is_owning run.1) (in_span (at + k) run.0) (runs_own runs (at + k)) (within_span (at + k) run.0 (omega arith) (omega arith)) (before_runs (at + run.0.len) are.0 runs (at + k) are.1.4 (omega arith))
    ∙ sym (in_front run.0.len run.1 are.0 k low)
    ∙ ap (λ list. owning_in list k) (sym are.1.2)
runs_by false at labels run runs k is are further =
    let high : run.0.len ≤ k = grind (arith, nat_tests) in
    let start : run.0.start ≡ at = are.1.0 in
    let j = k - run.0.len in
    let place : at + k ≡ at + run.0.len + j = omega arith in
    let back : run.0.len + j ≡ k = omega arith in
    own_more run runs (at + k)
    ∙ in_later (is_owning run.1) (in_span (at + k) run.0) (runs_own runs (at + k)) (behind_span (at + k) run.0 (omega arith))
    ∙ ap (runs_own runs) place
    ∙ further are.0 j are.1.4
    ∙ sym (in_rest run.0.len run.1 are.0 j)
    ∙ ap (owning_in (replicate run.0.len run.1 ++ are.0)) back
    ∙ ap (λ list. owning_in list k) (sym are.1.2)

runs_owning : (runs : List (Span × Label)) (at : ℕ) (labels : List Label) (k : ℕ) → AreRuns at labels runs → runs_own runs (at + k) ≡ owning_in labels k
runs_owning [] at labels k are = own_none (at + k) ∙ sym (ap (λ list. owning_in list k) are ∙ in_none k)
runs_owning (run ∷ runs) at labels k are =
    runs_by (nat_lt k run.0.len) at labels run runs k refl are (λ rest j more. runs_owning runs (at + run.0.len) rest j more)

-- the runs of a map own what its labels do
pub map_runs : (labels : List Label) (k : ℕ) → runs_own (runs_of labels) k ≡ owning_in labels k
map_runs labels k =
    let same : k ≡ 0 + k = omega arith in
    ap (runs_own (runs_of labels)) same ∙ runs_owning (runs_of labels) 0 labels k (runs_are 0 labels)

runs_end : (runs : List (Span × Label)) (at size : ℕ) (labels : List Label) → AreRuns at labels runs → at + length labels ≤ size → RunsIn size runs
runs_end [] at size labels are within = tt
runs_end (run ∷ runs) at size labels are within =
    let start : run.0.start ≡ at = are.1.0 in
    let long : length labels ≡ run.0.len + length are.0 = ap length are.1.2 ∙ length-append (replicate run.0.len run.1) are.0 ∙ ap (λ n. n + length are.0) (length-replicate run.0.len run.1) in
    (omega arith, runs_end runs (at + run.0.len) size are.0 are.1.4 (omega arith))

-- and they lie in the page
pub map_within : (labels : List Label) (size : ℕ) (runs : List (Span × Label)) → runs ≡ runs_of labels → length labels ≡ size → RunsIn size runs
map_within labels size runs is long = subst (RunsIn size) (sym is) (runs_end (runs_of labels) 0 size labels (runs_are 0 labels) (omega arith))

pub within_rest : (size : ℕ) (run : Span × Label) (left rest : List (Span × Label)) → left ≡ run ∷ rest → RunsIn size left → RunsIn size rest
within_rest size run left rest is within = (subst (RunsIn size) is within).1

-- blocks of a page lie in it
pub chain_within : (node : NodePage) (blocks : List Span) → blocks ≡ freeblocks_of node → AllByRecursion (IsBlock node.usable) blocks
chain_within node blocks is = subst (AllByRecursion (IsBlock node.usable)) (sym is) (blocks_within node.page node.usable (first_freeblock node))

pub chain_rest : (usable : ℕ) (block : Span) (left rest : List Span) → left ≡ block ∷ rest → AllByRecursion (IsBlock usable) left → AllByRecursion (IsBlock usable) (block ∷ rest)
chain_rest usable block left rest is within = subst (AllByRecursion (IsBlock usable)) is within

-- ---- a run more

and_or : (a b c : Bool) → (a && (b || c)) ≡ ((a && b) || (a && c))
and_or true b c = refl
and_or false b c = refl

and_none : (a : Bool) → (a && false) ≡ false
and_none true = refl
and_none false = refl

pub map_start : (table : Owned) (image : ℕ) (labels : List Label) (runs : List (Span × Label)) → runs ≡ runs_of labels
    → Growing table table (only_in image (owning_in labels)) nowhere (only_in image (runs_own runs)) nowhere
map_start table image labels runs is =
    growing_start table (only_in image (owning_in labels)) nowhere (only_in image (runs_own runs)) nowhere
    (λ other at. ap (λ list. (other == image) && runs_own list at) is ∙ ap (λ b. (other == image) && b) (map_runs labels at))
    (λ other at. refl)

pub map_step : (old now new : Owned) (image : ℕ) (labels : List Label) (run : Span × Label) (left rest : List (Span × Label)) → left ≡ run ∷ rest
    → Growing old now (only_in image (owning_in labels)) nowhere (only_in image (runs_own left)) nowhere → Grows now new (only_in image (run_owns run)) nowhere
    → Growing old new (only_in image (owning_in labels)) nowhere (only_in image (runs_own rest)) nowhere
map_step old now new image labels run left rest is growing grows =
    growing_step old now new (only_in image (owning_in labels)) nowhere (only_in image (runs_own left)) nowhere (only_in image (run_owns run)) nowhere (only_in image (runs_own rest)) nowhere growing grows
    (λ other at. ap (λ list. (other == image) && runs_own list at) is ∙ ap (λ b. (other == image) && b) (own_more run rest at) ∙ and_or (other == image) (run_owns run at) (runs_own rest at))
    (λ other at. refl)

pub map_end : (old now : Owned) (image : ℕ) (labels : List Label) (left : List (Span × Label)) → left ≡ [] → Growing old now (only_in image (owning_in labels)) nowhere (only_in image (runs_own left)) nowhere
    → Grows old now (only_in image (owning_in labels)) nowhere
map_end old now image labels left is growing =
    growing_end old now (only_in image (owning_in labels)) nowhere (only_in image (runs_own left)) nowhere growing
    (λ other at. ap (λ list. (other == image) && runs_own list at) is ∙ ap (λ b. (other == image) && b) (own_none at) ∙ and_none (other == image))
    (λ other at. refl)

-- ---- a block more

block_more : (block : Span) (blocks : List Span) (at : ℕ) → blocks_begin (block ∷ blocks) at ≡ ((at == block.start) || blocks_begin blocks at)
unfolding blocks_begin
block_more block blocks at = refl

block_none : (at : ℕ) → blocks_begin [] at ≡ false
unfolding blocks_begin
block_none at = refl

pub chain_start : (table : Owned) (image : ℕ) (all left : List Span) → left ≡ all → Growing table table nowhere (only_in image (blocks_begin all)) nowhere (only_in image (blocks_begin left))
chain_start table image all left is =
    growing_start table nowhere (only_in image (blocks_begin all)) nowhere (only_in image (blocks_begin left)) (λ other at. refl)
    (λ other at. ap (λ list. (other == image) && blocks_begin list at) is)

pub chain_step : (old now new : Owned) (image : ℕ) (all : List Span) (block : Span) (left rest : List Span) → left ≡ block ∷ rest
    → Growing old now nowhere (only_in image (blocks_begin all)) nowhere (only_in image (blocks_begin left)) → Begins now new image block.start
    → Growing old new nowhere (only_in image (blocks_begin all)) nowhere (only_in image (blocks_begin rest))
chain_step old now new image all block left rest is growing begins =
    growing_step old now new nowhere (only_in image (blocks_begin all)) nowhere (only_in image (blocks_begin left)) nowhere (only_in image (λ at. at == block.start)) nowhere (only_in image (blocks_begin rest))
    growing (block_grows now new image block begins) (λ other at. refl)
    (λ other at. ap (λ list. (other == image) && blocks_begin list at) is ∙ ap (λ b. (other == image) && b) (block_more block rest at) ∙ and_or (other == image) (at == block.start) (blocks_begin rest at))

pub chain_end : (old now : Owned) (image : ℕ) (all left : List Span) → left ≡ [] → Growing old now nowhere (only_in image (blocks_begin all)) nowhere (only_in image (blocks_begin left))
    → Grows old now nowhere (only_in image (blocks_begin all))
chain_end old now image all left is growing =
    growing_end old now nowhere (only_in image (blocks_begin all)) nowhere (only_in image (blocks_begin left)) growing (λ other at. refl)
    (λ other at. ap (λ list. (other == image) && blocks_begin list at) is ∙ ap (λ b. (other == image) && b) (block_none at) ∙ and_none (other == image))
