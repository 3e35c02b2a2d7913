-- Places of a run at which four zero bytes stand.
use Rattle.std.proofs.Common.{◌≡◌, ℕ, zero, suc, ◌+◌, ◌-◌, ◌<◌, ◌≤◌, List, [], ◌∷◌, length, drop, slice_index, None, ap, ◌∙◌, arith}
use Rattle.sx_grammar.specs.declared.shape.ShapeKey.{ShapeKey}
use Rattle.sx_grammar.specs.Clips.{Setting}
use Rattle.sx_grammar.specs.Choice.{accepted_at}
use Rattle.sx_grammar.proofs.ZeroLemmas.{zeros_begin_none}

one_zero : (run : List ℕ) (at : ℕ) → at < length run → slice_index run at ≡ 0 → drop at run ≡ 0 ∷ drop (at + 1) run
one_zero [] at within zero_is = absurd (omega arith)
one_zero (byte ∷ run) zero within zero_is = ap (λ b. b ∷ run) zero_is
one_zero (byte ∷ run) (suc at) within zero_is =
    let count : suc (at + 1) ≡ suc at + 1 = omega arith in
    one_zero run at (omega arith) zero_is ∙ ap (λ (k : ℕ). 0 ∷ drop k (byte ∷ run)) count

four_zeros : (run : List ℕ) (at : ℕ) → at + 3 < length run → ((k : ℕ) → at ≤ k → k < at + 4 → slice_index run k ≡ 0)
    → (rest : List ℕ) × (drop at run ≡ 0 ∷ 0 ∷ 0 ∷ 0 ∷ rest)
four_zeros run at within zeros =
    let first = one_zero run at (omega arith) (zeros at (omega arith) (omega arith)) in
    let second = one_zero run (at + 1) (omega arith) (zeros (at + 1) (omega arith) (omega arith)) in
    let third = one_zero run (at + 1 + 1) (omega arith) (zeros (at + 1 + 1) (omega arith) (omega arith)) in
    let fourth = one_zero run (at + 1 + 1 + 1) (omega arith) (zeros (at + 1 + 1 + 1) (omega arith) (omega arith)) in
    (drop (at + 1 + 1 + 1 + 1) run, first ∙ ap (λ t. 0 ∷ t) (second ∙ ap (λ t. 0 ∷ t) (third ∙ ap (λ t. 0 ∷ t) fourth)))

-- the zeros from a place on were counted: at each of them but the last three no form begins
pub zeros_passed : (run : List ℕ) (at end : ℕ) → end ≤ length run → ((k : ℕ) → at ≤ k → k < end → slice_index run k ≡ 0)
    → (usable : ℕ) (shapes : List ShapeKey) (setting : Setting) (place : ℕ) → 480 ≤ usable → at ≤ place → place < end - 3 → accepted_at usable shapes setting (drop place run) ≡ None
zeros_passed run at end within zeros usable shapes setting place least past below =
    let four = four_zeros run place (omega arith) (λ k from before. zeros k (omega arith) (omega arith)) in
    ap (accepted_at usable shapes setting) four.1 ∙ zeros_begin_none usable shapes setting four.0 least

-- none was passed over
pub none_passed : (run : List ℕ) (at : ℕ) (usable : ℕ) (shapes : List ShapeKey) (setting : Setting) (place : ℕ) → 480 ≤ usable → at ≤ place → place < at → accepted_at usable shapes setting (drop place run) ≡ None
none_passed run at usable shapes setting place least past below = absurd (omega arith)
