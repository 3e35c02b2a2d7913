-- Whether a payload is whole, by the length of its chain.
use Rattle.std.proofs.Common.{◌≡◌, ℕ, ◌<◌, ◌≤◌, Bool, true, false, ◌&&◌, List, length, Option, nat_le, unwrap_or, refl, sym, ap, ◌∙◌, arith}
use Rattle.std.proofs.lemmas.Bool.Decides.{nat_tests}
use Rattle.sx_base.specs.Held.{held_pages}
use Rattle.sx_cell.specs.declared.cell.Cell.{Cell}
use Rattle.sx_cell.specs.Local.{need_of, spilled}
use Rattle.sx_overflow.specs.Chains.{chain_of}
use Rattle.sx_overflow.specs.Payloads.{payload_of, some_piece, local_part}
use Rattle.sx_overflow.proofs.Lengths.{whole_by_length}

both : (a b : Bool) → a ≡ true → (a && b) ≡ b
both true b is = refl
both false b is = let clash : false ≡ true = is in cc

neither : (a b : Bool) → a ≡ false → (a && b) ≡ false
neither true b is = let clash : true ≡ false = is in cc
neither false b is = refl

at_most : (a b : ℕ) → a ≤ b → nat_le a b ≡ true
at_most a b is = grind (arith, nat_tests)

above : (a b : ℕ) → b < a → nat_le a b ≡ false
above a b is = grind (arith, nat_tests)

-- a payload that needs no page is whole
pub no_need : (size need usable : ℕ) (view : ℕ → Option (List ℕ)) (page : List ℕ) (cell : Cell) → need ≡ need_of usable (spilled cell) → need ≡ 0
    → (payload_of size view page usable cell).whole ≡ true
no_need size need usable view page cell is none =
    whole_by_length size view usable (unwrap_or cell.overflow 0) (spilled cell) (some_piece (local_part page cell))
    ∙ both _ _ (at_most (need_of usable (spilled cell)) (length (held_pages size view)) (omega (arith, is, none)))
    ∙ at_most (need_of usable (spilled cell)) (length (chain_of view (unwrap_or cell.overflow 0) (length (held_pages size view)))) (omega (arith, is, none))

-- one that needs more pages than are held isn't
pub past_held : (size need most usable : ℕ) (view : ℕ → Option (List ℕ)) (page : List ℕ) (cell : Cell) → need ≡ need_of usable (spilled cell)
    → most ≡ length (held_pages size view) → most < need → (payload_of size view page usable cell).whole ≡ false
past_held size need most usable view page cell is held past =
    whole_by_length size view usable (unwrap_or cell.overflow 0) (spilled cell) (some_piece (local_part page cell))
    ∙ neither _ _ (above (need_of usable (spilled cell)) (length (held_pages size view)) (omega (arith, is, held, past)))

-- any other is whole where its chain is as long as it needs
pub by_length : (size need most len link usable : ℕ) (view : ℕ → Option (List ℕ)) (page : List ℕ) (cell : Cell) → need ≡ need_of usable (spilled cell)
    → most ≡ length (held_pages size view) → need ≤ most → link ≡ unwrap_or cell.overflow 0 → len ≡ length (chain_of view link most)
    → (payload_of size view page usable cell).whole ≡ nat_le need len
by_length size need most len link usable view page cell is held within from long =
    whole_by_length size view usable (unwrap_or cell.overflow 0) (spilled cell) (some_piece (local_part page cell))
    ∙ both _ _ (at_most (need_of usable (spilled cell)) (length (held_pages size view)) (omega (arith, is, held, within)))
    ∙ ap (λ n. nat_le n (length (chain_of view (unwrap_or cell.overflow 0) (length (held_pages size view))))) (sym is)
    ∙ ap (λ n. nat_le need (length (chain_of view (unwrap_or cell.overflow 0) n))) (sym held)
    ∙ ap (λ n. nat_le need (length (chain_of view n most))) (sym from)
    ∙ ap (nat_le need) (sym long)
