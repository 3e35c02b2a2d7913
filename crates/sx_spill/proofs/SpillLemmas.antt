-- Candidates that need more pages than there are.
use Rattle.std.proofs.Common.{◌≡◌, ℕ, ◌<◌, false, if◌then◌else◌, List, ◌++◌, take, Some, None, sym, ap, subst, ◌∙◌, arith}
use Rattle.sx_cell.specs.Local.{need_of}
use Rattle.sx_spill.specs.Chains.{trail_of, has_chain}
use Rattle.sx_spill.specs.Completion.{bodies_of, payload_from}
use Rattle.sx_spill.specs.Marks.{Reaches}
use Rattle.sx_spill.specs.Unused.{Unused, Given, unused_by}
use Rattle.sx_spill.proofs.ChainLemmas.{AreFew, past_most, past_reach}

payload_none : (pages : Unused) (local : List ℕ) (link left : ℕ) → has_chain pages.view link (need_of pages.usable left) ≡ false → payload_from pages local link left ≡ None
unfolding payload_from
payload_none pages local link left none =
    ap (λ b. if b then Some (local ++ take left (bodies_of pages (trail_of pages.view link (need_of pages.usable left)))) else None) none

needed : (given other : Given) (usable need left : ℕ) → given ≡ other → usable ≡ given.usable → need ≡ need_of usable left → need ≡ need_of other.usable left
needed given other usable need left same used is = is ∙ ap (λ u. need_of u left) (used ∙ ap (λ (g : Given). g.usable) same)

pub none_past_most : (given other : Given) (local : List ℕ) (link left usable need most from : ℕ) → given ≡ other → usable ≡ given.usable → need ≡ need_of usable left
    → AreFew (unused_by given).view most → from ≡ most → from < need → None ≡ payload_from (unused_by other) local link left
none_past_most given other local link left usable need most from same used is few held past =
    let all = needed given other usable need left same used is in
    sym (payload_none (unused_by other) local link left
    (past_most (unused_by other).view link (need_of other.usable left) most (subst (λ (g : Given). AreFew (unused_by g).view most) same few) (omega (arith, all, held, past))))

pub none_past_reach : (given other : Given) (local : List ℕ) (link left usable need reach from : ℕ) → given ≡ other → usable ≡ given.usable → need ≡ need_of usable left
    → Reaches (unused_by other).view link reach → from ≡ reach → from < need → None ≡ payload_from (unused_by other) local link left
none_past_reach given other local link left usable need reach from same used is reaches held past =
    let all = needed given other usable need left same used is in
    sym (payload_none (unused_by other) local link left (past_reach (unused_by other).view link (need_of other.usable left) reach reaches (omega (arith, all, held, past))))
