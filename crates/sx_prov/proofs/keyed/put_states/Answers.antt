use Rattle.std.proofs.Common.{rules, ◌≡◌, ◌∷◌}
use Rattle.sx_prov.proofs.Claiming.{put_start, put_next}
use Rattle.sx_prov.proofs.keyed.put_states.Goals as goal

pub loop-span-init : goal.loop-span-init
loop-span-init c = put_start c.args.content c.args.states.now c.args.map.now c.walk-runs.result c.requires.none c.walk-runs.ensures

pub loop-span-preserved : goal.loop-span-preserved
loop-span-preserved c =
    let first : c.loop-span.runs ≡ (c.in-Some.span, c.in-Some.claimed) ∷ c.next.new.self = search rules in
    put_next c.args.content c.args.states.now c.loop-span.map c.put_claimed.new.map c.loop-span.runs c.next.new.self (c.in-Some.span, c.in-Some.claimed) first
    c.loop-span.invariant c.in_ok-put_claimed.ensures
