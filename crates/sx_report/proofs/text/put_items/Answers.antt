use Rattle.std.proofs.Common.{◌++◌, false, string_bytes, arith, length-drop, drop}
use Rattle.sx_base.specs.declared.moment.Moment.TheVariants.{Journal}
use Rattle.sx_report.specs.Rest.{moments_rest}
use Rattle.sx_report.specs.declared.facts.MomentFacts.{MomentFacts}
use Rattle.sx_report.proofs.Joined.{item_put, closed}
use Rattle.sx_report.proofs.text.put_items.Goals as goal

abbrev nothing : MomentFacts
nothing = record { at = Journal; pages = 0; held = 0; uncertain = 0; owned = 0; slack = 0; fault = 0; dead = 0 }

pub loop-moment-preserved : goal.loop-moment-preserved
loop-moment-preserved c =
    item_put c.loop-moment.later c.args.moments.now c.loop-moment.moment-index nothing (string_bytes c.loop-moment.text) (string_bytes c.put_item.new.text) (string_bytes c.args.text.now ++ moments_rest false c.args.moments.now)
    c.loop-moment-test.true c.loop-moment.invariant c.in_ok-put_item.ensures

pub returns : goal.returns
unfolding lib.Utf8.encode
returns c =
    closed c.push.result c.loop-moment.later (drop c.loop-moment.moment-index c.args.moments.now) (string_bytes c.loop-moment.text) (string_bytes c.push.new.self) (string_bytes c.args.text.now ++ moments_rest false c.args.moments.now)
    (omega (arith, c.loop-moment-test.false, length-drop c.loop-moment.moment-index c.args.moments.now)) c.loop-moment.invariant c.push.ensures.bytes
