use Rattle.std.proofs.Common.{◌++◌}
use Rattle.std.specs.Prelude.{string_bytes}
use Rattle.sx_record.specs.Content.{content_of}
use Rattle.sx_carve_text.specs.Spilled.{values_text}
use Rattle.sx_carve_text.proofs.Written.{values_more, values_end}
use Rattle.sx_carve_text.proofs.whole_line.put_values.Goals as goal

pub loop-value-preserved : goal.loop-value-preserved
loop-value-preserved c =
    values_more c.args.encoding (content_of c.in-Some.value) c.loop-value.values c.next.new.self (string_bytes c.loop-value.line) (string_bytes c.put_spaced.new.line)
    (string_bytes c.args.line.now ++ values_text c.args.encoding c.args.values)
    c.in-Some.ensures.steps c.loop-value.invariant c.in_ok-put_spaced.ensures

pub returns : goal.returns
returns c =
    values_end c.args.encoding c.loop-value.values (string_bytes c.loop-value.line) (string_bytes c.args.line.now ++ values_text c.args.encoding c.args.values)
    c.in_default.ensures.steps.0 c.loop-value.invariant
