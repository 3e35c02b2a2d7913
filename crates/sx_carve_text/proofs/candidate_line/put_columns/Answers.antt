use Rattle.std.proofs.Common.{◌++◌}
use Rattle.std.specs.Prelude.{string_bytes}
use Rattle.sx_grammar.specs.Sightings.{seen_of}
use Rattle.sx_carve_text.specs.Carve.{columns_text}
use Rattle.sx_carve_text.proofs.Written.{columns_more, columns_end}
use Rattle.sx_carve_text.proofs.candidate_line.put_columns.Goals as goal

pub loop-column-preserved : goal.loop-column-preserved
loop-column-preserved c =
    columns_more c.args.encoding (seen_of c.in-Some.column) c.loop-column.columns c.next.new.self (string_bytes c.loop-column.line) (string_bytes c.put_column.new.line)
    (string_bytes c.args.line.now ++ columns_text c.args.encoding c.args.columns)
    c.in-Some.ensures.steps c.loop-column.invariant c.in_ok-put_column.ensures

pub returns : goal.returns
returns c =
    columns_end c.args.encoding c.loop-column.columns (string_bytes c.loop-column.line) (string_bytes c.args.line.now ++ columns_text c.args.encoding c.args.columns)
    c.in_default.ensures.steps.0 c.loop-column.invariant
