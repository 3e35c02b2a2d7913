use Rattle.std.proofs.Common.{◌++◌, ◌∷◌, length, ap, ◌∙◌, arith}
use Rattle.std.specs.Prelude.{string_bytes}
use Rattle.sx_record.specs.Content.{content_of}
use Rattle.sx_show_text.specs.Columns.{column_text, values_text}
use Rattle.sx_show_text.proofs.Written.{values_more, values_end}
use Rattle.sx_show_text.proofs.values.put_values.Goals as goal

pub loop-value-preserved : goal.loop-value-preserved
loop-value-preserved c = record {
  written = values_more c.args.encoding c.args.rowid c.args.alias c.loop-value.place (content_of c.in-Some.value) c.loop-value.values c.next.new.self
      (string_bytes c.loop-value.line) (string_bytes c.put_column.new.line)
      (string_bytes c.args.line.now ++ values_text c.args.encoding c.args.rowid c.args.alias 0 c.args.columns.now)
      c.in-Some.ensures.steps c.loop-value.invariant.written
      (c.in_ok-put_column.ensures
      ∙ ap (λ b. string_bytes c.loop-value.line ++ 32 ∷ column_text c.args.encoding c.args.rowid b (content_of c.in-Some.value)) c.is_alias-for_rowid.ensures);
  counted = omega (arith, c.loop-value.invariant.counted, ap length c.in-Some.ensures.steps);
}

pub returns : goal.returns
returns c =
    values_end c.args.encoding c.args.rowid c.args.alias c.loop-value.place c.loop-value.values (string_bytes c.loop-value.line)
    (string_bytes c.args.line.now ++ values_text c.args.encoding c.args.rowid c.args.alias 0 c.args.columns.now)
    c.in_default.ensures.steps.0 c.loop-value.invariant.written
