use Rattle.std.proofs.Common.{ap, bytes_eq, cond, true, ◌∙◌}
use Rattle.sx_ddl.specs.Sets.{contains_name}
use Rattle.sx_ddl.specs.Shapes.{spells}
use Rattle.sx_ddl.proofs.SetLemmas.{key_noted, set_with}
use Rattle.sx_ddl.proofs.alias.key_names.Goals as goal

pub loop-place-preserved : goal.loop-place-preserved
loop-place-preserved c = λ name.
    c.loop-place.invariant name
    ∙ key_noted (spells c.args.text.now name) c.args.keys.now _ c.loop-place.place _ _ c.loop-place-test.true
    (set_with c.in_ok-name.name.items c.loop-place.names c.insert.new.self true c.in_ok-insert.ensures.updates name
    ∙ ap (λ b. cond (bytes_eq b name) true (contains_name c.loop-place.names name)) c.in_ok-name.ensures)
