use Rattle.std.proofs.Common.{sym, ap, ◌∙◌}
use Rattle.sx_header.specs.Header.{header_of}
use Rattle.sx_app.proofs.Accepted.{no_fault}
use Rattle.sx_app.proofs.drills.make_evidence.Goals as goal

pub unreachable-requires : goal.unreachable-requires
unreachable-requires c =
    no_fault c.args.drill.now.seed c.args.drill.now.leaves c.in-Err.field-0
    (ap header_of (sym (c.deref.ensures.value ∙ c.in_ok-database.ensures.database)) ∙ sym c.read_header.ensures.exact ∙ c.in-Err.is)
