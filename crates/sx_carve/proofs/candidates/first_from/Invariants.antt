use Rattle.std.proofs.Common.{◌≡◌, option_copied}
use Rattle.sx_carve.specs.Evidence.{evidence_bytes}
use Rattle.sx_carve.specs.Scan.{images_rest}
use Rattle.sx_carve.proofs.candidates.first_from.Given as goal

abbrev pub invariant-loop-number : goal.invariant-loop-number
invariant-loop-number l =
    images_rest l.ctx.usable l.ctx.shapes.now l.owned (evidence_bytes l.evidence.database.now (option_copied l.evidence.wal) (option_copied l.evidence.journal)) l.images l.fn.from
    ≡ images_rest l.ctx.usable l.ctx.shapes.now l.owned (evidence_bytes l.evidence.database.now (option_copied l.evidence.wal) (option_copied l.evidence.journal)) l.images l.number
