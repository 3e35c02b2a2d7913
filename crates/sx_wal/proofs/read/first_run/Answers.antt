use Rattle.std.proofs.Common.{Some, ◌∙◌, ap, sym}
use Rattle.sx_wal.specs.Checksum.{Sums}
use Rattle.sx_wal.specs.State.{is_good}
use Rattle.sx_wal.proofs.RunLemmas.{run_start, not_good}
use Rattle.sx_wal.proofs.read.first_run.Goals as goal

pub returns-in-Good : goal.returns-in-Good
returns-in-Good c =
    ap (λ (s : Sums). Some s) c.sums_of_header.ensures ∙ sym (run_start _ _ _ (ap is_good (sym c.in-Good.is ∙ c.requires.is)))

pub returns-in_default : goal.returns-in_default
returns-in_default c = sym (run_start _ _ _ (not_good _ c.in_default.not-Good ∙ ap is_good c.requires.is))
