use Rattle.std.proofs.Common.{◌≡◌, ap, ◌∙◌, ◌+◌, length, rules}
use Rattle.sx_moment.specs.Gathered.{is_live_state}
use Rattle.sx_moment.proofs.Moments.{moments_long}
use Rattle.sx_moment.proofs.case.Case.moments.Goals as goal

pub returns : goal.returns
returns c =
    let commits : c.commits.result ≡ length c.args.self.now.wal.commits = search rules in
    ap (λ n. c.before_file.result + 1 + n) commits
    ∙ moments_long (is_live_state c.args.self.now.journal.state) (length c.args.self.now.wal.commits) c.before_file.result c.before_file.ensures
