use Rattle.std.proofs.Common.{◌<◌, length, rules}
use Rattle.sx_moment.specs.Gathered.{is_live_state}
use Rattle.sx_moment.proofs.Moments.{commit_listed}
use Rattle.sx_moment.proofs.case.Case.moment.Goals as goal

pub returns-else-i-before-2 : goal.returns-else-i-before-2
returns-else-i-before-2 c =
    let past : c.before_file-before.result < c.args.i = search rules in
    commit_listed (is_live_state c.args.self.now.journal.state) (length c.args.self.now.wal.commits) c.args.i c.before_file-before.result c.before_file-before.ensures past c.requires
