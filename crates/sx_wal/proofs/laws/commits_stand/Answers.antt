use Rattle.sx_wal.proofs.LogLemmas.{commits_rise, commit_sized, committed_within}
use Rattle.sx_wal.proofs.laws.commits_stand.Goals as goal

pub returns : goal.returns
returns c = record { rising = commits_rise; sized = commit_sized; committed = committed_within }
