use Rattle.std.proofs.Common.{ℕ, ◌≤◌, ◌<◌, length, slice_index}
use Rattle.std.specs.List.Sorted.{IsStrictlyIncreasing}
use Rattle.sx_moment.proofs.Read.{gathered_is, commits_rise}
use Rattle.sx_moment.proofs.sources.Sources.read.Goals as goal

pub invariant_of-result : goal.invariant_of-result
invariant_of-result c =
    let fewer : length c.in_ok-wal.wal.commits ≤ length c.in_ok-wal.wal.slots = rw (← c.wal.view_is) c.wal.invariant.fewer in
    let within : (k : ℕ) → k < length c.in_ok-wal.wal.commits → slice_index c.in_ok-wal.wal.commits k < length c.in_ok-wal.wal.slots = rw (← c.wal.view_is) c.wal.invariant.within in
    let rising : IsStrictlyIncreasing c.in_ok-wal.wal.commits = rw c.in_ok-wal.ensures (commits_rise _ _ c.commits_stand.ensures.rising) in
    gathered_is _ _ _ _ _ _ c.slots_stand.ensures.frame c.records_lie_in_file.ensures c.requires.header c.requires.small c.in_ok-wal.ensures c.in_ok-journal.ensures fewer within rising
