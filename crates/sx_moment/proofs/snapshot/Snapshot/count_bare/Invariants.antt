use Rattle.std.proofs.Common.{◌≡◌, ◌+◌, length, drop}
use Rattle.sx_moment.specs.Firsts.{taken}
use Rattle.sx_moment.specs.Images.{is_bare}
use Rattle.sx_moment.proofs.snapshot.Snapshot.count_bare.Given as goal

-- those so far are counted
abbrev pub invariant-loop-i : goal.invariant-loop-i
invariant-loop-i l =
    l.count + length (taken (is_bare l.self.case.now l.self.moment) l.size (drop l.i l.marks)) ≡ length (taken (is_bare l.self.case.now l.self.moment) l.size l.marks)
