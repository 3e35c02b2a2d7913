use Rattle.std.proofs.Common.{◌≡◌, ◌-◌, IsTrue, slice_index, refl}
use Rattle.sx_base.specs.declared.moment.Moment.TheVariants.{File, Commit}
use Rattle.sx_moment.specs.Gathered.{is_moment, size_at}
use Rattle.sx_moment.proofs.Counted.{uncertain_commit, uncertain_file, count_there}
use Rattle.sx_moment.proofs.snapshot.Snapshot.uncertain_count.Goals as goal

pub returns-in-File : goal.returns-in-File
returns-in-File c =
    let case = c.args.self.now.case.now in
    let marks = c.marks-marks.ensures in
    let own : c.size-size.result ≡ size_at case c.args.self.now.moment = rw (← c.sources.ensures.same) c.size-size.ensures in
    let size : c.size-size.result ≡ size_at case File = rw c.in-File.is at own in
    rw c.in-File.is (uncertain_file case c.marks-marks.result.images.now c.size-size.result c.within.result marks.rise marks.are size c.within.ensures.bound c.within.ensures.searched)

pub overflow_sub-result : goal.overflow_sub-result
overflow_sub-result c =
    let case = c.args.self.now.case.now in
    let marks = c.marks-marks.ensures in
    let k = c.in-Commit.k in
    let listed : IsTrue (is_moment case (Commit k)) = rw c.in-Commit.is at c.args.self.now.listed in
    (count_there case c.marks-marks.result.images.now c.marks-marks.result.counts.now k listed marks.counted).0

pub overflow_sub-result-in-Commit : goal.overflow_sub-result-in-Commit
overflow_sub-result-in-Commit c =
    let case = c.args.self.now.case.now in
    let marks = c.marks-marks.ensures in
    let k = c.in-Commit.k in
    let counts = c.marks-marks.result.counts.now in
    let listed : IsTrue (is_moment case (Commit k)) = rw c.in-Commit.is at c.args.self.now.listed in
    let own : c.size-size.result ≡ size_at case c.args.self.now.moment = rw (← c.sources.ensures.same) c.size-size.ensures in
    let size : c.size-size.result ≡ size_at case (Commit k) = rw c.in-Commit.is at own in
    let both = uncertain_commit case c.marks-marks.result.images.now counts k c.size-size.result c.within-in-Commit.result (slice_index counts (k - 1))
    c.sources.ensures.gathered listed marks.rise marks.are marks.counted size c.within-in-Commit.ensures.bound c.within-in-Commit.ensures.searched refl in
    both.0

pub returns-in-Commit : goal.returns-in-Commit
returns-in-Commit c =
    let case = c.args.self.now.case.now in
    let marks = c.marks-marks.ensures in
    let k = c.in-Commit.k in
    let counts = c.marks-marks.result.counts.now in
    let listed : IsTrue (is_moment case (Commit k)) = rw c.in-Commit.is at c.args.self.now.listed in
    let own : c.size-size.result ≡ size_at case c.args.self.now.moment = rw (← c.sources.ensures.same) c.size-size.ensures in
    let size : c.size-size.result ≡ size_at case (Commit k) = rw c.in-Commit.is at own in
    let both = uncertain_commit case c.marks-marks.result.images.now counts k c.size-size.result c.within-in-Commit.result (slice_index counts (k - 1))
    c.sources.ensures.gathered listed marks.rise marks.are marks.counted size c.within-in-Commit.ensures.bound c.within-in-Commit.ensures.searched refl in
    rw c.in-Commit.is both.1
