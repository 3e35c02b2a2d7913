use Rattle.std.proofs.Common.{◌≡◌, ℕ, ◌-◌, length, IsTrue, slice_index, ◌∙◌, refl, subst, arith}
use Rattle.std.proofs.lemmas.List.{get_or_default}
use Rattle.sx_base.specs.declared.moment.Moment.TheVariants.{Journal, Commit}
use Rattle.sx_moment.specs.Gathered.{is_moment, size_at}
use Rattle.sx_moment.specs.Firsts.{first_in}
use Rattle.sx_moment.specs.Reading.{IsGathered}
use Rattle.sx_moment.specs.Images.{first_slot, first_record, past_only, file_pages_at}
use Rattle.sx_moment.specs.Counts.{AreCounts}
use Rattle.sx_moment.proofs.HeldAt.{held_count}
use Rattle.sx_moment.proofs.Counted.{held_commit, held_file, count_there}
use Rattle.sx_moment.proofs.case.Case.past_held.Goals as goal

pub returns-in-File : goal.returns-in-File
returns-in-File c =
    let case = c.args.self.now in
    let are : (number : ℕ) → first_in c.self.inside.past number ≡ past_only case (first_slot case) number = rw (← c.self.view_is) c.self.invariant.past_are in
    rw c.in-File.is (held_file case c.self.inside.past c.self.invariant.past_rise are)

pub returns-in-Commit : goal.returns-in-Commit
returns-in-Commit c =
    let case = c.args.self.now in
    let k = c.in-Commit.k in
    let gathered : IsGathered case = subst IsGathered c.self.view_is c.self.invariant.gathered in
    let are : (number : ℕ) → first_in c.self.inside.past number ≡ past_only case (first_slot case) number = rw (← c.self.view_is) c.self.invariant.past_are in
    let counted : AreCounts case c.self.inside.past c.self.inside.past_counts.items = rw (← c.self.view_is) c.self.invariant.past_counted in
    let listed : IsTrue (is_moment case (Commit k)) = rw c.in-Commit.is at c.requires.listed in
    let there = count_there case c.self.inside.past c.self.inside.past_counts.items k listed counted in
    let count : c.index.result.now ≡ slice_index c.self.inside.past_counts.items (k - 1) =
    c.index.ensures ∙ get_or_default c.self.inside.past_counts.items (k - 1) c.index.result.now 0 there.1 in
    rw (c.in-Commit.is, count) (held_commit case c.self.inside.past c.self.inside.past_counts.items k gathered listed c.self.invariant.past_rise are counted)

pub returns-in-Journal : goal.returns-in-Journal
returns-in-Journal c =
    let case = c.args.self.now in
    let are : (number : ℕ) → first_in c.self.inside.past_records number ≡ past_only case (first_record case) number = rw (← c.self.view_is) c.self.invariant.past_records_are in
    let records : c.records.result ≡ length case.journal.entries = rw (← c.self.view_is) c.records.ensures in
    let size : c.args.size ≡ size_at case Journal = rw c.in-Journal.is at c.requires.size in
    rw c.in-Journal.is (held_count case Journal c.self.inside.past_records c.records.result c.args.size (length (file_pages_at case Journal)) c.count_taken.result
    (record { within = omega arith; rise = c.self.invariant.past_records_rise; are = are; bound_is = records; size_is = size }) refl c.count_taken.ensures)
