-- How far the writing of `timeline` has come: the lines to come, and the slots counted so far.
use Rattle.std.specs.Prelude.{ℕ, List, ◌∷◌, map, drop}
use Rattle.sx_moment.specs.Gathered.{Gathered, moments_of}
use Rattle.sx_wal.specs.declared.slot.Slot.{Slot}
use Rattle.sx_timeline_text.specs.Timeline.{wal_line, journal_line, moment_line, timeline_lines, count_of, is_committed, is_pending, is_foreign, is_broken}
use Rattle.sx_timeline_text.specs.declared.tally.Tally.{Tally}
use Rattle.sx_timeline_text.specs.declared.timeline.TimelineLines.{TimelineLines}
use Rattle.sx_timeline_text.specs.declared.timeline.TimelineLine.{TimelineLine}
use Rattle.sx_timeline_text.specs.declared.timeline.TimelineLine.TheVariants as lines

-- the lines of the moments behind the first so many
abbrev pub moment_lines_after : ℕ → Gathered → List (List ℕ)
moment_lines_after done case = map (moment_line case) (drop done (moments_of case))

-- the lines from one on
abbrev pub lines_from : TimelineLine → Gathered → List (List ℕ)
lines_from lines.Database case = timeline_lines case
lines_from lines.Log case = wal_line case.wal ∷ journal_line case.journal ∷ moment_lines_after 0 case
lines_from lines.Journal case = journal_line case.journal ∷ moment_lines_after 0 case
lines_from (lines.Moments done) case = moment_lines_after done case

-- the lines to come
abbrev pub timeline_rest : TimelineLines → List (List ℕ)
timeline_rest rest = lines_from rest.next rest.case.now

-- how many slots there are of each class
abbrev pub tally_of : List Slot → Tally
tally_of slots = record {
  committed = count_of is_committed slots;
  pending = count_of is_pending slots;
  foreign = count_of is_foreign slots;
  broken = count_of is_broken slots;
}
