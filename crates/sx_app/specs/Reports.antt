-- What `report` tells of gathered evidence.
use Rattle.std.specs.Prelude.{ℕ, List, [], ◌∷◌, length, map, Option, None, Some}
use Rattle.std.specs.Option.{option_map}
use Rattle.sx_base.specs.Held.{held_pages}
use Rattle.sx_base.specs.declared.moment.Moment.{Moment}
use Rattle.sx_header.specs.declared.header.Header.{Header}
use Rattle.sx_journal.specs.Entries.{good_count}
use Rattle.sx_moment.specs.Gathered.{Gathered, moments_of, size_at}
use Rattle.sx_moment.specs.Heads.{head_of, layout_of}
use Rattle.sx_moment.specs.Marks.{uncertain_pages}
use Rattle.sx_moment.specs.Views.{view_of}
use Rattle.sx_timeline_text.specs.Timeline.{count_of, is_committed, is_pending, is_foreign, is_broken}
use Rattle.sx_map_text.specs.Map.{headless_totals, totals_of}
use Rattle.sx_map_text.specs.declared.totals.MapTotals.{MapTotals}
use Rattle.sx_report.specs.Facts.{File, Log, Journal, Facts, digest_of}
use Rattle.sx_report.specs.Report.{report_text}
use Rattle.sx_report.specs.declared.facts.MomentFacts.{MomentFacts}
use Rattle.sx_app.specs.Drills.{candidate_count}
use Rattle.sx_app.specs.Labels.{graph_at}

-- a file
abbrev pub file_facts : List ℕ → File
file_facts bytes = record { bytes = length bytes; sha256 = digest_of bytes }

-- the write-ahead log, where there is one: its state, and how many frames it has, in all and of each class
abbrev pub log_facts : Gathered → Option Log
log_facts case =
    option_map (λ bytes. record {
      file = file_facts bytes;
      state = case.wal.state;
      frames = length case.wal.slots;
      committed = count_of is_committed case.wal.slots;
      pending = count_of is_pending case.wal.slots;
      foreign = count_of is_foreign case.wal.slots;
      broken = count_of is_broken case.wal.slots;
    }) case.wal_bytes

-- the journal, where there is one: its state, and how many records it has, in all and good ones
abbrev pub journal_facts : Gathered → Option Journal
journal_facts case =
    option_map (λ bytes. record {
      file = file_facts bytes;
      state = case.journal.state;
      records = length case.journal.entries;
      good = good_count case.journal.entries;
    }) case.journal_bytes

-- the totals of a moment with this header, or without one: those that `map` tells
abbrev pub totals_by : Gathered → Moment → Option Header → MapTotals
totals_by case moment None = headless_totals (size_at case moment) case.header.page_size
totals_by case moment (Some head) = totals_of (graph_at case moment) (layout_of case moment) (view_of case moment) (size_at case moment)

unfoldable pub totals_at : Gathered → Moment → MapTotals
totals_at case moment = totals_by case moment (head_of case moment)

-- a moment: how many pages it claims, how many of them have a view, how many of these are uncertain, and its totals
abbrev pub moment_facts : Gathered → Moment → MomentFacts
moment_facts case moment = record {
  at = moment;
  pages = size_at case moment;
  held = length (held_pages (size_at case moment) (view_of case moment));
  uncertain = length (uncertain_pages case moment);
  owned = (totals_at case moment).owned;
  slack = (totals_at case moment).slack;
  fault = (totals_at case moment).fault;
  dead = (totals_at case moment).dead;
}

-- all of them, and how many candidates there are under all moments
abbrev pub facts_of : Gathered → Facts
facts_of case = record {
  page_size = case.header.page_size;
  usable = case.header.usable;
  database = file_facts case.database;
  wal = log_facts case;
  journal = journal_facts case;
  moments = map (moment_facts case) (moments_of case);
  candidates = candidate_count case;
}

-- the one line
abbrev pub report_of : Gathered → List (List ℕ)
report_of case = report_text (facts_of case) ∷ []
