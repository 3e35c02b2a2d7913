-- The table of commands: what a question asks for over gathered evidence, and which refusals it may meet there.
use Rattle.std.specs.Prelude.{ℕ, List, Result, Ok}
use Rattle.sx_base.specs.declared.evidence.Part.{Part}
use Rattle.sx_base.specs.declared.evidence.Part.TheVariants as parts
use Rattle.sx_moment.specs.Gathered.{Gathered}
use Rattle.sx_page_text.specs.Page.{page_lines}
use Rattle.sx_timeline_text.specs.Timeline.{timeline_lines}
use Rattle.sx_words.specs.Words as words
use Rattle.sx_app.specs.Evidence.{◌>>=◌}
use Rattle.sx_app.specs.Carving.{latest, selected, carve_at}
use Rattle.sx_app.specs.Labels.{explain_at, map_at, MayMissByte}
use Rattle.sx_app.specs.Generations.{generations_of}
use Rattle.sx_app.specs.Histories.{histories_of}
use Rattle.sx_app.specs.Moments.{moment_of, MayMiss}
use Rattle.sx_app.specs.Reports.{report_of}
use Rattle.sx_app.specs.Tables.{table_lines, MayMissTable}
use Rattle.sx_app.specs.declared.refused.Refused.{Refused}

-- the part of the evidence that a question names, the database where it names none
abbrev pub part_named : words.Question → Part
part_named (words.Explain place at) = place.part
part_named question = parts.Database

-- the lines that a question asks for over a case, or why there are none: one case a command
abbrev pub reply_over : words.Question → Gathered → Result (List (List ℕ)) Refused
reply_over words.Timeline case = Ok (timeline_lines case)
reply_over (words.Show table at) case = moment_of case at >>= λ moment. table_lines case moment table
reply_over (words.Map at) case = moment_of case at >>= λ moment. Ok (map_at case moment)
reply_over (words.Page number at) case = moment_of case at >>= λ moment. Ok (page_lines case moment number)
reply_over (words.Carve which spill) case = moment_of case (latest which) >>= λ moment. Ok (carve_at case (selected case which moment) moment spill)
reply_over (words.Explain place at) case = moment_of case at >>= λ moment. explain_at case moment place
reply_over words.Generations case = Ok (generations_of case)
reply_over (words.History table rowid) case = Ok (histories_of case table rowid)
reply_over words.Report case = Ok (report_of case)

-- which moments, tables and bytes that aren't there a question may meet: one row a command
abbrev pub MayMeetOver : words.Question → Refused → Type 0
MayMeetOver words.Timeline refused = ⊥
MayMeetOver (words.Show table at) refused = MayMissTable at refused
MayMeetOver (words.Map at) refused = MayMiss at refused
MayMeetOver (words.Page number at) refused = MayMiss at refused
MayMeetOver (words.Carve which spill) refused = MayMiss (latest which) refused
MayMeetOver (words.Explain place at) refused = MayMissByte at refused
MayMeetOver words.Generations refused = ⊥
MayMeetOver (words.History table rowid) refused = ⊥
MayMeetOver words.Report refused = ⊥
