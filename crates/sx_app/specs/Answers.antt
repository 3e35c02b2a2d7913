-- The whole answer: a function of the words and of the files, and what an examination makes of it.
use Rattle.std.specs.Prelude.{◌≡◌, ℕ, List, Option, None, Some, Result, Ok, Err, ⊤}
use Rattle.std.specs.Io.KnownBytes.{Appends, Keeps}
use Rattle.sx_base.specs.Files.{Files}
use Rattle.sx_base.specs.declared.evidence.Part.{Part}
use Rattle.sx_base.specs.declared.evidence.Part.TheVariants as parts
use Rattle.sx_lines.specs.Lines.{text_of, AppendsSome}
use Rattle.sx_words.specs.Words.{Asked, Drill, Evidence}
use Rattle.sx_app.specs.Commands.{part_named, reply_over}
use Rattle.sx_app.specs.Drills.{drill_of}
use Rattle.sx_app.specs.Evidence.{◌>>=◌, evidence_of, case_of}
use Rattle.sx_app.specs.Refusals.{refusal_text}
use Rattle.sx_app.specs.declared.refused.Refused.{Refused}
use Rattle.sx_app.specs.declared.refused.Refused.TheVariants.{Usage, ReadFault, WriteFault, Memory}

-- the lines that the words ask for over these files, or why there are none
abbrev pub reply : Option Asked → Files → Result (List (List ℕ)) Refused
reply None files = Err Usage
reply (Some (Evidence db question)) files = evidence_of files db >>= λ evidence. reply_over question (case_of evidence)
reply (Some (Drill seed leaves commits)) files = drill_of seed leaves commits

-- the part of the evidence that the words name, the database where they name none
abbrev pub part_asked : Option Asked → Part
part_asked None = parts.Database
part_asked (Some (Evidence db question)) = part_named question
part_asked (Some (Drill seed leaves commits)) = parts.Database

-- an answer: how the examination ends, and what it prints
pub record Answer : Type 0 where
  pub result : Result (Unit {0}) Refused
  pub text : List ℕ

-- lines as an answer, or a refusal with its text
abbrev pub answered : Part → Result (List (List ℕ)) Refused → Answer
answered part (Ok lines) = record { result = Ok tt; text = text_of lines }
answered part (Err refused) = record { result = Err refused; text = refusal_text part refused }

-- the answer to what the words ask for, over these files
abbrev pub answer : Option Asked → Files → Answer
answer asked files = answered (part_asked asked) (reply asked files)

-- the answer to words that need no store
abbrev pub storeless : Option Asked → Option Answer
storeless None = Some (answered parts.Database (Err Usage))
storeless (Some (Evidence db question)) = None
storeless (Some (Drill seed leaves commits)) = Some (answered parts.Database (drill_of seed leaves commits))

-- What an examination did of its answer: it ended so, and the sink took exactly its text. After a read fault the sink
-- took nothing, and after a write fault or want of memory some front of the text.
abbrev pub Answers : Answer → Option (List ℕ) → Option (List ℕ) → Result (Unit {0}) Refused → Type 0
Answers answer old new (Err ReadFault) = Keeps old new
Answers answer old new (Err WriteFault) = AppendsSome old new answer.text
Answers answer old new (Err Memory) = AppendsSome old new answer.text
Answers answer old new result = (result ≡ answer.result) × Appends old new answer.text

-- what a refusal printed, over every store: its own text, but nothing after a read fault
abbrev pub Prints : Part → Option (List ℕ) → Option (List ℕ) → Refused → Type 0
Prints part old new ReadFault = Keeps old new
Prints part old new WriteFault = ⊤
Prints part old new Memory = ⊤
Prints part old new refused = Appends old new (refusal_text part refused)
