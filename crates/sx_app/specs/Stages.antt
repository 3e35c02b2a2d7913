-- Which refusals may be met, stage by stage.
use Rattle.std.specs.Prelude.{◌⊎◌, Option, None, Some, IsSome, IfSome, List, ℕ, ⊤}
use Rattle.sx_base.specs.Files.{Files, file_named}
use Rattle.sx_base.specs.declared.evidence.Part.TheVariants as parts
use Rattle.sx_words.specs.Words.{Asked, Drill, Evidence, Question}
use Rattle.sx_app.specs.Commands.{MayMeetOver}
use Rattle.sx_app.specs.declared.refused.Refused.{Refused}
use Rattle.sx_app.specs.declared.refused.Refused.TheVariants.{Usage, NoDatabase, BadHeader, TooLarge, NoMoment, Unreadable, NoTable, NoTree, NoByte, ReadFault, WriteFault, Memory}

-- The stages of an examination, in their order: the words are read; the database is read, with its header; the files
-- beside it are read; it is decided whether the question has an answer over them; the text is written.
pub data Stage : Type 0 where
  Reading : Stage
  Opening : Stage
  Loading : Stage
  Deciding : (question : Question) → Stage
  Writing : Stage

-- the table: which refusals a stage may meet
abbrev pub MayMeet : Stage → Refused → Type 0
MayMeet Reading Usage = ⊤
MayMeet Opening NoDatabase = ⊤
MayMeet Opening (BadHeader fault) = ⊤
MayMeet Opening (TooLarge parts.Database) = ⊤
MayMeet Opening ReadFault = ⊤
MayMeet Opening Memory = ⊤
MayMeet Loading (TooLarge parts.Wal) = ⊤
MayMeet Loading (TooLarge parts.Journal) = ⊤
MayMeet Loading ReadFault = ⊤
MayMeet Loading Memory = ⊤
MayMeet (Deciding question) Memory = ⊤
MayMeet (Deciding question) (NoMoment commits) = MayMeetOver question (NoMoment commits)
MayMeet (Deciding question) (Unreadable moment) = MayMeetOver question (Unreadable moment)
MayMeet (Deciding question) NoTable = MayMeetOver question NoTable
MayMeet (Deciding question) NoTree = MayMeetOver question NoTree
MayMeet (Deciding question) (NoByte length) = MayMeetOver question (NoByte length)
MayMeet Writing WriteFault = ⊤
MayMeet Writing Memory = ⊤
MayMeet stage refused = ⊥

-- what opening evidence may meet
abbrev pub MayOpen : Refused → Type 0
MayOpen refused = MayMeet Opening refused ⊎ MayMeet Loading refused

-- what a question over evidence that was opened may meet
abbrev pub MayFollow : Question → Refused → Type 0
MayFollow question refused = MayMeet (Deciding question) refused ⊎ MayMeet Writing refused

-- the files, where they are told, have the name
abbrev pub Has : Option Files → List ℕ → Type 0
Has contents db = IfSome contents (λ files. IsSome (file_named files db))

-- Which refusals words may meet over any store. Words outside the grammar take no memory, and other words none where
-- the files are told and have no such database. A drill reads no file.
abbrev pub MayAnswer : Option Asked → Option Files → Refused → Type 0
MayAnswer None contents Memory = ⊥
MayAnswer None contents refused = MayMeet Reading refused ⊎ MayMeet Writing refused
MayAnswer (Some (Evidence db question)) contents Memory = Has contents db
MayAnswer (Some (Evidence db question)) contents refused = MayOpen refused ⊎ MayFollow question refused
MayAnswer (Some (Drill seed leaves commits)) contents refused = MayMeet Writing refused
