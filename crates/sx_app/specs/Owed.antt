-- What the functions of an examination owe each other.
use Rattle.std.specs.Prelude.{◌≡◌, ◌⊎◌, ℕ, ◌<◌, ◌≤◌, Bool, IsTrue, List, Option, Result, Ok, Err, IfSome, IfErr, IsErrOf, ⊤}
use Rattle.sx_base.specs.Causes.{Rose}
use Rattle.sx_base.specs.Files.{Files}
use Rattle.sx_base.specs.declared.evidence.Part.{Part}
use Rattle.sx_edge.specs.declared.whole_file.TheConstants.{GREATEST_FILE}
use Rattle.sx_lines.specs.declared.writing.Unwritten.{Unwritten}
use Rattle.sx_lines.specs.declared.writing.Unwritten.TheVariants as unwritten
use Rattle.sx_words.specs.Words.{Asked, Question}
use Rattle.sx_app.specs.Answers.{Answers, answer, answered, storeless, part_asked, Prints}
use Rattle.sx_app.specs.Commands.{part_named}
use Rattle.sx_app.specs.Stages.{Has, MayAnswer, MayFollow}
use Rattle.sx_app.specs.declared.refused.Refused.{Refused}
use Rattle.sx_app.specs.declared.refused.Refused.TheVariants.{NoDatabase, TooLarge, NoMoment, Unreadable, NoByte, ReadFault, WriteFault, Memory}

-- a function's answer, seen by view, is what the definition gives, unless the store failed or memory ran out
abbrev pub Fails : {Y : Type 0} → Refused → Result Y Refused → Type 0
Fails ReadFault given = ⊤
Fails Memory given = ⊤
Fails refused given = given ≡ Err refused

abbrev pub Gives : {X Y : Type 0} → (X → Y) → Result X Refused → Result Y Refused → Type 0
Gives view (Ok x) given = given ≡ Ok (view x)
Gives view (Err refused) given = Fails refused given

-- why the evidence of a store was refused, also where the store tells nothing
pub record HasCauses {T : Type 0} (before now : ℕ) (absent : Bool) (given : ℕ) (result : Result T Refused) : Type 0 where
  -- the count of the store's faults didn't fall, and after a read fault it rose
  pub later : before ≤ now
  pub read_fault : IsErrOf result ReadFault → Rose before now
  -- the last start answered that there is no such file
  pub no_database : IsErrOf result NoDatabase → IsTrue absent
  -- more bytes than the limit were given since the last start
  pub too_large : (part : Part) → IsErrOf result (TooLarge part) → GREATEST_FILE < given

-- they have it where something came of it, or memory ran out
abbrev pub HasUsed : {T : Type 0} → Option Files → List ℕ → Result T Refused → Type 0
HasUsed contents db (Ok x) = Has contents db
HasUsed contents db (Err Memory) = Has contents db
HasUsed contents db (Err refused) = ⊤

-- refusals whose text has a number, which takes memory to write
abbrev pub HasNumber : Refused → Type 0
HasNumber (NoMoment commits) = ⊤
HasNumber (Unreadable moment) = ⊤
HasNumber (NoByte length) = ⊤
HasNumber refused = ⊥

-- how an examination that was refused ends: so, unless its text couldn't be written
abbrev pub Ends : Refused → Refused → Type 0
Ends refused WriteFault = ⊤
Ends refused Memory = (refused ≡ Memory) ⊎ HasNumber refused
Ends refused end = end ≡ refused

-- why a text wasn't written whole, as an examination answers it
abbrev pub refused_by : Unwritten → Refused
refused_by unwritten.WriteFault = WriteFault
refused_by unwritten.Memory = Memory

-- All that an examination of evidence that was opened owes, over every sink: the question and the reply to it, what the
-- sink has taken before and now, and its counts of faults.
pub record IsAnswered (question : Question) (given : Result (List (List ℕ)) Refused) (taken_before taken_now : Option (List ℕ)) (sink_before sink_now : ℕ) (result : Result (Unit {0}) Refused) : Type 0 where
  pub told : Answers (answered (part_named question) given) taken_before taken_now result
  pub may : IfErr result (MayFollow question)
  pub prints : IfErr result (Prints (part_named question) taken_before taken_now)
  pub write_fault : IsErrOf result WriteFault → Rose sink_before sink_now
  pub later : sink_before ≤ sink_now

-- All that an examination owes, over every store and every sink: the counts of faults before and now, whether the last
-- start answered that there is no such file, the bytes given since, and what the sink has taken before and now.
pub record IsExamined (asked : Option Asked) (contents : Option Files) (store_before store_now : ℕ) (absent : Bool) (given : ℕ) (taken_before taken_now : Option (List ℕ)) (sink_before sink_now : ℕ) (result : Result (Unit {0}) Refused) : Type 0 where
  -- where the store tells its files: the answer to the words over them
  pub told : IfSome contents (λ files. Answers (answer asked files) taken_before taken_now result)
  -- words that need no store have one answer over all of them
  pub storeless : IfSome (storeless asked) (λ answer. Answers answer taken_before taken_now result)
  -- which refusals the words may meet
  pub may : IfErr result (MayAnswer asked contents)
  -- what a refusal printed
  pub prints : IfErr result (Prints (part_asked asked) taken_before taken_now)
  -- why each came
  pub no_database : IsErrOf result NoDatabase → IsTrue absent
  pub too_large : (part : Part) → IsErrOf result (TooLarge part) → GREATEST_FILE < given
  pub read_fault : IsErrOf result ReadFault → Rose store_before store_now
  pub write_fault : IsErrOf result WriteFault → Rose sink_before sink_now
  -- no count fell
  pub later : (store_before ≤ store_now) × (sink_before ≤ sink_now)
