-- What a drill owes, over every store: none is asked.
use Rattle.std.proofs.Common.{◌≡◌, ℕ, ◌≤◌, Bool, List, Option, None, Some, Result, Ok, Err, IfSome, IfErr, IsErrOf, OnOk, OnErr, arith, sym, subst}
use Rattle.std.proofs.KnownBytes.{Appends-nil}
use Rattle.std.specs.Io.KnownBytes.{Appends}
use Rattle.sx_base.specs.Causes.{Rose}
use Rattle.sx_base.specs.Files.{Files}
use Rattle.sx_base.specs.declared.evidence.Part.TheVariants.{Database}
use Rattle.sx_lines.specs.Lines.{text_of, AppendsSome}
use Rattle.sx_words.specs.Words.{Drill}
use Rattle.sx_app.specs.Answers.{answer, answered, Answers}
use Rattle.sx_app.specs.Drills.{drill_of}
use Rattle.sx_app.specs.Owed.{IsExamined}
use Rattle.sx_app.specs.Stages.{Writing, MayMeet}
use Rattle.sx_app.specs.declared.refused.Refused.{Refused}
use Rattle.sx_app.specs.declared.refused.Refused.TheVariants.{NoDatabase, TooLarge, ReadFault, WriteFault, Memory}
use Rattle.sx_app.proofs.Examined.{answers_written, written_prints}

-- it has one answer over all files
over_files : (seed leaves commits : ℕ) (contents : Option Files) (old new : Option (List ℕ)) (r : Result (Unit {0}) Refused) → Answers (answered Database (drill_of seed leaves commits)) old new r
    → IfSome contents (λ files. Answers (answer (Some (Drill seed leaves commits)) files) old new r)
over_files seed leaves commits None old new r answers = tt
over_files seed leaves commits (Some files) old new r answers = answers

not_written : (r : Result (Unit {0}) Refused) (refused : Refused) → IfErr r (MayMeet Writing) → r ≡ Err refused → MayMeet Writing refused
not_written r refused may is = let P : Result (Unit {0}) Refused → Type 0 = λ r. IfErr r (MayMeet Writing) in subst P is may

module _ (seed leaves commits : ℕ) (contents : Option Files) (store : ℕ) (absent : Bool) (given : ℕ) (taken_before taken_now : Option (List ℕ)) (sink_before sink_now : ℕ) where
  -- its lines were written
  pub drill_written : (lines : List (List ℕ)) (r : Result (Unit {0}) Refused)
      → drill_of seed leaves commits ≡ Ok lines
      → OnOk r (Appends taken_before taken_now (text_of lines))
      → OnErr r (AppendsSome taken_before taken_now (text_of lines))
      → IfErr r (MayMeet Writing)
      → (IsErrOf r WriteFault → Rose sink_before sink_now)
      → sink_before ≤ sink_now
      → IsExamined (Some (Drill seed leaves commits)) contents store store absent given taken_before taken_now sink_before sink_now r
  drill_written lines r told whole front unwritten cause later =
      let answers = subst (λ (g : Result (List (List ℕ)) Refused). Answers (answered Database g) taken_before taken_now r) (sym told) (answers_written Database lines taken_before taken_now r whole front unwritten) in
      record {
        told = over_files seed leaves commits contents taken_before taken_now r answers;
        storeless = answers;
        may = unwritten;
        prints = written_prints Database taken_before taken_now r unwritten;
        no_database = λ is. absurd (not_written r NoDatabase unwritten is);
        too_large = λ part is. absurd (not_written r (TooLarge part) unwritten is);
        read_fault = λ is. absurd (not_written r ReadFault unwritten is);
        write_fault = cause;
        later = (omega arith, later);
      }

-- memory ran out before anything was written
memory_nothing : (seed leaves commits : ℕ) (taken : Option (List ℕ)) → Answers (answered Database (drill_of seed leaves commits)) taken taken (Err Memory)
memory_nothing seed leaves commits taken = (0, omega arith, Appends-nil taken)

memory_only : (refused : Refused) → (refused ≡ Memory → ⊥) → (let r : Result (Unit {0}) Refused = Err Memory in r ≡ Err refused) → ⊥
memory_only refused other is = other cc

memory_examined : (seed leaves commits : ℕ) (contents : Option Files) (store : ℕ) (absent : Bool) (given : ℕ) (taken : Option (List ℕ)) (sink : ℕ)
    → IsExamined (Some (Drill seed leaves commits)) contents store store absent given taken taken sink sink (Err Memory)
memory_examined seed leaves commits contents store absent given taken sink =
    record {
      told = over_files seed leaves commits contents taken taken (Err Memory) (memory_nothing seed leaves commits taken);
      storeless = memory_nothing seed leaves commits taken;
      may = tt;
      prints = tt;
      no_database = λ is. absurd (memory_only NoDatabase (λ same. cc) is);
      too_large = λ part is. absurd (memory_only (TooLarge part) (λ same. cc) is);
      read_fault = λ is. absurd (memory_only ReadFault (λ same. cc) is);
      write_fault = λ is. absurd (memory_only WriteFault (λ same. cc) is);
      later = (omega arith, omega arith);
    }

pub drill_memory : (seed leaves commits : ℕ) (contents : Option Files) (store : ℕ) (absent : Bool) (given : ℕ) (taken : Option (List ℕ)) (sink : ℕ) (refused : Refused) → refused ≡ Memory
    → IsExamined (Some (Drill seed leaves commits)) contents store store absent given taken taken sink sink (Err refused)
drill_memory seed leaves commits contents store absent given taken sink refused is =
    subst (λ (r : Refused). IsExamined (Some (Drill seed leaves commits)) contents store store absent given taken taken sink sink (Err r)) (sym is)
    (memory_examined seed leaves commits contents store absent given taken sink)
