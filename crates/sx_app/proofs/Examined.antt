-- How an examination ends: with lines that were written, or with a refusal.
use Rattle.std.proofs.Common.{◌≡◌, ◌⊎◌, ℕ, ◌≤◌, Bool, List, [], length, Option, None, Some, Result, Ok, Err, IfSome, IfErr, IsErrOf, OnOk, OnErr, ⊎_elim, inl, inr, arith, refl, sym, ap, subst}
use Rattle.std.proofs.Math.Seq.{take-nil}
use Rattle.std.proofs.KnownBytes.{Appends-nil}
use Rattle.std.specs.Io.KnownBytes.{Appends}
use Rattle.sx_base.specs.Causes.{Rose}
use Rattle.sx_base.specs.Files.{Files}
use Rattle.sx_base.specs.declared.evidence.Part.{Part}
use Rattle.sx_lines.specs.Lines.{text_of, AppendsSome}
use Rattle.sx_words.specs.Words.{Asked, Question}
use Rattle.sx_words.specs.Words as words
use Rattle.sx_app.specs.Answers.{reply, part_asked, answered, answer, Answers, Prints}
use Rattle.sx_app.specs.Commands.{part_named, reply_over}
use Rattle.sx_app.specs.Evidence.{◌>>=◌, Evidence, evidence_of, case_of}
use Rattle.sx_app.specs.Owed.{Fails, HasUsed, HasCauses, HasNumber, Ends, IsAnswered, IsExamined}
use Rattle.sx_app.specs.Stages.{Reading, Deciding, Writing, MayMeet, MayOpen, MayFollow, MayAnswer, Has}
use Rattle.sx_app.specs.declared.refused.Refused.{Refused}
use Rattle.sx_app.specs.declared.refused.Refused.TheVariants.{Usage, NoDatabase, TooLarge, NoMoment, Unreadable, NoByte, ReadFault, WriteFault, Memory}

neither : ⊥ ⊎ ⊥ → ⊥
neither either = ⊎_elim (λ one. one) (λ other. other) either

-- ---- over evidence that was opened: lines that were written

pub answers_written : (part : Part) (lines : List (List ℕ)) (old new : Option (List ℕ)) (r : Result (Unit {0}) Refused) → OnOk r (Appends old new (text_of lines))
    → OnErr r (AppendsSome old new (text_of lines)) → IfErr r (MayMeet Writing) → Answers (answered part (Ok lines)) old new r
answers_written part lines old new (Ok done) whole front unwritten = (refl, whole)
answers_written part lines old new (Err WriteFault) whole front unwritten = front
answers_written part lines old new (Err Memory) whole front unwritten = front
answers_written part lines old new (Err _) whole front unwritten = absurd unwritten

unwritten_may : (question : Question) (r : Result (Unit {0}) Refused) → IfErr r (MayMeet Writing) → IfErr r (MayFollow question)
unwritten_may question (Ok done) unwritten = tt
unwritten_may question (Err refused) unwritten = inr unwritten

pub written_prints : (part : Part) (old new : Option (List ℕ)) (r : Result (Unit {0}) Refused) → IfErr r (MayMeet Writing) → IfErr r (Prints part old new)
written_prints part old new (Ok done) unwritten = tt
written_prints part old new (Err WriteFault) unwritten = tt
written_prints part old new (Err Memory) unwritten = tt
written_prints part old new (Err _) unwritten = absurd unwritten

pub answered_written : (question : Question) (given : Result (List (List ℕ)) Refused) (lines : List (List ℕ)) (old new : Option (List ℕ)) (sink_before sink_now : ℕ) (r : Result (Unit {0}) Refused)
    → given ≡ Ok lines
    → OnOk r (Appends old new (text_of lines))
    → OnErr r (AppendsSome old new (text_of lines))
    → IfErr r (MayMeet Writing)
    → (IsErrOf r WriteFault → Rose sink_before sink_now)
    → sink_before ≤ sink_now
    → IsAnswered question given old new sink_before sink_now r
answered_written question given lines old new sink_before sink_now r told whole front unwritten cause later =
    let part = part_named question in
    record {
      told = subst (λ (g : Result (List (List ℕ)) Refused). Answers (answered part g) old new r) (sym told) (answers_written part lines old new r whole front unwritten);
      may = unwritten_may question r unwritten;
      prints = written_prints part old new r unwritten;
      write_fault = cause;
      later = later;
    }

-- ---- a refusal

-- nothing was taken of no text, and so a front of any
some_nothing : (old new : Option (List ℕ)) (text : List ℕ) → AppendsSome old new [] → AppendsSome old new text
some_nothing old new text some = (0, omega arith, subst (Appends old new) (take-nil some.0) some.2)

-- a read fault and want of memory print nothing, whatever the answer
after_read_fault : (part : Part) (given : Result (List (List ℕ)) Refused) (end : Refused) (old new : Option (List ℕ)) → Ends ReadFault end
    → Answers (answered part (Err ReadFault)) old new (Err end) → Answers (answered part given) old new (Err end)
after_read_fault part given ReadFault old new ends answers = answers
after_read_fault part given WriteFault old new ends answers = some_nothing old new _ answers
after_read_fault part given Memory old new ends answers = some_nothing old new _ answers
after_read_fault part given _ old new ends answers = cc

after_memory : (part : Part) (given : Result (List (List ℕ)) Refused) (end : Refused) (old new : Option (List ℕ)) → Ends Memory end
    → Answers (answered part (Err Memory)) old new (Err end) → Answers (answered part given) old new (Err end)
after_memory part given WriteFault old new ends answers = some_nothing old new _ answers
after_memory part given Memory old new ends answers = some_nothing old new _ answers
after_memory part given _ old new ends answers = cc

answers_refused : (part : Part) (given : Result (List (List ℕ)) Refused) (refused end : Refused) (old new : Option (List ℕ)) → Fails refused given → Ends refused end
    → Answers (answered part (Err refused)) old new (Err end) → Answers (answered part given) old new (Err end)
answers_refused part given ReadFault end old new fails ends answers = after_read_fault part given end old new ends answers
answers_refused part given Memory end old new fails ends answers = after_memory part given end old new ends answers
answers_refused part given refused end old new fails ends answers =
    subst (λ (g : Result (List (List ℕ)) Refused). Answers (answered part g) old new (Err end)) (sym fails) answers

-- equal ends are equal refusals
own : {end : Refused} (refused : Refused) → (let r : Result (Unit {0}) Refused = Err end in r ≡ Err refused) → end ≡ refused
own refused is = cc

-- a refusal of its own is the one that was met
met : (refused end own : Refused) → Ends refused end → end ≡ own → Ends refused own
met refused end own ends same = subst (Ends refused) same ends

-- a refusal that is no fault of the sink wasn't met where the end is one, unless the sink failed
write_cause : (refused end : Refused) (sink_before sink_now : ℕ) → (refused ≡ WriteFault → ⊥) → (end ≡ WriteFault → (refused ≡ WriteFault) ⊎ Rose sink_before sink_now)
    → (let r : Result (Unit {0}) Refused = Err end in r ≡ Err WriteFault) → Rose sink_before sink_now
write_cause refused end sink_before sink_now other cause is = ⊎_elim (λ same. absurd (other same)) (λ rose. rose) (cause (own WriteFault is))

-- ---- a refusal over evidence that was opened

deciding_end_may : (question : Question) (refused end : Refused) → Ends refused end → MayMeet (Deciding question) refused → MayFollow question end
deciding_end_may question refused WriteFault ends may = inr tt
deciding_end_may question refused Memory ends may = inl tt
deciding_end_may question refused end ends may = inl (subst (MayMeet (Deciding question)) (sym ends) may)

no_write_fault : (question : Question) (refused : Refused) → MayMeet (Deciding question) refused → refused ≡ WriteFault → ⊥
no_write_fault question refused may is = subst (MayMeet (Deciding question)) is may

pub answered_refused : (question : Question) (given : Result (List (List ℕ)) Refused) (part : Part) (refused end : Refused) (old new : Option (List ℕ)) (sink_before sink_now : ℕ)
    → part ≡ part_named question
    → Fails refused given
    → MayMeet (Deciding question) refused
    → Answers (answered part (Err refused)) old new (Err end)
    → Prints part old new end
    → Ends refused end
    → (end ≡ WriteFault → (refused ≡ WriteFault) ⊎ Rose sink_before sink_now)
    → sink_before ≤ sink_now
    → IsAnswered question given old new sink_before sink_now (Err end)
answered_refused question given part refused end old new sink_before sink_now named told may answers prints ends cause later = record {
  told = answers_refused (part_named question) given refused end old new told ends (subst (λ (p : Part). Answers (answered p (Err refused)) old new (Err end)) named answers);
  may = deciding_end_may question refused end ends may;
  prints = subst (λ (p : Part). Prints p old new end) named prints;
  write_fault = write_cause refused end sink_before sink_now (no_write_fault question refused may) cause;
  later = later;
}

memory_no_fault : (let r : Result (Unit {0}) Refused = Err Memory in r ≡ Err WriteFault) → ⊥
memory_no_fault is = cc

-- memory ran out before anything was written
out_of_memory : (question : Question) (given : Result (List (List ℕ)) Refused) (taken : Option (List ℕ)) (count : ℕ) → IsAnswered question given taken taken count count (Err Memory)
out_of_memory question given taken count = record {
  told = (0, omega arith, Appends-nil taken);
  may = inl tt;
  prints = tt;
  write_fault = λ is. absurd (memory_no_fault is);
  later = omega arith;
}

pub answered_memory : (question : Question) (given : Result (List (List ℕ)) Refused) (taken : Option (List ℕ)) (count : ℕ) (refused : Refused) → refused ≡ Memory
    → IsAnswered question given taken taken count count (Err refused)
answered_memory question given taken count refused is =
    subst (λ (r : Refused). IsAnswered question given taken taken count count (Err r)) (sym is) (out_of_memory question given taken count)

-- ---- the whole, where the evidence was opened

follow_may : (db : List ℕ) (question : Question) (contents : Option Files) (r : Result (Unit {0}) Refused) → Has contents db → IfErr r (MayFollow question)
    → IfErr r (MayAnswer (Some (words.Evidence db question)) contents)
follow_may db question contents (Ok done) has may = tt
follow_may db question contents (Err Memory) has may = has
follow_may db question contents (Err refused) has may = inr may

-- the refusals that nothing comes to once the evidence was opened
not_followed : (question : Question) (r : Result (Unit {0}) Refused) (refused : Refused) → IfErr r (MayFollow question) → r ≡ Err refused → MayFollow question refused
not_followed question r refused may is = let P : Result (Unit {0}) Refused → Type 0 = λ r. IfErr r (MayFollow question) in subst P is may

told_opened : (db : List ℕ) (question : Question) (contents : Option Files) (evidence : Evidence) (old new : Option (List ℕ)) (r : Result (Unit {0}) Refused)
    → IfSome contents (λ files. evidence_of files db ≡ Ok evidence)
    → Answers (answered (part_named question) (reply_over question (case_of evidence))) old new r
    → IfSome contents (λ files. Answers (answer (Some (words.Evidence db question)) files) old new r)
told_opened db question None evidence old new r opened answers = tt
told_opened db question (Some files) evidence old new r opened answers =
    let P : Result Evidence Refused → Type 0 = λ given. Answers (answered (part_named question) (given >>= λ e. reply_over question (case_of e))) old new r in
    subst P (sym opened) answers

module _ (db : List ℕ) (question : Question) (contents : Option Files) (store_before store_now : ℕ) (absent : Bool) (given : ℕ) (taken_before taken_now : Option (List ℕ)) (sink_before sink_now : ℕ) where
  pub examined_opened : (evidence : Evidence) (r : Result (Unit {0}) Refused)
      → IfSome contents (λ files. evidence_of files db ≡ Ok evidence)
      → Has contents db
      → store_before ≤ store_now
      → IsAnswered question (reply_over question (case_of evidence)) taken_before taken_now sink_before sink_now r
      → IsExamined (Some (words.Evidence db question)) contents store_before store_now absent given taken_before taken_now sink_before sink_now r
  examined_opened evidence r opened has later over = record {
    told = told_opened db question contents evidence taken_before taken_now r opened over.told;
    storeless = tt;
    may = follow_may db question contents r has over.may;
    prints = over.prints;
    no_database = λ is. absurd (neither (not_followed question r NoDatabase over.may is));
    too_large = λ part is. absurd (neither (not_followed question r (TooLarge part) over.may is));
    read_fault = λ is. absurd (neither (not_followed question r ReadFault over.may is));
    write_fault = over.write_fault;
    later = (later, over.later);
  }

-- ---- the whole, where the evidence wasn't opened

opening_may : (T : Type 0) (db : List ℕ) (question : Question) (contents : Option Files) (refused : Refused) → MayOpen refused → HasUsed {T = T} contents db (Err refused)
    → MayAnswer (Some (words.Evidence db question)) contents refused
opening_may T db question contents Memory may used = used
opening_may T db question contents refused may used = inl may

-- none of them has a number
no_number : (refused : Refused) → MayOpen refused → HasNumber refused → ⊥
no_number (NoMoment commits) may number = neither may
no_number (Unreadable moment) may number = neither may
no_number (NoByte length) may number = neither may
no_number _ may number = number

opening_end_may : (db : List ℕ) (question : Question) (contents : Option Files) (refused end : Refused) → Ends refused end → MayOpen refused
    → MayAnswer (Some (words.Evidence db question)) contents refused → MayAnswer (Some (words.Evidence db question)) contents end
opening_end_may db question contents refused WriteFault ends may own_may = inr (inr tt)
opening_end_may db question contents refused Memory ends may own_may =
    ⊎_elim (λ same. subst (MayAnswer (Some (words.Evidence db question)) contents) same own_may) (λ number. absurd (no_number refused may number)) ends
opening_end_may db question contents refused end ends may own_may = subst (MayAnswer (Some (words.Evidence db question)) contents) (sym ends) own_may

opening_write_fault : (refused : Refused) → MayOpen refused → refused ≡ WriteFault → ⊥
opening_write_fault refused may is = neither (subst MayOpen is may)

-- what opening answers is what the whole answers
fails_opening : {A B : Type 0} (refused : Refused) (opened : Result A Refused) (next : A → Result B Refused) → Fails refused opened → Fails refused (opened >>= next)
fails_opening ReadFault opened next fails = tt
fails_opening Memory opened next fails = tt
fails_opening refused opened next fails = ap (λ given. given >>= next) fails

told_refused : (db : List ℕ) (question : Question) (contents : Option Files) (refused end : Refused) (old new : Option (List ℕ)) → IfSome contents (λ files. Fails refused (evidence_of files db))
    → Ends refused end
    → Answers (answered (part_named question) (Err refused)) old new (Err end)
    → IfSome contents (λ files. Answers (answer (Some (words.Evidence db question)) files) old new (Err end))
told_refused db question None refused end old new told ends answers = tt
told_refused db question (Some files) refused end old new told ends answers =
    answers_refused (part_named question) (reply (Some (words.Evidence db question)) files) refused end old new
    (fails_opening refused (evidence_of files db) (λ evidence. reply_over question (case_of evidence)) told) ends answers

module _ {T : Type 0} (db : List ℕ) (question : Question) (contents : Option Files) (store_before store_now : ℕ) (absent : Bool) (given : ℕ) (taken_before taken_now : Option (List ℕ)) (sink_before sink_now : ℕ) where
  pub examined_refused : (part : Part) (refused end : Refused) → part ≡ part_named question
      → IfSome contents (λ files. Fails refused (evidence_of files db))
      → HasCauses {T = T} store_before store_now absent given (Err refused)
      → MayOpen refused
      → HasUsed {T = T} contents db (Err refused)
      → Answers (answered part (Err refused)) taken_before taken_now (Err end)
      → Prints part taken_before taken_now end
      → Ends refused end
      → (end ≡ WriteFault → (refused ≡ WriteFault) ⊎ Rose sink_before sink_now)
      → sink_before ≤ sink_now
      → IsExamined (Some (words.Evidence db question)) contents store_before store_now absent given taken_before taken_now sink_before sink_now (Err end)
  examined_refused part refused end named told causes may used answers prints ends cause later = record {
    told = told_refused db question contents refused end taken_before taken_now told ends
        (subst (λ (p : Part). Answers (answered p (Err refused)) taken_before taken_now (Err end)) named answers);
    storeless = tt;
    may = opening_end_may db question contents refused end ends may (opening_may T db question contents refused may used);
    prints = subst (λ (p : Part). Prints p taken_before taken_now end) named prints;
    no_database = λ is. causes.no_database (ap Err (sym (met refused end NoDatabase ends (own NoDatabase is))));
    too_large = λ large is. causes.too_large large (ap Err (sym (met refused end (TooLarge large) ends (own (TooLarge large) is))));
    read_fault = λ is. causes.read_fault (ap Err (sym (met refused end ReadFault ends (own ReadFault is))));
    write_fault = write_cause refused end sink_before sink_now (opening_write_fault refused may) cause;
    later = (causes.later, later);
  }

-- ---- the words

-- the answer to what was read is the answer to the words
pub told_asked : (read asked : Option Asked) (contents : Option Files) (old new : Option (List ℕ)) (r : Result (Unit {0}) Refused) → read ≡ asked
    → IfSome contents (λ files. Answers (answer read files) old new r) → IfSome contents (λ files. Answers (answer asked files) old new r)
told_asked read asked contents old new r same told =
    let P : Option Asked → Type 0 = λ a. IfSome contents (λ files. Answers (answer a files) old new r) in
    subst P same told

-- words outside the grammar have one answer over all files
usage_told : (contents : Option Files) (end : Refused) (old new : Option (List ℕ)) → Answers (answered (part_asked None) (Err Usage)) old new (Err end)
    → IfSome contents (λ files. Answers (answer None files) old new (Err end))
usage_told None end old new answers = tt
usage_told (Some files) end old new answers = answers

pub told_usage : (asked : Option Asked) (contents : Option Files) (end : Refused) (old new : Option (List ℕ)) → None ≡ asked
    → Answers (answered (part_asked None) (Err Usage)) old new (Err end) → IfSome contents (λ files. Answers (answer asked files) old new (Err end))
told_usage asked contents end old new outside answers =
    let P : Option Asked → Type 0 = λ a. IfSome contents (λ files. Answers (answer a files) old new (Err end)) in
    subst P outside (usage_told contents end old new answers)

usage_no_memory : (let r : Refused = Usage in r ≡ Memory) → ⊥
usage_no_memory same = cc

outside_may : (contents : Option Files) (end : Refused) → Ends Usage end → MayAnswer None contents end
outside_may contents WriteFault ends = inr tt
outside_may contents Memory ends = ⊎_elim (λ same. usage_no_memory same) (λ number. number) ends
outside_may contents end ends = inl (subst (MayMeet Reading) (sym ends) tt)

pub usage_may : (asked : Option Asked) (contents : Option Files) (end : Refused) → None ≡ asked → Ends Usage end → MayAnswer asked contents end
usage_may asked contents end outside ends = subst (λ (a : Option Asked). MayAnswer a contents end) outside (outside_may contents end ends)
