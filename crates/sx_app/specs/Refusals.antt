-- What is printed in place of an answer, and the exit status of each end.
use Rattle.std.specs.Prelude.{ℕ, List, [], ◌∷◌, ◌++◌, codes, Result, Ok, Err}
use Rattle.std.specs.Fmt.{decimal}
use Rattle.sx_base.specs.declared.evidence.Part.{Part}
use Rattle.sx_header.specs.declared.header.HeaderFault.{HeaderFault}
use Rattle.sx_header.specs.declared.header.HeaderFault.TheVariants as faults
use Rattle.sx_app.specs.declared.refused.Refused.{Refused}
use Rattle.sx_app.specs.declared.refused.Refused.TheVariants.{Usage, NoDatabase, BadHeader, TooLarge, NoMoment, Unreadable, NoTable, NoByte, ReadFault, WriteFault, Memory, NoTree}
use Rattle.sx_lines.specs.Lines.{text_of}
use Rattle.sx_lines.specs.Names.{part_name, moment_word}

-- the name of a header's fault
abbrev pub fault_name : HeaderFault → List ℕ
fault_name faults.Short = codes "short"
fault_name faults.Magic = codes "magic"
fault_name faults.PageSize = codes "pagesize"
fault_name faults.Usable = codes "usable"
fault_name faults.Encoding = codes "encoding"

-- how the program is used, two lines
abbrev pub usage_lines : List (List ℕ)
usage_lines =
    codes "usage: <db> timeline | show table=T [at=M] | map [at=M] | page no=N [at=M] | carve [at=M|all] [spill=yes|no] | explain part=P byte=N [at=M] | report | generations | history table=T rowid=N"
    ∷ codes "usage: drill seed=N leaves=N commits=N"
    ∷ []

-- the one line of a refusal
abbrev pub refusal : List ℕ → List (List ℕ)
refusal why = (codes "refused: " ++ why) ∷ []

-- the lines that a refusal prints; part is the one that the words name. The last three print nothing of their own.
abbrev pub refusal_lines : Part → Refused → List (List ℕ)
refusal_lines part Usage = usage_lines
refusal_lines part NoDatabase = refusal (codes "no database")
refusal_lines part (BadHeader fault) = refusal (codes "header " ++ fault_name fault)
refusal_lines part (TooLarge large) = refusal (part_name large ++ codes " is larger than 1073741824 bytes")
refusal_lines part (NoMoment commits) = refusal (codes "no such moment; the last is " ++ decimal commits)
refusal_lines part (Unreadable moment) = refusal (codes "page 1 is unreadable at " ++ moment_word moment)
refusal_lines part NoTable = refusal (codes "no such table")
refusal_lines part NoTree = refusal (codes "table has no tree")
refusal_lines part (NoByte length) = refusal (part_name part ++ codes " has " ++ decimal length ++ codes " bytes")
refusal_lines part ReadFault = []
refusal_lines part WriteFault = []
refusal_lines part Memory = []

-- the text of a refusal
abbrev pub refusal_text : Part → Refused → List ℕ
refusal_text part refused = text_of (refusal_lines part refused)

-- the exit status of each end
abbrev pub status_of : Result (Unit {0}) Refused → ℕ
status_of (Ok done) = 0
status_of (Err Usage) = 1
status_of (Err NoDatabase) = 2
status_of (Err (BadHeader fault)) = 3
status_of (Err (TooLarge part)) = 4
status_of (Err (NoMoment commits)) = 5
status_of (Err (Unreadable moment)) = 6
status_of (Err NoTable) = 7
status_of (Err (NoByte length)) = 8
status_of (Err ReadFault) = 9
status_of (Err WriteFault) = 10
status_of (Err Memory) = 11
status_of (Err NoTree) = 12
