-- What `generations` prints: the runs of older frames in the write-ahead log with their commits, and the groups of records
-- of a zeroed journal that confirm one another.
use Rattle.std.specs.Prelude.{ℕ, ◌+◌, ◌-◌, ◌^◌, false, List, [], ◌∷◌, ◌++◌, map, length, sum_by, slice_get, codes, Option, Some, None}
use Rattle.std.specs.Fmt.{decimal, digits, padded_integral, format_spec}
use Rattle.sx_wal.specs.declared.slot.Slot.{Slot}
use Rattle.sx_generations.specs.declared.runs.Run.{Run}
use Rattle.sx_generations.specs.declared.groups.Group.{Group}

-- a word in 8 hexadecimal digits, filled up with zeros: what std writes for `{word:08x}`, with the width 8, the flag 4 of
-- zeros in front, and no precision
unfoldable pub word_digits : ℕ → List ℕ
word_digits word = padded_integral (format_spec 32 0 4 8 (2 ^ 64 - 1)) false [] (digits 16 false word)

-- the places of so many neighbours: the first, a dash and the last
abbrev pub first_to_last : ℕ → ℕ → List ℕ
first_to_last first count = decimal first ++ codes "-" ++ decimal (first + count - 1)

-- the first line: how many runs there are, and how many commits in all of them
unfoldable pub runs_line : List (Run × List ℕ) → List ℕ
runs_line runs = codes "wal runs " ++ decimal (length runs) ++ codes " commits " ++ decimal (sum_by (λ run. length run.1) runs)

-- run i: its slots and its salts
unfoldable pub older_run_line : ℕ → Run → List ℕ
older_run_line i run =
    codes "run " ++ decimal i ++ codes " slots " ++ first_to_last run.first run.slots ++ codes " salts " ++ word_digits run.salt1 ++ codes " " ++ word_digits run.salt2

-- the size word of a slot that may be there
abbrev pub size_of : Option Slot → ℕ
size_of None = 0
size_of (Some slot) = slot.commit_size

-- a commit of a run: its slot, and the size of the database behind it in pages
unfoldable pub commit_line : List Slot → ℕ → List ℕ
commit_line slots slot = codes "commit frame " ++ decimal slot ++ codes " pages " ++ decimal (size_of (slice_get slots slot))

-- the lines of runs, numbered from i on: each with a line for each of its commits
unfoldable pub older_run_lines : List Slot → ℕ → List (Run × List ℕ) → List (List ℕ)
older_run_lines slots i [] = []
older_run_lines slots i (run ∷ runs) = older_run_line i run.0 ∷ map (commit_line slots) run.1 ++ older_run_lines slots (i + 1) runs

-- how many groups there are
unfoldable pub groups_line : List Group → List ℕ
groups_line groups = codes "journal groups " ++ decimal (length groups)

-- group i: its records and their nonce
unfoldable pub group_line : ℕ → Group → List ℕ
group_line i group = codes "group " ++ decimal i ++ codes " records " ++ first_to_last group.first group.entries ++ codes " nonce " ++ word_digits group.nonce

-- the lines of groups, numbered from i on
unfoldable pub group_lines : ℕ → List Group → List (List ℕ)
group_lines i [] = []
group_lines i (group ∷ groups) = group_line i group ∷ group_lines (i + 1) groups

-- all lines, over the slots of the log
unfoldable pub generations_lines : List Slot → List (Run × List ℕ) → List Group → List (List ℕ)
generations_lines slots runs groups = runs_line runs ∷ older_run_lines slots 0 runs ++ groups_line groups ∷ group_lines 0 groups
