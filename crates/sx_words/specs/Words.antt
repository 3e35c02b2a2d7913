-- The grammar of the words: the request that a list of words asks for, if it asks for one.
use Rattle.std.specs.Prelude.{ℕ, ℤ, pos, negsuc, ◌-◌, ◌==◌, Bool, true, false, not, ◌&&◌, ◌||◌, nat_lt, nat_le, if◌then◌else◌, List, [], ◌∷◌, map, is_some, count_by, slice_index, Option, None, Some, Result, Ok, Err, String, codes, bytes_eq, string_bytes}
use Rattle.std.specs.List.{list_all, list_any, before_first, after_first}
use Rattle.std.specs.Option.{option_map}
use Rattle.std.specs.Str.{all_ascii_digits}
use Rattle.std.specs.Str.Parse.{digits_value}
use Rattle.std.specs.declared.alloc.Global.{Global}
use Rattle.sx_base.specs.declared.evidence.Part.{Part}
use Rattle.sx_base.specs.declared.evidence.Part.TheVariants as parts
use Rattle.sx_base.specs.declared.evidence.Place.{Place}
use Rattle.sx_base.specs.declared.moment.Moment.{Moment}
use Rattle.sx_base.specs.declared.moment.Moment.TheVariants as moments
use Rattle.sx_words.specs.declared.command.Command.{Command}
use Rattle.sx_words.specs.declared.command.Command.TheVariants as commands
use Rattle.sx_words.specs.declared.key.Key.{Key}
use Rattle.sx_words.specs.declared.key.Key.TheVariants.{No, Table, At}
use Rattle.sx_words.specs.declared.key.Key.TheVariants as keys
use Rattle.sx_words.specs.declared.key.Wanted.{Wanted}
use Rattle.sx_words.specs.declared.key.Wanted.TheVariants.{Required, Allowed}
use Rattle.sx_words.specs.declared.request.Question.{Question as ReadQuestion}
use Rattle.sx_words.specs.declared.request.Question.TheVariants as questions
use Rattle.sx_words.specs.declared.request.Request.{Request}
use Rattle.sx_words.specs.declared.request.Request.TheVariants as requests
use Rattle.sx_words.specs.declared.request.When.{When}
use Rattle.sx_words.specs.declared.request.When.TheVariants as whens
use Rattle.sx_words.specs.declared.request.Which.{Which}
use Rattle.sx_words.specs.declared.request.Which.TheVariants as whiches
use Rattle.sx_words.specs.declared.request.Usage.{Usage}

-- what can be asked of evidence, with names as lists of bytes: one case a command
pub data Question : Type 0 where
  Timeline : Question
  Show : (table : List ℕ) → (at : When) → Question
  Map : (at : When) → Question
  Page : (number : ℕ) → (at : When) → Question
  Carve : (at : Which) → (spill : Bool) → Question
  Explain : (place : Place) → (at : When) → Question
  Generations : Question
  History : (table : List ℕ) → (rowid : ℤ) → Question
  Report : Question

-- what words can ask for: a question about the evidence of a database's name, or a drill, whose evidence is made from a
-- seed
pub data Asked : Type 0 where
  Evidence : (db : List ℕ) → (question : Question) → Asked
  Drill : (seed leaves commits : ℕ) → Asked

-- a database's name isn't empty
abbrev pub is_name : List ℕ → Bool
is_name name = not (bytes_eq name [])

-- ---- the table of commands

-- the command of a word
abbrev pub command_named : List ℕ → Option Command
command_named word =
    if bytes_eq word (codes "timeline") then Some commands.Timeline
    else (if bytes_eq word (codes "show") then Some commands.Show
    else (if bytes_eq word (codes "map") then Some commands.Map
    else (if bytes_eq word (codes "page") then Some commands.Page
    else (if bytes_eq word (codes "carve") then Some commands.Carve
    else (if bytes_eq word (codes "explain") then Some commands.Explain
    else (if bytes_eq word (codes "generations") then Some commands.Generations
    else (if bytes_eq word (codes "history") then Some commands.History
    else (if bytes_eq word (codes "report") then Some commands.Report else None))))))))

-- the keys that the words behind a command may set, and which of them they must: one row a command
abbrev pub keys_of : Command → List Wanted
keys_of commands.Timeline = []
keys_of commands.Show = Required Table ∷ Allowed At ∷ []
keys_of commands.Map = Allowed At ∷ []
keys_of commands.Page = Required No ∷ Allowed At ∷ []
keys_of commands.Carve = Allowed At ∷ Allowed keys.Spill ∷ []
keys_of commands.Explain = Required keys.Part ∷ Required keys.Byte ∷ Allowed At ∷ []
keys_of commands.Generations = []
keys_of commands.History = Required Table ∷ Required keys.Rowid ∷ []
keys_of commands.Report = []

-- the keys that the words of a drill must set
abbrev pub drill_keys : List Wanted
drill_keys = Required keys.Seed ∷ Required keys.Leaves ∷ Required keys.Commits ∷ []

-- ---- words that set a key

-- a key's name
abbrev pub key_name : Key → List ℕ
key_name No = codes "no"
key_name Table = codes "table"
key_name keys.Part = codes "part"
key_name keys.Byte = codes "byte"
key_name keys.Rowid = codes "rowid"
key_name keys.Seed = codes "seed"
key_name keys.Leaves = codes "leaves"
key_name keys.Commits = codes "commits"
key_name keys.Spill = codes "spill"
key_name At = codes "at"

-- the byte `=`
abbrev pub is_equals : ℕ → Bool
is_equals byte = byte == 61

-- the value that a word sets a key to: the key stands before the word's first `=`, and the value, which isn't empty,
-- behind it
unfoldable pub setting_of : Key → List ℕ → Option (List ℕ)
setting_of key word =
    let value = after_first is_equals word in
    if bytes_eq (before_first is_equals word) (key_name key) && not (bytes_eq value []) then Some value else None

-- a word sets a key
abbrev pub sets : Key → List ℕ → Bool
sets key word = is_some (setting_of key word)

-- the first of two, where it is there
abbrev pub first_given : Option (List ℕ) → Option (List ℕ) → Option (List ℕ)
first_given None second = second
first_given (Some value) second = Some value

-- the value of a key, by the first of the words that sets it
abbrev pub value_of : Key → List (List ℕ) → Option (List ℕ)
value_of key [] = None
value_of key (word ∷ words) = first_given (setting_of key word) (value_of key words)

-- the key of a row's entry
abbrev pub key_of : Wanted → Key
key_of (Required key) = key
key_of (Allowed key) = key

-- a required key is set once, and one that is allowed at most once
abbrev pub is_met : Wanted → List (List ℕ) → Bool
is_met (Required key) words = count_by (sets key) words == 1
is_met (Allowed key) words = nat_le (count_by (sets key) words) 1

-- the words set keys of a row: each sets one of them, and each is set as the row wants it
unfoldable pub are_settings : List Wanted → List (List ℕ) → Bool
are_settings row words =
    list_all (λ word. list_any (λ wanted. sets (key_of wanted) word) row) words
    && list_all (λ wanted. is_met wanted words) row

-- ---- values

-- a number: `0`, or decimal digits that don't begin with 0
abbrev pub is_number : List ℕ → Bool
is_number text = all_ascii_digits text && (bytes_eq text (codes "0") || nat_lt 48 (slice_index text 0))

-- the number that is written, where it is one within these bounds
unfoldable pub number_of : ℕ → ℕ → List ℕ → Option ℕ
number_of least most text =
    let number = digits_value 10 text in
    if is_number text && nat_le least number && nat_le number most then Some number else None

-- the number of a page, from 1
unfoldable pub page_number_of : Option (List ℕ) → Option ℕ
page_number_of None = None
page_number_of (Some text) = number_of 1 4294967295 text

-- the part of the evidence that is named
unfoldable pub part_of : Option (List ℕ) → Option Part
part_of None = None
part_of (Some text) =
    if bytes_eq text (codes "database") then Some parts.Database
    else (if bytes_eq text (codes "wal") then Some parts.Wal
    else (if bytes_eq text (codes "journal") then Some parts.Journal else None))

-- the offset of a byte in its file, up to the greatest number of 64 bits
unfoldable pub offset_of : Option (List ℕ) → Option ℕ
offset_of None = None
offset_of (Some text) = number_of 0 18446744073709551615 text

-- a number within these bounds, where a value gives one
unfoldable pub bounded_of : ℕ → ℕ → Option (List ℕ) → Option ℕ
bounded_of least most None = None
bounded_of least most (Some text) = number_of least most text

-- what stands behind a minus sign, where a text begins with one
abbrev pub after_minus : List ℕ → Option (List ℕ)
after_minus [] = None
after_minus (byte ∷ digits) = if byte == 45 then Some digits else None

-- the number below 0 that is so far from it
abbrev pub negated : ℕ → ℤ
negated number = negsuc (number - 1)

-- the number that is written with these digits behind a minus sign, or without one
abbrev pub signed_by : List ℕ → Option (List ℕ) → Option ℤ
signed_by text None = option_map pos (number_of 0 9223372036854775807 text)
signed_by text (Some digits) = option_map negated (number_of 1 9223372036854775808 digits)

-- the number of 64 bits that is written with its sign: there is no minus sign before 0, and never a plus sign
abbrev pub signed_of : List ℕ → Option ℤ
signed_of text = signed_by text (after_minus text)

-- a rowid
unfoldable pub rowid_of : Option (List ℕ) → Option ℤ
rowid_of None = None
rowid_of (Some text) = signed_of text

-- the moment of a number: 0 is the file, and every other number a commit
abbrev pub numbered : ℕ → Moment
numbered number = if number == 0 then moments.File else moments.Commit number

-- when: the last moment where no value is given, else the journal's or that of a number
unfoldable pub when_of : Option (List ℕ) → Option When
when_of None = Some whens.Last
when_of (Some text) =
    if bytes_eq text (codes "journal") then Some (whens.At moments.Journal)
    else option_map (λ number. whens.At (numbered number)) (number_of 0 4294967295 text)

-- all moments are asked for
abbrev pub is_all : Option (List ℕ) → Bool
is_all None = false
is_all (Some text) = bytes_eq text (codes "all")

-- one moment, where it could be read
abbrev pub one_of : Option When → Option Which
one_of None = None
one_of (Some at) = Some (whiches.One at)

-- which: all moments, or one by its own grammar
unfoldable pub which_of : Option (List ℕ) → Option Which
which_of value = if is_all value then Some whiches.All else one_of (when_of value)

-- whether candidates are completed: not where no value is given, else by `yes` or `no`
unfoldable pub spill_of : Option (List ℕ) → Option Bool
spill_of None = Some false
spill_of (Some text) =
    if bytes_eq text (codes "yes") then Some true
    else (if bytes_eq text (codes "no") then Some false else None)

-- ---- the request

-- a table at some time, where that could be read
abbrev pub show_of : Option (List ℕ) → Option When → Option Question
show_of (Some table) (Some at) = Some (Show table at)
show_of (Some table) None = None
show_of None at = None

-- a page at some time, where both could be read
abbrev pub page_of : Option ℕ → Option When → Option Question
page_of (Some number) (Some at) = Some (Page number at)
page_of (Some number) None = None
page_of None at = None

-- all pages at some time, where that could be read
abbrev pub map_of : Option When → Option Question
map_of (Some at) = Some (Map at)
map_of None = None

-- what stands of deleted rows at some times, completed or not, where both could be read
abbrev pub carve_of : Option Which → Option Bool → Option Question
carve_of (Some at) (Some spill) = Some (Carve at spill)
carve_of (Some at) None = None
carve_of None spill = None

-- a table and a rowid, where both could be read
abbrev pub history_of : Option (List ℕ) → Option ℤ → Option Question
history_of (Some table) (Some rowid) = Some (History table rowid)
history_of (Some table) None = None
history_of None rowid = None

-- a byte of a part, where both could be read
abbrev pub byte_of : Option Part → Option ℕ → Option Place
byte_of (Some part) (Some offset) = Some (record { part = part; offset = offset })
byte_of (Some part) None = None
byte_of None offset = None

-- a byte at some time, where both could be read
abbrev pub explain_of : Option Place → Option When → Option Question
explain_of (Some place) (Some at) = Some (Explain place at)
explain_of (Some place) None = None
explain_of None at = None

-- the question of a command, with words that set its keys, where their values can be read: one case a command
unfoldable pub question_of : Command → List (List ℕ) → Option Question
question_of commands.Timeline words = Some Timeline
question_of commands.Show words = show_of (value_of Table words) (when_of (value_of At words))
question_of commands.Map words = map_of (when_of (value_of At words))
question_of commands.Page words = page_of (page_number_of (value_of No words)) (when_of (value_of At words))
question_of commands.Carve words = carve_of (which_of (value_of At words)) (spill_of (value_of keys.Spill words))
question_of commands.Explain words =
    explain_of (byte_of (part_of (value_of keys.Part words)) (offset_of (value_of keys.Byte words))) (when_of (value_of At words))
question_of commands.Generations words = Some Generations
question_of commands.History words = history_of (value_of Table words) (rowid_of (value_of keys.Rowid words))
question_of commands.Report words = Some Report

-- what a name, a command and the words behind it ask for
unfoldable pub command_of : List ℕ → Option Command → List (List ℕ) → Option Asked
command_of db None words = None
command_of db (Some command) words =
    if is_name db && are_settings (keys_of command) words then option_map (Evidence db) (question_of command words) else None

-- what a name and the words behind it ask for: a command, and words that set its keys
unfoldable pub evidence_of : List ℕ → List (List ℕ) → Option Asked
evidence_of db [] = None
evidence_of db (command ∷ words) = command_of db (command_named command) words

-- a drill by a seed below 2 ^ 64, 1 to 400 leaves and at most 1000 commits, where all three could be read
abbrev pub drill_by : Option ℕ → Option ℕ → Option ℕ → Option Asked
drill_by (Some seed) (Some leaves) (Some commits) = Some (Drill seed leaves commits)
drill_by (Some seed) (Some leaves) None = None
drill_by (Some seed) None commits = None
drill_by None leaves commits = None

-- what words that set the keys of a drill ask for
unfoldable pub drill_of : List (List ℕ) → Option Asked
drill_of words =
    if are_settings drill_keys words then
    drill_by (bounded_of 0 18446744073709551615 (value_of keys.Seed words)) (bounded_of 1 400 (value_of keys.Leaves words)) (bounded_of 0 1000 (value_of keys.Commits words))
    else None

-- what the words ask for: where the first is `drill` a drill, else it is the name of a database
unfoldable pub request_of : List (List ℕ) → Option Asked
request_of [] = None
request_of (word ∷ words) = if bytes_eq word (codes "drill") then drill_of words else evidence_of word words

-- ---- requests as they were read

-- the words as lists of bytes
abbrev pub texts : List (String Global) → List (List ℕ)
texts words = map string_bytes words

-- what a question asks for, without where its names lie in memory: one case a command
abbrev pub question_by : ReadQuestion → Question
question_by questions.Timeline = Timeline
question_by (questions.Show table at) = Show table.now at
question_by (questions.Map at) = Map at
question_by (questions.Page number at) = Page number at
question_by (questions.Carve at spill) = Carve at spill
question_by (questions.Explain place at) = Explain place at
question_by questions.Generations = Generations
question_by (questions.History table rowid) = History table.now rowid
question_by questions.Report = Report

-- what a request asks for, without where its names lie in memory
abbrev pub asked_by : Request → Asked
asked_by (requests.Evidence db question) = Evidence db.now (question_by question)
asked_by (requests.Drill drill) = Drill drill.seed drill.leaves drill.commits

-- what was read: a request, or that the words are outside the grammar
abbrev pub asked : Result Request Usage → Option Asked
asked (Ok request) = Some (asked_by request)
asked (Err usage) = None
