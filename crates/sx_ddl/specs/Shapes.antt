-- The shape of a table, from the tokens of its text.
use Rattle.std.specs.Prelude.{ℕ, ◌-◌, ◌==◌, Bool, true, false, ◌&&◌, ◌||◌, if◌then◌else◌, List, [], ◌∷◌, length, take, drop, map, bytes_eq, slice_index, Option, None, Result, Ok, Err}
use Rattle.std.specs.List.{list_any, position_from}
use Rattle.sx_ddl.specs.declared.token.Token.{Token}
use Rattle.sx_ddl.specs.declared.token.End.{End}
use Rattle.sx_ddl.specs.declared.column.Column.{Column}
use Rattle.sx_ddl.specs.declared.options.Due.TheVariants.{First}
use Rattle.sx_ddl.specs.declared.refused.DdlRefused.{DdlRefused}
use Rattle.sx_ddl.specs.declared.refused.DdlRefused.TheVariants.{NotTable, Unknown}
use Rattle.sx_ddl.specs.declared.shape.Shape.{Shape as ReadShape}
use Rattle.sx_ddl.specs.Keywords.{lowered}
use Rattle.sx_ddl.specs.Kinds.{opens, is_name, is_create, is_table}
use Rattle.sx_ddl.specs.Tokens.{Lexed, is_quote, lexed}
use Rattle.sx_ddl.specs.Items.{Found, Listed, nothing, items_from, is_at}
use Rattle.sx_ddl.specs.Options.{rowid_behind}

-- ---- the statement

-- the list of items behind its opening parenthesis
abbrev pub opened : End → Found → List Token → Result Listed DdlRefused
opened end found [] = Err (Unknown end.at)
opened end found (token ∷ tokens) = if opens token.kind then items_from end 0 found tokens else Err (Unknown token.at)

-- the list of items behind the table's name
abbrev pub named : End → Found → List Token → Result Listed DdlRefused
named end found [] = Err (Unknown end.at)
named end found (token ∷ tokens) = if is_name token.kind then opened end found tokens else Err (Unknown token.at)

-- the list of items of a text that begins with CREATE TABLE
unfoldable pub listed_of : Found → Lexed → Result Listed DdlRefused
listed_of found read =
    if is_at is_create 0 read.tokens && is_at is_table 1 read.tokens then named read.end found (drop 2 read.tokens) else Err NotTable

-- ---- names

-- the bytes of a token
abbrev pub bytes_of : List ℕ → Token → List ℕ
bytes_of text token = take token.len (drop token.at text)

-- what stands between marks, with one mark for two; `marked` where a mark stands right before that is no second one
unfoldable pub undoubled : ℕ → Bool → List ℕ → List ℕ
undoubled mark marked [] = []
undoubled mark marked (byte ∷ bytes) =
    if marked && byte == mark then undoubled mark false bytes else byte ∷ undoubled mark (byte == mark) bytes

-- without the first and the last byte
abbrev pub inside : List ℕ → List ℕ
inside bytes = take (length bytes - 2) (drop 1 bytes)

-- a name without its quotes or brackets
unfoldable pub unquoted : List ℕ → List ℕ
unquoted bytes =
    let first = slice_index bytes 0 in
    if is_quote first then undoubled first false (inside bytes) else (if first == 91 then inside bytes else bytes)

-- the name that a token spells
abbrev pub name_in : List ℕ → Token → List ℕ
name_in text token = unquoted (bytes_of text token)

-- ---- the shape

-- the columns' names, the place of the column that stands for the rowid, and whether the table has rowids
pub record Shape : Type 0 where
  pub names : List (List ℕ)
  pub alias : Option ℕ
  pub rowid : Bool

-- a token spells this name in lower case
abbrev pub spells : List ℕ → List ℕ → Token → Bool
spells text name key = bytes_eq (lowered (name_in text key)) name

-- a column stands for the rowid: its type is INTEGER, and it is the primary key by its own words or as the only one of a
-- table constraint
abbrev pub is_alias : List ℕ → List Token → Column → Bool
is_alias text keys column = column.integer && (column.key || list_any (spells text (lowered (name_in text column.name))) keys)

-- the place of the column that stands for the rowid, where the table has rowids
unfoldable pub alias_of : List ℕ → Found → Bool → Option ℕ
alias_of text found rowid = if rowid then position_from (is_alias text found.keys) 0 found.columns else None

-- the shape of a table with these items
abbrev pub shape_of : List ℕ → Found → Bool → Shape
shape_of text found rowid =
    record { names = map (λ column. name_in text column.name) found.columns; alias = alias_of text found rowid; rowid = rowid }

-- what follows the list
abbrev pub then_listed : Result Listed DdlRefused → (Listed → Result Shape DdlRefused) → Result Shape DdlRefused
then_listed (Err refused) next = Err refused
then_listed (Ok listed) next = next listed

-- what follows the options
abbrev pub then_rowid : Result Bool DdlRefused → (Bool → Shape) → Result Shape DdlRefused
then_rowid (Err refused) shape = Err refused
then_rowid (Ok rowid) shape = Ok (shape rowid)

-- the shape that the tokens behind the list complete
unfoldable pub completed : List ℕ → End → Listed → Result Shape DdlRefused
completed text end listed = then_rowid (rowid_behind end First true listed.rest) (shape_of text listed.found)

-- the shape of a table by the tokens of its text
abbrev pub statement_of : List ℕ → Lexed → Result Shape DdlRefused
statement_of text read = then_listed (listed_of nothing read) (completed text read.end)

-- the shape of a table by its text, or the first thing in the text that doesn't fit
unfoldable pub table_of : List ℕ → Result Shape DdlRefused
table_of text = statement_of text (lexed text)

-- a shape as it was read
abbrev pub shape_by : ReadShape → Shape
shape_by shape = record { names = map (λ name. name.items) shape.names.items; alias = shape.alias; rowid = shape.rowid }
