-- What tokens mean in the text of a table.
use Rattle.std.specs.Prelude.{ℕ, ◌==◌, Bool, true, false}
use Rattle.sx_ddl.specs.declared.keyword.Keyword.TheVariants as words
use Rattle.sx_ddl.specs.declared.token.Kind.{Kind}
use Rattle.sx_ddl.specs.declared.token.Kind.TheVariants.{Word, Quoted, Mark}

-- this byte by itself
abbrev pub is_mark : ℕ → Kind → Bool
is_mark byte (Word keyword) = false
is_mark byte Quoted = false
is_mark byte (Mark mark) = mark == byte

-- an opening parenthesis
abbrev pub opens : Kind → Bool
opens kind = is_mark 40 kind

-- a closing parenthesis
abbrev pub closes : Kind → Bool
closes kind = is_mark 41 kind

-- a comma
abbrev pub separates : Kind → Bool
separates kind = is_mark 44 kind

-- a semicolon
abbrev pub ends_statement : Kind → Bool
ends_statement kind = is_mark 59 kind

-- a word, whatever it means
abbrev pub is_word : Kind → Bool
is_word (Word keyword) = true
is_word Quoted = false
is_word (Mark mark) = false

-- a name: a word or a quoted name
abbrev pub is_name : Kind → Bool
is_name (Word keyword) = true
is_name Quoted = true
is_name (Mark mark) = false

-- the word CREATE
abbrev pub is_create : Kind → Bool
is_create (Word words.Create) = true
is_create kind = false

-- the word TABLE
abbrev pub is_table : Kind → Bool
is_table (Word words.Table) = true
is_table kind = false

-- the word INTEGER
abbrev pub is_integer : Kind → Bool
is_integer (Word words.Integer) = true
is_integer kind = false

-- the word PRIMARY
abbrev pub is_primary : Kind → Bool
is_primary (Word words.Primary) = true
is_primary kind = false

-- the word KEY
abbrev pub is_key : Kind → Bool
is_key (Word words.Key) = true
is_key kind = false

-- the word DESC
abbrev pub is_desc : Kind → Bool
is_desc (Word words.Desc) = true
is_desc kind = false

-- the word WITHOUT
abbrev pub is_without : Kind → Bool
is_without (Word words.Without) = true
is_without kind = false

-- the word ROWID
abbrev pub is_rowid : Kind → Bool
is_rowid (Word words.Rowid) = true
is_rowid kind = false

-- the word STRICT
abbrev pub is_strict : Kind → Bool
is_strict (Word words.Strict) = true
is_strict kind = false

-- a word that begins the expression of a generated column
abbrev pub is_computed : Kind → Bool
is_computed (Word words.Generated) = true
is_computed (Word words.As) = true
is_computed kind = false

-- a word that begins a table constraint
abbrev pub begins_constraint : Kind → Bool
begins_constraint (Word words.Constraint) = true
begins_constraint (Word words.Primary) = true
begins_constraint (Word words.Unique) = true
begins_constraint (Word words.Check) = true
begins_constraint (Word words.Foreign) = true
begins_constraint kind = false

-- a word that begins a constraint of a column, behind its type
abbrev pub ends_type : Kind → Bool
ends_type (Word words.Constraint) = true
ends_type (Word words.Primary) = true
ends_type (Word words.Not) = true
ends_type (Word words.Null) = true
ends_type (Word words.Unique) = true
ends_type (Word words.Check) = true
ends_type (Word words.Default) = true
ends_type (Word words.Collate) = true
ends_type (Word words.References) = true
ends_type (Word words.Generated) = true
ends_type (Word words.As) = true
ends_type kind = false
