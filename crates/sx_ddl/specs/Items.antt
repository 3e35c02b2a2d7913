-- The items of a table's text: what stands between its parentheses, separated by commas.
use Rattle.std.specs.Prelude.{ℕ, zero, suc, ◌+◌, ◌-◌, ◌==◌, Bool, false, not, ◌&&◌, ◌||◌, if◌then◌else◌, List, [], ◌∷◌, ◌++◌, length, take, drop, slice_get, Option, None, Some, Result, Ok, Err}
use Rattle.std.specs.List.{list_any}
use Rattle.sx_ddl.specs.declared.token.Kind.{Kind}
use Rattle.sx_ddl.specs.declared.token.Token.{Token}
use Rattle.sx_ddl.specs.declared.token.End.{End}
use Rattle.sx_ddl.specs.declared.column.Column.{Column}
use Rattle.sx_ddl.specs.declared.items.Items.{Items}
use Rattle.sx_ddl.specs.declared.refused.DdlRefused.{DdlRefused}
use Rattle.sx_ddl.specs.declared.refused.DdlRefused.TheVariants.{Unknown, Generated}
use Rattle.sx_ddl.specs.Kinds.{opens, closes, separates, is_word, is_name, is_integer, is_primary, is_key, is_desc, is_computed, begins_constraint, ends_type}

-- ---- where an item ends

-- how many parentheses are open behind a token
abbrev pub depth_behind : ℕ → Kind → ℕ
depth_behind depth kind = if opens kind then depth + 1 else (if closes kind then depth - 1 else depth)

-- an item ends at a comma or a closing parenthesis outside its own parentheses
abbrev pub ends_item : ℕ → Kind → Bool
ends_item depth kind = depth == 0 && (closes kind || separates kind)

-- how many tokens stand before the one that ends an item, with those that are counted already
unfoldable pub item_len : ℕ → ℕ → List Token → ℕ
item_len depth counted [] = counted
item_len depth counted (token ∷ tokens) =
    if ends_item depth token.kind then counted
    else item_len (depth_behind depth token.kind) (counted + 1) tokens

-- a token there is that passes
abbrev pub is_some_token : (Kind → Bool) → Option Token → Bool
is_some_token passes None = false
is_some_token passes (Some token) = passes token.kind

-- the token at this place passes
abbrev pub is_at : (Kind → Bool) → ℕ → List Token → Bool
is_at passes place tokens = is_some_token passes (slice_get tokens place)

-- a closing parenthesis stands at the front
abbrev pub begins_closed : List Token → Bool
begins_closed [] = false
begins_closed (token ∷ tokens) = closes token.kind

-- the item at the front is ended by a closing parenthesis
unfoldable pub ends_closed : List Token → Bool
ends_closed tokens = begins_closed (drop (item_len 0 0 tokens) tokens)

-- ---- columns

-- a kind that stands outside parentheses
abbrev pub outer_kind : ℕ → Kind → List Kind
outer_kind depth kind = if depth == 0 then kind ∷ [] else []

-- what stands outside the parentheses of an item; an opening parenthesis stands for all up to its closing one
unfoldable pub outside : ℕ → List Token → List Kind
outside depth [] = []
outside depth (token ∷ tokens) =
    outer_kind depth token.kind ++ outside (depth_behind depth token.kind) tokens

-- a kind there is that passes
abbrev pub is_kind : (Kind → Bool) → Option Kind → Bool
is_kind passes None = false
is_kind passes (Some kind) = passes kind

-- the kind at this place passes, where there is one
abbrev pub passes_at : (Kind → Bool) → ℕ → List Kind → Bool
passes_at passes place kinds = is_kind passes (slice_get kinds place)

-- the words PRIMARY KEY stand here, and DESC doesn't follow
abbrev pub begins_key : List Kind → Bool
begins_key kinds = passes_at is_primary 0 kinds && passes_at is_key 1 kinds && not (passes_at is_desc 2 kinds)

-- the words PRIMARY KEY stand somewhere without DESC behind them
unfoldable pub has_key : List Kind → Bool
has_key [] = false
has_key (kind ∷ kinds) = begins_key (kind ∷ kinds) || has_key kinds

-- a type goes on: with a word that begins no constraint
abbrev pub continues_type : Kind → Bool
continues_type kind = is_word kind && not (ends_type kind)

-- the type is the one word INTEGER, and no parenthesis follows
abbrev pub has_integer_type : List Kind → Bool
has_integer_type kinds = passes_at is_integer 0 kinds && not (passes_at continues_type 1 kinds) && not (passes_at opens 1 kinds)

-- a column of this name, with what follows the name outside parentheses
abbrev pub column_of : Token → List Kind → Column
column_of name kinds = record { name = name; integer = has_integer_type kinds; key = has_key kinds }

-- ---- table constraints

-- the words PRIMARY KEY stand here and then one name alone in parentheses
abbrev pub begins_sole_key : List Token → Bool
begins_sole_key tokens =
    is_at is_primary 0 tokens && is_at is_key 1 tokens && is_at opens 2 tokens && is_at is_name 3 tokens
    && ends_closed (drop 3 tokens)

-- the name that the front of these tokens has as its only key, outside parentheses
abbrev pub sole_key : ℕ → List Token → List Token
sole_key depth tokens = if depth == 0 && begins_sole_key tokens then take 1 (drop 3 tokens) else []

-- the names that stand alone in the parentheses of PRIMARY KEY, outside the parentheses of a table constraint
unfoldable pub keys_of : ℕ → List Token → List Token
keys_of depth [] = []
keys_of depth (token ∷ tokens) =
    sole_key depth (token ∷ tokens) ++ keys_of (depth_behind depth token.kind) tokens

-- ---- the list

-- the columns of a table, and the names that table constraints have as their only key
pub record Found : Type 0 where
  pub columns : List Column
  pub keys : List Token

-- what was read
abbrev pub found_by : Items → Found
found_by items = record { columns = items.columns.items; keys = items.keys.items }

-- a column more
abbrev pub with_column : Found → Column → Found
with_column found column = record { columns = found.columns ++ column ∷ []; keys = found.keys }

-- more names of keys
abbrev pub with_keys : Found → List Token → Found
with_keys found keys = record { columns = found.columns; keys = found.keys ++ keys }

-- a column more, where it isn't generated
unfoldable pub column_behind : Found → Token → List Kind → Result Found DdlRefused
column_behind found name kinds = if list_any is_computed kinds then Err Generated else Ok (with_column found (column_of name kinds))

-- an item more: a table constraint, or a column whose name comes first
unfoldable pub found_behind : Found → Token → List Token → Result Found DdlRefused
found_behind found first item =
    if not (is_name first.kind) then Err (Unknown first.at)
    else (if begins_constraint first.kind then Ok (with_keys found (keys_of 0 item))
    else column_behind found first (outside 0 (drop 1 item)))

-- the items of a list, and the tokens behind it
pub record Listed : Type 0 where
  pub found : Found
  pub rest : List Token

-- a list closed by a token: at least one item is a column
abbrev pub closed : End → Found → List Token → Result Listed DdlRefused
closed end found [] = Err (Unknown end.at)
closed end found (token ∷ tokens) =
    if length found.columns == 0 then Err (Unknown token.at) else Ok (record { found = found; rest = tokens })

-- what follows an item
abbrev pub then_items : Result Found DdlRefused → (Found → Result Listed DdlRefused) → Result Listed DdlRefused
then_items (Err refused) next = Err refused
then_items (Ok found) next = next found

-- the items from here on, but for as many tokens as were read
unfoldable pub items_from : End → ℕ → Found → List Token → Result Listed DdlRefused
items_from end read found [] = Err (Unknown end.at)
items_from end (suc read) found (token ∷ tokens) = items_from end read found tokens
items_from end zero found (token ∷ tokens) =
    then_items (found_behind found token (take (item_len 0 0 (token ∷ tokens)) (token ∷ tokens))) (λ more.
    if ends_closed (token ∷ tokens) then closed end more (drop (item_len 0 0 (token ∷ tokens)) (token ∷ tokens))
    else items_from end (item_len 0 0 (token ∷ tokens)) more tokens)

-- no items
abbrev pub nothing : Found
nothing = record { columns = []; keys = [] }
