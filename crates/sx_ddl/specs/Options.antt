-- What stands behind the list of a table's text.
use Rattle.std.specs.Prelude.{Bool, true, false, not, ◌&&◌, if◌then◌else◌, List, [], ◌∷◌, Option, None, Some, Result, Ok, Err}
use Rattle.sx_ddl.specs.declared.token.Kind.{Kind}
use Rattle.sx_ddl.specs.declared.token.Token.{Token}
use Rattle.sx_ddl.specs.declared.token.End.{End}
use Rattle.sx_ddl.specs.declared.options.Due.{Due}
use Rattle.sx_ddl.specs.declared.options.Due.TheVariants.{First, Another, Rowid, Separator, Nothing}
use Rattle.sx_ddl.specs.declared.refused.DdlRefused.{DdlRefused}
use Rattle.sx_ddl.specs.declared.refused.DdlRefused.TheVariants.{Unknown}
use Rattle.sx_ddl.specs.Kinds.{separates, ends_statement, is_without, is_rowid, is_strict}

-- STRICT is an option by itself, and ROWID is to follow WITHOUT
abbrev pub behind_option : Kind → Option Due
behind_option kind = if is_strict kind then Some Separator else (if is_without kind then Some Rowid else None)

-- a semicolon is the last token
abbrev pub behind_semicolon : Kind → Option Due
behind_semicolon kind = if ends_statement kind then Some Nothing else None

-- the first of two, where it is there
abbrev pub or_else : Option Due → Option Due → Option Due
or_else None second = second
or_else (Some due) second = Some due

-- what is due behind a token, where the token fits what was due
unfoldable pub due_behind : Due → Kind → Option Due
due_behind First kind = or_else (behind_option kind) (behind_semicolon kind)
due_behind Another kind = behind_option kind
due_behind Rowid kind = if is_rowid kind then Some Separator else None
due_behind Separator kind = if separates kind then Some Another else behind_semicolon kind
due_behind Nothing kind = None

-- the text may end here: neither behind a comma nor behind WITHOUT
abbrev pub may_end : Due → Bool
may_end First = true
may_end Another = false
may_end Rowid = false
may_end Separator = true
may_end Nothing = true

-- ROWID was due
abbrev pub wants_rowid : Due → Bool
wants_rowid First = false
wants_rowid Another = false
wants_rowid Rowid = true
wants_rowid Separator = false
wants_rowid Nothing = false

-- a token that fits, and what follows it
abbrev pub next_rowid : Token → Option Due → (Due → Result Bool DdlRefused) → Result Bool DdlRefused
next_rowid token None behind = Err (Unknown token.at)
next_rowid token (Some due) behind = behind due

-- whether the table has rowids, as the tokens behind the list say it; so far it has
unfoldable pub rowid_behind : End → Due → Bool → List Token → Result Bool DdlRefused
rowid_behind end due rowid [] = if may_end due && end.whole then Ok rowid else Err (Unknown end.at)
rowid_behind end due rowid (token ∷ tokens) = next_rowid token (due_behind due token.kind) (λ next. rowid_behind end next (rowid && not (wants_rowid due)) tokens)
