-- Options token by token.
use Rattle.std.proofs.Common.{◌≡◌, ℕ, ◌+◌, ◌<◌, ◌≤◌, Bool, not, ◌&&◌, if◌then◌else◌, List, length, drop, get_or, refl, ap, sym, ◌∙◌, Some, None, Result, Ok, Err}
use Rattle.std.proofs.Math.ListN.{drop_of_length-le}
use Rattle.std.proofs.lemmas.List.{at_drop_more}
use Rattle.sx_ddl.specs.declared.token.Token.{Token}
use Rattle.sx_ddl.specs.declared.token.End.{End}
use Rattle.sx_ddl.specs.declared.options.Due.{Due}
use Rattle.sx_ddl.specs.declared.refused.DdlRefused.{DdlRefused}
use Rattle.sx_ddl.specs.declared.refused.DdlRefused.TheVariants.{Unknown}
use Rattle.sx_ddl.specs.Options.{due_behind, may_end, wants_rowid, next_rowid, rowid_behind}

-- a token that fits
pub option_fits : (end : End) (due next : Due) (rowid kept : Bool) (tokens : List Token) (token : Token) (place : ℕ) (all : Result Bool DdlRefused) →
    all ≡ rowid_behind end due rowid (drop place tokens) → place < length tokens →
    due_behind due (get_or tokens place token).kind ≡ Some next → kept ≡ (rowid && not (wants_rowid due)) →
    all ≡ rowid_behind end next kept (drop (place + 1) tokens)
unfolding rowid_behind
option_fits end due next rowid kept tokens token place all is h fits keeps =
    is ∙ at_drop_more (rowid_behind end due rowid) tokens place token h
    ∙ ap (λ d. next_rowid (get_or tokens place token) d (λ n. rowid_behind end n (rowid && not (wants_rowid due)) (drop (place + 1) tokens))) fits
    ∙ ap (λ k. rowid_behind end next k (drop (place + 1) tokens)) (sym keeps)

-- a token that doesn't fit
pub option_refused : (end : End) (due : Due) (rowid : Bool) (tokens : List Token) (token : Token) (place : ℕ) (all : Result Bool DdlRefused) →
    all ≡ rowid_behind end due rowid (drop place tokens) → place < length tokens →
    due_behind due (get_or tokens place token).kind ≡ None →
    all ≡ Err (Unknown (get_or tokens place token).at)
unfolding rowid_behind
option_refused end due rowid tokens token place all is h fits =
    is ∙ at_drop_more (rowid_behind end due rowid) tokens place token h
    ∙ ap (λ d. next_rowid (get_or tokens place token) d (λ n. rowid_behind end n (rowid && not (wants_rowid due)) (drop (place + 1) tokens))) fits

-- no token more
pub option_end : (end : End) (due : Due) (rowid : Bool) (tokens : List Token) (place : ℕ) → length tokens ≤ place →
    rowid_behind end due rowid (drop place tokens) ≡ (if may_end due && end.whole then Ok rowid else Err (Unknown end.at))
unfolding rowid_behind
option_end end due rowid tokens place h = rw (drop_of_length-le tokens h) refl
