-- One byte of a comment or of a quoted name.
use Rattle.std.proofs.Common.{◌≡◌, ℕ, ◌+◌, ◌<◌, ◌≤◌, Bool, not, ◌==◌, ◌&&◌, if◌then◌else◌, List, length, drop, slice_index, refl, Some, None}
use Rattle.std.proofs.Math.ListN.{drop_of_length-le}
use Rattle.std.proofs.lemmas.List.{at_drop_more}
use Rattle.sx_ddl.specs.Tokens.{comment_end, quote_end}

-- a comment past one more byte
pub comment_step : (text : List ℕ) (starred : Bool) (at : ℕ) → at < length text → comment_end starred at (drop at text) ≡ (if starred && slice_index text at == 47 then at + 1 else comment_end (slice_index text at == 42) (at + 1) (drop (at + 1) text))
unfolding comment_end
comment_step text starred at h = at_drop_more (comment_end starred at) text at 0 h

-- a comment at the end of the text
pub comment_stop : (text : List ℕ) (starred : Bool) (at : ℕ) → length text ≤ at → comment_end starred at (drop at text) ≡ at
unfolding comment_end
comment_stop text starred at h = rw (drop_of_length-le text h) refl

-- a quoted name past one more byte
pub quote_step : (mark : ℕ) (text : List ℕ) (marked : Bool) (at : ℕ) → at < length text → quote_end mark marked at (drop at text) ≡ (if marked && not (slice_index text at == mark) then Some at else quote_end mark (not marked && slice_index text at == mark) (at + 1) (drop (at + 1) text))
unfolding quote_end
quote_step mark text marked at h = at_drop_more (quote_end mark marked at) text at 0 h

-- a quoted name at the end of the text
pub quote_stop : (mark : ℕ) (text : List ℕ) (marked : Bool) (at : ℕ) → length text ≤ at → quote_end mark marked at (drop at text) ≡ (if marked then Some at else None)
unfolding quote_end
quote_stop mark text marked at h = rw (drop_of_length-le text h) refl
