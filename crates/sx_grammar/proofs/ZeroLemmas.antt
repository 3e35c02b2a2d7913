-- No form begins with four zero bytes.
use Rattle.std.proofs.Common.{◌≡◌, ℕ, ◌-◌, ◌≤◌, Bool, true, false, nat_lt, if◌then◌else◌, List, ◌∷◌, length, take, drop, Some, None, refl, arith}
use Rattle.sx_bytes.specs.Varints.{varint_at, shortest, short_at}
use Rattle.sx_grammar.specs.declared.shape.ShapeKey.{ShapeKey}
use Rattle.sx_grammar.specs.Shorts.{short_field}
use Rattle.sx_grammar.specs.Full.{full_at}
use Rattle.sx_grammar.specs.Clips.{Setting, may_begin, cut_in}
use Rattle.sx_grammar.specs.Choice.{accepted_at}
use Rattle.sx_grammar.proofs.EarlyLemmas.{small_payload}
use Rattle.sx_grammar.proofs.ClipLemmas.{no_bytes_there, some_bytes_there}
use Rattle.sx_grammar.proofs.ChoiceLemmas.{accepted_none}

zero_first : (bytes : List ℕ) → short_field (0 ∷ bytes) ≡ Some (0, bytes)
unfolding short_field short_at varint_at shortest
zero_first bytes = refl

no_full : (usable : ℕ) (bytes : List ℕ) → 480 ≤ usable → full_at usable (0 ∷ bytes) ≡ None
no_full usable bytes least = small_payload usable (0 ∷ bytes) bytes 0 least (zero_first bytes) (omega arith)

no_begin : (setting : Setting) (len : ℕ) → may_begin setting len 0 0 ≡ false
unfolding may_begin
no_begin setting len = refl

cut_zero : (bytes : List ℕ) (setting : Setting) (short : Bool) → (if short then no_bytes_there else (if may_begin setting (length bytes) 0 0 then some_bytes_there (take (0 - 4) (drop 4 bytes)) else no_bytes_there)) ≡ no_bytes_there
cut_zero bytes setting true = refl
cut_zero bytes setting false = rw (no_begin setting (length bytes)) refl

no_cut : (setting : Setting) (rest : List ℕ) → cut_in setting (0 ∷ 0 ∷ 0 ∷ 0 ∷ rest) ≡ None
unfolding cut_in
no_cut setting rest = cut_zero (0 ∷ 0 ∷ 0 ∷ 0 ∷ rest) setting (nat_lt (length (0 ∷ 0 ∷ 0 ∷ 0 ∷ rest)) 4)

-- no form begins with four zero bytes
pub zeros_begin_none : (usable : ℕ) (shapes : List ShapeKey) (setting : Setting) (rest : List ℕ) → 480 ≤ usable
    → accepted_at usable shapes setting (0 ∷ 0 ∷ 0 ∷ 0 ∷ rest) ≡ None
zeros_begin_none usable shapes setting rest least =
    let bytes = 0 ∷ 0 ∷ 0 ∷ 0 ∷ rest in
    accepted_none usable shapes setting bytes (no_full usable (0 ∷ 0 ∷ 0 ∷ rest) least) (no_cut setting rest)
