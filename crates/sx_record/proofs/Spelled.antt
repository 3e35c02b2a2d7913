-- The serial types at the front of a header, one at a time, and that they are those that the bytes spell.
use Rattle.std.proofs.Common.{◌≡◌, ◌↔◌, ℕ, zero, suc, ◌<◌, ◌≤◌, List, [], ◌∷◌, length, drop, Option, Some, None, refl, sym, ap, subst, ◌∙◌, arith, length-drop}
use Rattle.std.specs.Prelude.{IsNone}
use Rattle.sx_bytes.specs.Varints.{varint_at}
use Rattle.sx_bytes.proofs.VarintLemmas.{found, found_back, none_ends}
use Rattle.sx_record.specs.Spelled.{spelled_first, spelled_within, spelled_types, AreSpelled}
use Rattle.sx_record.proofs.Columns.{some_read}

-- no number begins nothing
none_in_nothing : varint_at [] ≡ None
unfolding varint_at
none_in_nothing = refl

-- how many bytes there may be makes no difference, where they are enough
first_same : (found : Option (ℕ × ℕ)) (f g : ℕ → List (ℕ × ℕ)) → ((value read : ℕ) → found ≡ Some (value, read) → f read ≡ g read) → spelled_first found f ≡ spelled_first found g
first_same None f g same = refl
first_same (Some found) f g same = ap (λ (types : List (ℕ × ℕ)). found ∷ types) (same found.0 found.1 refl)

nothing : (more : ℕ) → spelled_within more [] ≡ []
unfolding spelled_within
nothing zero = refl
nothing (suc more) = rw none_in_nothing refl

enough : (most more : ℕ) (bytes : List ℕ) → length bytes ≤ most → length bytes ≤ more → spelled_within most bytes ≡ spelled_within more bytes
unfolding spelled_within
enough most more [] here there = nothing most ∙ sym (nothing more)
enough zero more (byte ∷ bytes) here there = absurd (omega arith)
enough (suc most) zero (byte ∷ bytes) here there = absurd (omega arith)
enough (suc most) (suc more) (byte ∷ bytes) here there =
    first_same (varint_at (byte ∷ bytes)) (λ len. spelled_within most (drop len (byte ∷ bytes))) (λ len. spelled_within more (drop len (byte ∷ bytes)))
    (λ value read is.
    let some = some_read (byte ∷ bytes) value read is in
    let len = length-drop read (byte ∷ bytes) in
    enough most more (drop read (byte ∷ bytes)) (omega (arith, len)) (omega (arith, len)))

-- no type ends
pub none_spelled : (bytes : List ℕ) → varint_at bytes ≡ None → spelled_types bytes ≡ []
unfolding spelled_types spelled_within
none_spelled [] none = refl
none_spelled (byte ∷ bytes) none = rw none refl

-- a type stands first
pub one_spelled : (bytes : List ℕ) (type len : ℕ) → varint_at bytes ≡ Some (type, len) → 0 < len → spelled_types bytes ≡ (type, len) ∷ spelled_types (drop len bytes)
unfolding spelled_types spelled_within
one_spelled [] type len found some = absurd (let none : None ≡ Some (type, len) = sym none_in_nothing ∙ found in cc)
one_spelled (byte ∷ bytes) type len found some =
    let left = length-drop len (byte ∷ bytes) in
    rw found
    (ap (λ (types : List (ℕ × ℕ)). (type, len) ∷ types) (enough (length bytes) (length (drop len (byte ∷ bytes))) (drop len (byte ∷ bytes)) (omega (arith, left)) (omega arith)))

-- what is listed is spelled
is_none : (found : Option (ℕ × ℕ)) → found ≡ None → IsNone found
is_none None none = refl
is_none (Some found) none = cc

there : (most : ℕ) (bytes : List ℕ) (read : Option (ℕ × ℕ)) → length bytes ≤ most → varint_at bytes ≡ read → AreSpelled (spelled_types bytes) bytes
there most bytes None few is = rw (none_spelled bytes is) ((none_ends bytes).0 (is_none (varint_at bytes) is))
there zero bytes (Some first) few is = absurd (nothing_there bytes few is)
  where
    nothing_there : (bytes : List ℕ) → length bytes ≤ 0 → varint_at bytes ≡ Some first → ⊥
    nothing_there [] few is = let none : None ≡ Some first = sym none_in_nothing ∙ is in cc
    nothing_there (byte ∷ bytes) few is = omega arith
there (suc most) bytes (Some first) few is =
    let some = some_read bytes first.0 first.1 is in
    let left = length-drop first.1 bytes in
    rw (one_spelled bytes first.0 first.1 is some)
    (found bytes first.0 first.1 is, there most (drop first.1 bytes) (varint_at (drop first.1 bytes)) (omega (arith, left)) refl)

-- what is spelled is listed
again : (types : List (ℕ × ℕ)) (bytes : List ℕ) → AreSpelled types bytes → spelled_types bytes ≡ types
again [] bytes ends = none_spelled bytes (none_of (varint_at bytes) ((none_ends bytes).1 ends))
  where
    none_of : (found : Option (ℕ × ℕ)) → IsNone found → found ≡ None
    none_of None none = refl
    none_of (Some found) none = cc
again (first ∷ others) bytes spelled =
    let read = found_back bytes first.0 first.1 spelled.0 in
    one_spelled bytes first.0 first.1 read (some_read bytes first.0 first.1 read) ∙ ap (λ (types : List (ℕ × ℕ)). first ∷ types) (again others (drop first.1 bytes) spelled.1)

pub spelled_both : (bytes : List ℕ) (types : List (ℕ × ℕ)) → (spelled_types bytes ≡ types) ↔ AreSpelled types bytes
spelled_both bytes types = (
  λ is. subst (λ (types : List (ℕ × ℕ)). AreSpelled types bytes) is (there (length bytes) bytes (varint_at bytes) (omega arith) refl),
  again types bytes,
)
