-- Names byte by byte.
use Rattle.std.proofs.Common.{◌≡◌, ℕ, ◌+◌, ◌<◌, ◌≤◌, Bool, true, false, not, ◌&&◌, ◌==◌, if◌then◌else◌, List, [], ◌∷◌, ◌++◌, length, take, drop, slice_index, ap, sym, ◌∙◌, append_assoc, append-nil, arith}
use Rattle.std.proofs.lemmas.List.{at_drop_more, drop_all, take_all}
use Rattle.sx_ddl.specs.Shapes.{undoubled}

-- what stands behind the end
pub drop_past : (bytes : List ℕ) (n : ℕ) → length bytes ≤ n → drop (length bytes) bytes ≡ drop n bytes
drop_past bytes n h = drop_all (length bytes) bytes (omega arith) ∙ sym (drop_all n bytes h)

-- as many bytes as there are
pub take_past : (bytes : List ℕ) (n : ℕ) → length bytes ≤ n → bytes ≡ take n bytes
take_past bytes n h = sym (take_all n bytes h)

-- a byte of a quoted name
pub undoubled_next : (mark : ℕ) (bytes : List ℕ) (marked second behind : Bool) (place : ℕ) (front now : List ℕ) → place < length bytes →
    second ≡ (marked && slice_index bytes place == mark) → now ≡ front ++ (if second then [] else slice_index bytes place ∷ []) →
    behind ≡ (not second && slice_index bytes place == mark) →
    front ++ undoubled mark marked (drop place bytes) ≡ now ++ undoubled mark behind (drop (place + 1) bytes)
unfolding undoubled
undoubled_next mark bytes marked true behind place front now h is more next =
    ap (λ rest. front ++ rest) (at_drop_more (undoubled mark marked) bytes place 0 h
    ∙ ap (λ b. if b then undoubled mark false (drop (place + 1) bytes) else slice_index bytes place ∷ undoubled mark (slice_index bytes place == mark) (drop (place + 1) bytes)) (sym is))
    ∙ ap (λ f. f ++ undoubled mark false (drop (place + 1) bytes)) (sym (append-nil front) ∙ sym more)
    ∙ ap (λ b. now ++ undoubled mark b (drop (place + 1) bytes)) (sym next)
undoubled_next mark bytes marked false behind place front now h is more next =
    ap (λ rest. front ++ rest) (at_drop_more (undoubled mark marked) bytes place 0 h
    ∙ ap (λ b. if b then undoubled mark false (drop (place + 1) bytes) else slice_index bytes place ∷ undoubled mark (slice_index bytes place == mark) (drop (place + 1) bytes)) (sym is))
    ∙ sym (append_assoc front (slice_index bytes place ∷ []) _)
    ∙ ap (λ f. f ++ undoubled mark (slice_index bytes place == mark) (drop (place + 1) bytes)) (sym more)
    ∙ ap (λ b. now ++ undoubled mark b (drop (place + 1) bytes)) (sym next)

-- no byte more
pub undoubled_end : (mark : ℕ) (bytes : List ℕ) (marked : Bool) (place : ℕ) (front : List ℕ) → length bytes ≤ place → front ++ undoubled mark marked (drop place bytes) ≡ front
unfolding undoubled
undoubled_end mark bytes marked place front h = rw (drop_all place bytes h) (append-nil front)
