-- A text that is written line by line: what the sink has taken, and the lines that are still to come.
use Rattle.std.proofs.Common.{◌≡◌, ℕ, ◌+◌, ◌<◌, ◌≤◌, true, List, [], ◌++◌, length, take, Option, Result, Ok, Err, OnErr, refl, sym, ◌∙◌, ap, subst, arith, append_assoc, append-nil, length-append}
use Rattle.std.proofs.Math.Seq.{take-append_seam, take-append-add}
use Rattle.std.proofs.lemmas.List.{take-append-le}
use Rattle.std.proofs.KnownBytes.{Appends-nil, Appends-trans}
use Rattle.std.specs.Io.KnownBytes.{Appends}
use Rattle.sx_lines.specs.Lines.{text_of, IsNextLine, IsNextPiece, AppendsSome}

-- of the text of all lines a front was taken, and the text of the rest is still to come
pub record IsWritten (old now : Option (List ℕ)) (whole rest : List (List ℕ)) : Type 0 where
  pub front : List ℕ
  pub appended : Appends old now front
  pub joined : text_of whole ≡ front ++ text_of rest

pub written_none : (old : Option (List ℕ)) (whole : List (List ℕ)) → IsWritten old old whole whole
written_none old whole = record { front = []; appended = Appends-nil old; joined = refl }

-- the next lines were taken too
pub written_more : (old now new : Option (List ℕ)) (whole rest later : List (List ℕ)) (piece : List ℕ) → IsWritten old now whole rest → IsNextPiece rest later piece true
    → Appends now new piece → IsWritten old new whole later
written_more old now new whole rest later piece so_far next more = record {
  front = so_far.front ++ piece;
  appended = Appends-trans old now new so_far.front piece so_far.appended more;
  joined = so_far.joined ∙ ap (λ l. so_far.front ++ l) next.0 ∙ sym (append_assoc so_far.front piece (text_of later));
}

-- the lines that were left were taken too
pub written_last : (old now new : Option (List ℕ)) (whole rest : List (List ℕ)) (piece : List ℕ) → IsWritten old now whole rest → text_of rest ≡ piece
    → Appends now new piece → Appends old new (text_of whole)
written_last old now new whole rest piece so_far last more =
    let same : text_of whole ≡ so_far.front ++ piece = so_far.joined ∙ ap (λ l. so_far.front ++ l) last in
    subst (Appends old new) (sym same) (Appends-trans old now new so_far.front piece so_far.appended more)

-- what was taken is a front of the text
pub written_some : (old now : Option (List ℕ)) (whole rest : List (List ℕ)) → IsWritten old now whole rest → AppendsSome old now (text_of whole)
written_some old now whole rest so_far =
    let front = so_far.front in
    let taken : take (length front) (text_of whole) ≡ front = ap (take (length front)) so_far.joined ∙ take-append_seam front (text_of rest) in
    let within : length front ≤ length (text_of whole) = omega (arith, ap length so_far.joined, length-append front (text_of rest)) in
    (length front, within, subst (Appends old now) (sym taken) so_far.appended)

-- of the next bytes a front was taken too
pub written_front : (old now new : Option (List ℕ)) (whole rest : List (List ℕ)) (piece behind : List ℕ) → IsWritten old now whole rest → text_of rest ≡ piece ++ behind
    → AppendsSome now new piece → AppendsSome old new (text_of whole)
written_front old now new whole rest piece behind so_far next some =
    let front = so_far.front in
    let n = some.0 in
    let taken : take (length front + n) (text_of whole) ≡ front ++ take n piece =
    ap (take (length front + n)) so_far.joined
    ∙ take-append-add front (text_of rest) n
    ∙ ap (λ l. front ++ take n l) next
    ∙ ap (λ l. front ++ l) (take-append-le n piece behind some.1) in
    let within : length front + n ≤ length (text_of whole) =
    omega (arith, some.1, ap length so_far.joined, ap length next, length-append front (text_of rest), length-append piece behind) in
    (length front + n, within, subst (Appends old new) (sym taken) (Appends-trans old now new front (take n piece) so_far.appended some.2))

-- what holds anyway holds on an error
pub on_err : {T E P : Type 0} → (r : Result T E) → P → OnErr r P
on_err (Ok x) p = tt
on_err (Err e) p = p

-- of the lines that were left a front was taken too
pub written_end : {T E : Type 0} → (r : Result T E) → (old now new : Option (List ℕ)) (whole rest : List (List ℕ)) (piece : List ℕ) → IsWritten old now whole rest → text_of rest ≡ piece
    → OnErr r (AppendsSome now new piece) → OnErr r (AppendsSome old new (text_of whole))
written_end (Ok x) old now new whole rest piece so_far last some = tt
written_end (Err e) old now new whole rest piece so_far last some = written_front old now new whole rest piece [] so_far (last ∙ sym (append-nil piece)) some

-- ---- a piece that is collected

-- some lines were put into a piece, and the others are to come
pub record IsCollected (old now : List (List ℕ)) (piece : List ℕ) : Type 0 where
  pub joined : text_of old ≡ piece ++ text_of now
  pub most : length now ≤ length old
  pub fewer : 0 < length piece → length now < length old

pub collected_none : (old : List (List ℕ)) (piece : List ℕ) → piece ≡ [] → IsCollected old old piece
collected_none old piece empty = rw empty (record {
  joined = refl;
  most = omega arith;
  fewer = λ some. absurd (omega arith);
})

pub collected_more : (old now new : List (List ℕ)) (piece line more : List ℕ) → IsCollected old now piece → IsNextLine now new line true → more ≡ piece ++ line
    → IsCollected old new more
collected_more old now new piece line more so_far next is =
    let count : length now ≡ length new + 1 = omega (arith, ap length next.1) in
    record {
      joined = so_far.joined ∙ ap (λ l. piece ++ text_of l) next.1 ∙ ap (λ l. piece ++ (l ++ text_of new)) (sym next.2) ∙ sym (append_assoc piece line (text_of new)) ∙ ap (λ l. l ++ text_of new) (sym is);
      most = omega (arith, so_far.most, count);
      fewer = λ there. omega (arith, so_far.most, count);
    }

-- a piece that is long enough
pub collected_some : (old now : List (List ℕ)) (piece : List ℕ) → IsCollected old now piece → 0 < length piece → IsNextPiece old now piece true
collected_some old now piece so_far some = (so_far.joined, so_far.fewer some)

-- no line is left
pub collected_all : (old now : List (List ℕ)) (piece : List ℕ) → IsCollected old now piece → now ≡ [] → text_of old ≡ piece
collected_all old now piece so_far none = so_far.joined ∙ ap (λ l. piece ++ text_of l) none ∙ append-nil piece
