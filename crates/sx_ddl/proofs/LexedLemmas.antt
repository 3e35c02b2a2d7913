-- The tokens of a text piece by piece.
use Rattle.std.proofs.Common.{◌≡◌, ℕ, zero, suc, ◌+◌, ◌-◌, ◌<◌, ◌≤◌, true, false, List, [], ◌∷◌, ◌++◌, length, drop, get_or, refl, ap, ◌∙◌, arith, append_assoc}
use Rattle.std.proofs.Math.ListN.{drop_of_length-le}
use Rattle.std.proofs.lemmas.List.{at_drop_more, length-drop, drop-drop}
use Rattle.sx_ddl.specs.declared.token.Kind.{Kind}
use Rattle.sx_ddl.specs.declared.token.Token.{Token}
use Rattle.sx_ddl.specs.declared.piece.Piece.TheVariants as pieces
use Rattle.sx_ddl.specs.Tokens.{Lexed, piece_of, with_piece, with_tokens, ends_at, lexed_from}

-- bytes that were read are passed over
pub passed_over : (read at : ℕ) (text : List ℕ) → read ≤ length text → lexed_from read at text ≡ lexed_from 0 (at + read) (drop read text)
unfolding lexed_from
passed_over zero at text h = ap (λ place. lexed_from 0 place text) (omega arith)
passed_over (suc read) at [] h = absurd (omega arith)
passed_over (suc read) at (byte ∷ bytes) h =
    passed_over read (at + 1) bytes (omega arith) ∙ ap (λ place. lexed_from 0 place (drop read bytes)) (omega arith)

-- the rest at a place that isn't the end
pub at_piece : (at : ℕ) (text : List ℕ) → at < length text →
    lexed_from 0 at (drop at text) ≡ with_piece at (piece_of (drop at text)) (λ len. lexed_from (len - 1) (at + 1) (drop (at + 1) text))
unfolding lexed_from
at_piece at text h =
    let whole : drop at text ≡ get_or text at 0 ∷ drop (at + 1) text = at_drop_more (λ rest. rest) text at 0 h in rw whole refl

-- what is read behind a piece
pub behind_piece : (at len : ℕ) (text : List ℕ) → 0 < len → len ≤ length text - at →
    lexed_from (len - 1) (at + 1) (drop (at + 1) text) ≡ lexed_from 0 (at + len) (drop (at + len) text)
behind_piece at len text some within =
    let more : len - 1 ≤ length (drop (at + 1) text) = simp length-drop (omega arith) in
    let place : at + 1 + (len - 1) ≡ at + len = omega arith in
    passed_over (len - 1) (at + 1) (drop (at + 1) text) more
    ∙ rw (drop-drop (len - 1) (at + 1) text, place) refl

-- tokens before tokens before others
pub with_both : (first second : List Token) (rest : Lexed) → with_tokens first (with_tokens second rest) ≡ with_tokens (first ++ second) rest
unfolding with_tokens
with_both first second rest = simp append_assoc

pub with_none : (rest : Lexed) → with_tokens [] rest ≡ rest
unfolding with_tokens
with_none rest = refl

-- a blank at a place
pub step_blank : (at len : ℕ) (text : List ℕ) → piece_of (drop at text) ≡ pieces.Blank len → at < length text → 0 < len → len ≤ length text - at →
    lexed_from 0 at (drop at text) ≡ lexed_from 0 (at + len) (drop (at + len) text)
step_blank at len text is h some within = at_piece at text h ∙ ap (λ piece. with_piece at piece (λ n. lexed_from (n - 1) (at + 1) (drop (at + 1) text))) is ∙ behind_piece at len text some within

-- a token at a place
pub step_lexeme : (at len : ℕ) (kind : Kind) (text : List ℕ) (front : List Token) → piece_of (drop at text) ≡ pieces.Lexeme kind len → at < length text → 0 < len → len ≤ length text - at →
    with_tokens front (lexed_from 0 at (drop at text)) ≡ with_tokens (front ++ record { at = at; len = len; kind = kind } ∷ []) (lexed_from 0 (at + len) (drop (at + len) text))
step_lexeme at len kind text front is h some within =
    ap (with_tokens front) (at_piece at text h ∙ ap (λ piece. with_piece at piece (λ n. lexed_from (n - 1) (at + 1) (drop (at + 1) text))) is ∙ ap (with_tokens (record { at = at; len = len; kind = kind } ∷ [])) (behind_piece at len text some within))
    ∙ with_both front _ _

-- a quoted name without an end at a place
pub step_unended : (at : ℕ) (text : List ℕ) → piece_of (drop at text) ≡ pieces.Unended → at < length text →
    lexed_from 0 at (drop at text) ≡ ends_at at false
step_unended at text is h = at_piece at text h ∙ ap (λ piece. with_piece at piece (λ n. lexed_from (n - 1) (at + 1) (drop (at + 1) text))) is

-- the end of the text
pub step_end : (at : ℕ) (text : List ℕ) → length text ≤ at → lexed_from 0 at (drop at text) ≡ ends_at at true
unfolding lexed_from
step_end at text h = rw (drop_of_length-le text h) refl
