-- The tokens of a text of SQL: words, quoted names and single bytes, between blanks and comments.
use Rattle.std.specs.Prelude.{ℕ, zero, suc, ◌+◌, ◌-◌, ◌==◌, Bool, true, false, not, ◌&&◌, ◌||◌, nat_lt, nat_le, if◌then◌else◌, List, [], ◌∷◌, ◌++◌, length, take, drop, slice_index, Option, None, Some}
use Rattle.std.specs.List.{prefix_len}
use Rattle.sx_ddl.specs.Keywords.{keyword_of}
use Rattle.sx_ddl.specs.declared.token.Kind.TheVariants.{Word, Quoted, Mark}
use Rattle.sx_ddl.specs.declared.token.Token.{Token}
use Rattle.sx_ddl.specs.declared.token.End.{End}
use Rattle.sx_ddl.specs.declared.tokens.Tokens.{Tokens}
use Rattle.sx_ddl.specs.declared.piece.Piece.{Piece}
use Rattle.sx_ddl.specs.declared.piece.Piece.TheVariants as pieces

-- ---- bytes

-- a space, tab, line feed, form feed or carriage return
abbrev pub is_blank : ℕ → Bool
is_blank byte = byte == 32 || byte == 9 || byte == 10 || byte == 12 || byte == 13

-- an ASCII letter, an underscore, or a byte from 0x80 up
abbrev pub begins_word : ℕ → Bool
begins_word byte = (nat_le 97 byte && nat_le byte 122) || (nat_le 65 byte && nat_le byte 90) || byte == 95 || nat_le 128 byte

-- such a byte, an ASCII digit or a dollar sign
abbrev pub continues_word : ℕ → Bool
continues_word byte = begins_word byte || (nat_le 48 byte && nat_le byte 57) || byte == 36

-- a double quote, a backquote or an apostrophe
abbrev pub is_quote : ℕ → Bool
is_quote byte = byte == 34 || byte == 96 || byte == 39

-- ---- what stands at the front of a text

-- how many bytes stand before the first that is this one, or how many there are
abbrev pub len_before : ℕ → List ℕ → ℕ
len_before mark bytes = prefix_len (λ byte. not (byte == mark)) bytes

-- the place behind the `*/` that ends a comment, or the end; `starred` where a `*` stands right before
unfoldable pub comment_end : Bool → ℕ → List ℕ → ℕ
comment_end starred at [] = at
comment_end starred at (byte ∷ bytes) =
    if starred && byte == 47 then at + 1 else comment_end (byte == 42) (at + 1) bytes

-- the place behind the mark that ends a quoted name, in which a mark is written twice; `marked` where a mark stands right
-- before that is no second one
unfoldable pub quote_end : ℕ → Bool → ℕ → List ℕ → Option ℕ
quote_end mark marked at [] = if marked then Some at else None
quote_end mark marked at (byte ∷ bytes) =
    if marked && not (byte == mark) then Some at
    else quote_end mark (not marked && byte == mark) (at + 1) bytes

-- a quoted name that ends at a place, or has no end
abbrev pub quoted_piece : Option ℕ → Piece
quoted_piece None = pieces.Unended
quoted_piece (Some len) = pieces.Lexeme Quoted len

-- the place behind the first closing bracket
unfoldable pub bracket_end : List ℕ → Option ℕ
bracket_end bytes = if nat_lt (len_before 93 bytes) (length bytes) then Some (len_before 93 bytes + 1) else None

-- the length of the word at the front
unfoldable pub word_len : List ℕ → ℕ
word_len bytes = 1 + prefix_len continues_word (drop 1 bytes)

-- what stands at the front of a text that isn't empty, and how long it is: a blank, a comment up to the end of its line or
-- between `/*` and `*/`, a word, a quoted name, or a byte by itself
unfoldable pub piece_of : List ℕ → Piece
piece_of bytes =
    let first = slice_index bytes 0 in
    let second = slice_index bytes 1 in
    if is_blank first then pieces.Blank 1
    else (if first == 45 && second == 45 then pieces.Blank (len_before 10 bytes)
    else (if first == 47 && second == 42 then pieces.Blank (comment_end false 2 (drop 2 bytes))
    else (if begins_word first then pieces.Lexeme (Word (keyword_of (take (word_len bytes) bytes))) (word_len bytes)
    else (if is_quote first then quoted_piece (quote_end first false 1 (drop 1 bytes))
    else (if first == 91 then quoted_piece (bracket_end bytes)
    else pieces.Lexeme (Mark first) 1)))))

-- ---- all tokens

-- the tokens of a text in order, and the end of the reading
pub record Lexed : Type 0 where
  pub tokens : List Token
  pub end : End

-- tokens before others
unfoldable pub with_tokens : List Token → Lexed → Lexed
with_tokens tokens lexed = record { tokens = tokens ++ lexed.tokens; end = lexed.end }

-- the reading ends at a place, behind the text or at a quoted name without an end
abbrev pub ends_at : ℕ → Bool → Lexed
ends_at at whole = record { tokens = []; end = record { at = at; whole = whole } }

-- a piece at a place, and what is read behind it
abbrev pub with_piece : ℕ → Piece → (ℕ → Lexed) → Lexed
with_piece at pieces.Unended behind = ends_at at false
with_piece at (pieces.Blank len) behind = behind len
with_piece at (pieces.Lexeme kind len) behind = with_tokens (record { at = at; len = len; kind = kind } ∷ []) (behind len)

-- the tokens of a text whose first byte stands at a place, but for as many bytes as were read
unfoldable pub lexed_from : ℕ → ℕ → List ℕ → Lexed
lexed_from read at [] = ends_at at true
lexed_from (suc read) at (byte ∷ bytes) = lexed_from read (at + 1) bytes
lexed_from zero at (byte ∷ bytes) =
    with_piece at (piece_of (byte ∷ bytes)) (λ len. lexed_from (len - 1) (at + 1) bytes)

-- the tokens of a text
unfoldable pub lexed : List ℕ → Lexed
lexed text = lexed_from 0 0 text

-- tokens as they were read
abbrev pub lexed_by : Tokens → Lexed
lexed_by read = record { tokens = read.tokens.items; end = read.end }
