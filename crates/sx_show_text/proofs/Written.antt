-- The values of a row, one after the other.
use Rattle.std.proofs.Common.{◌≡◌, ℕ, ℤ, ◌+◌, List, [], ◌∷◌, ◌++◌, Option, sym, ap, ◌∙◌, append_assoc, append-nil}
use Rattle.sx_bytes.specs.declared.encoding.Encoding.{Encoding}
use Rattle.sx_record.specs.Content.{Content}
use Rattle.sx_show_text.specs.Columns.{column_text, is_alias, values_text}

-- a value more
pub values_more : (encoding : Encoding) (rowid : Option ℤ) (alias : Option ℕ) (place : ℕ) (content : Content) (contents rest : List Content) (line more all : List ℕ)
    → contents ≡ content ∷ rest → line ++ values_text encoding rowid alias place contents ≡ all
    → more ≡ line ++ 32 ∷ column_text encoding rowid (is_alias alias place) content
    → more ++ values_text encoding rowid alias (place + 1) rest ≡ all
unfolding values_text
values_more encoding rowid alias place content contents rest line more all first is added =
    ap (λ l. l ++ values_text encoding rowid alias (place + 1) rest) added
    ∙ append_assoc line (32 ∷ column_text encoding rowid (is_alias alias place) content) (values_text encoding rowid alias (place + 1) rest)
    ∙ ap (λ l. line ++ values_text encoding rowid alias place l) (sym first)
    ∙ is

-- no value is left
pub values_end : (encoding : Encoding) (rowid : Option ℤ) (alias : Option ℕ) (place : ℕ) (contents : List Content) (line all : List ℕ)
    → contents ≡ [] → line ++ values_text encoding rowid alias place contents ≡ all → line ≡ all
unfolding values_text
values_end encoding rowid alias place contents line all none is =
    sym (append-nil line) ∙ ap (λ l. line ++ values_text encoding rowid alias place l) (sym none) ∙ is
