-- The columns of a candidate, one after the other.
use Rattle.std.proofs.Common.{◌≡◌, ℕ, List, [], ◌∷◌, ◌++◌, sym, ap, ◌∙◌, append_assoc, append-nil}
use Rattle.sx_bytes.specs.declared.encoding.Encoding.{Encoding}
use Rattle.sx_grammar.specs.Sightings.{Seen}
use Rattle.sx_record.specs.Content.{Content}
use Rattle.sx_record.specs.Text.{printed_value}
use Rattle.sx_carve_text.specs.Carve.{seen_text, columns_text}
use Rattle.sx_carve_text.specs.Spilled.{values_text}

-- a column more
pub columns_more : (encoding : Encoding) (column : Seen) (columns rest : List Seen) (line more all : List ℕ) → columns ≡ column ∷ rest → line ++ columns_text encoding columns ≡ all
    → more ≡ line ++ 32 ∷ seen_text encoding column → more ++ columns_text encoding rest ≡ all
unfolding columns_text
columns_more encoding column columns rest line more all first is added =
    ap (λ l. l ++ columns_text encoding rest) added
    ∙ append_assoc line (32 ∷ seen_text encoding column) (columns_text encoding rest)
    ∙ ap (λ l. line ++ columns_text encoding l) (sym first)
    ∙ is

-- no column is left
pub columns_end : (encoding : Encoding) (columns : List Seen) (line all : List ℕ) → columns ≡ [] → line ++ columns_text encoding columns ≡ all → line ≡ all
unfolding columns_text
columns_end encoding columns line all none is = sym (append-nil line) ∙ ap (λ l. line ++ columns_text encoding l) (sym none) ∙ is

-- a value more
pub values_more : (encoding : Encoding) (value : Content) (values rest : List Content) (line more all : List ℕ) → values ≡ value ∷ rest → line ++ values_text encoding values ≡ all
    → more ≡ line ++ 32 ∷ printed_value encoding value → more ++ values_text encoding rest ≡ all
unfolding values_text
values_more encoding value values rest line more all first is added =
    ap (λ l. l ++ values_text encoding rest) added
    ∙ append_assoc line (32 ∷ printed_value encoding value) (values_text encoding rest)
    ∙ ap (λ l. line ++ values_text encoding l) (sym first)
    ∙ is

-- no value is left
pub values_end : (encoding : Encoding) (values : List Content) (line all : List ℕ) → values ≡ [] → line ++ values_text encoding values ≡ all → line ≡ all
unfolding values_text
values_end encoding values line all none is = sym (append-nil line) ∙ ap (λ l. line ++ values_text encoding l) (sym none) ∙ is
