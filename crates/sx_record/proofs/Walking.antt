-- The values of a record walked to one of them.
use Rattle.std.proofs.Common.{◌≡◌, ℕ, zero, suc, ◌+◌, ◌<◌, List, [], ◌∷◌, length, drop, slice_get, Option, Some, None, IsSome, MatchOption, rules, sym, ap, ◌∙◌, arith, length-drop}
use Rattle.std.proofs.lemmas.List.{drop-drop}
use Rattle.sx_record.specs.declared.value.Value.{Value}
use Rattle.sx_record.specs.Content.{Content, content_of}

-- the first of what is left at a place is the element there
get_first : (contents : List Content) (i : ℕ) (content : Content) (behind : List Content) → drop i contents ≡ content ∷ behind → slice_get contents i ≡ Some content
get_first [] zero content behind first = cc
get_first [] (suc i) content behind first = cc
get_first (other ∷ contents) zero content behind first = cc
get_first (other ∷ contents) (suc i) content behind first = get_first contents i content behind first

-- what a step gives, where the place is one of the record's
abbrev pub Gives : List Content → Option Value → List Content → Type 0
Gives before found behind = MatchOption found ((before ≡ []) × (behind ≡ [])) (λ value. before ≡ content_of value ∷ behind)

-- a column is found
pub column_found : (contents before behind : List Content) (i : ℕ) (found : Option Value) → before ≡ drop i contents → i < length contents → Gives before found behind → IsSome found
column_found contents before behind i None left there gives =
    let none : length (drop i contents) ≡ 0 = ap length (sym left ∙ gives.0) in
    absurd (omega (arith, none, length-drop i contents))
column_found contents before behind i (Some value) left there gives = search rules

-- it is the one at this place
pub column_is : (contents before behind : List Content) (i : ℕ) (value : Value) → before ≡ drop i contents → Gives before (Some value) behind → slice_get contents i ≡ Some (content_of value)
column_is contents before behind i value left gives = get_first contents i (content_of value) behind (sym left ∙ gives)

-- the columns behind it are left
pub columns_left : (contents before behind : List Content) (i : ℕ) (found : Option Value) → before ≡ drop i contents → i < length contents → Gives before found behind → behind ≡ drop (i + 1) contents
columns_left contents before behind i None left there gives =
    let none : length (drop i contents) ≡ 0 = ap length (sym left ∙ gives.0) in
    absurd (omega (arith, none, length-drop i contents))
columns_left contents before behind i (Some value) left there gives =
    ap (drop 1) (sym gives ∙ left) ∙ drop-drop 1 i contents
