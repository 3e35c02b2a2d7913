-- The names of columns, one after the other, and the marks for those that a row doesn't have.
use Rattle.std.proofs.Common.{◌≡◌, ℕ, ◌+◌, ◌<◌, ◌≤◌, List, [], ◌∷◌, ◌++◌, length, drop, get_or, map, codes, refl, sym, ap, ◌∙◌, append_assoc, append-nil, arith}
use Rattle.std.specs.List.{flat_map}
use Rattle.std.specs.declared.vec.Vec.{Vec}
use Rattle.std.specs.declared.alloc.Global.{Global}
use Rattle.std.proofs.lemmas.List.{at_drop_more, drop_all, length-map}
use Rattle.std.proofs.lemmas.List.Concat.{flat_map-cons}
use Rattle.sx_bytes.specs.declared.encoding.Encoding.TheVariants.{Utf8}
use Rattle.sx_record.specs.Text.{quoted}
use Rattle.sx_show_text.specs.Columns.{names_text, missing_text}

-- the bytes of names
abbrev pub bytes_of : List (Vec ℕ Global) → List (List ℕ)
bytes_of names = map (λ name. name.items) names

first : (name : List ℕ) (names : List (List ℕ)) → names_text (name ∷ names) ≡ (32 ∷ quoted Utf8 name) ++ names_text names
unfolding names_text
first name names = flat_map-cons (λ name. 32 ∷ quoted Utf8 name) name names

-- a name more
pub names_more : (names : List (Vec ℕ Global)) (name : Vec ℕ Global) (place : ℕ) (line more : List ℕ) → place < length names
    → more ≡ line ++ 32 ∷ quoted Utf8 (get_or names place name).items
    → line ++ names_text (bytes_of (drop place names)) ≡ more ++ names_text (bytes_of (drop (place + 1) names))
names_more names name place line more within is =
    let one = (get_or names place name).items in
    let rest = names_text (bytes_of (drop (place + 1) names)) in
    ap (λ l. line ++ l) (at_drop_more (λ l. names_text (bytes_of l)) names place name within ∙ first one (bytes_of (drop (place + 1) names)))
    ∙ sym (append_assoc line (32 ∷ quoted Utf8 one) rest)
    ∙ ap (λ l. l ++ rest) (sym is)

nothing : names_text [] ≡ []
unfolding names_text
nothing = refl

-- no name is left
pub names_end : (names : List (Vec ℕ Global)) (place : ℕ) (line : List ℕ) → length names ≤ place → line ++ names_text (bytes_of (drop place names)) ≡ line
names_end names place line past =
    ap (λ l. line ++ names_text (bytes_of l)) (drop_all place names past) ∙ ap (λ l. line ++ l) nothing ∙ append-nil line

many : (names : List (Vec ℕ Global)) → length (bytes_of names) ≡ length names
many names = length-map names (λ name. name.items)

-- nothing is missing where there are no names
pub none_missing : (line : List ℕ) (count : ℕ) → line ++ missing_text [] count ≡ line
unfolding missing_text
none_missing line count =
    let none : List (List ℕ) = [] in
    ap (λ l. line ++ flat_map (λ (name : List ℕ). codes " -") l) (drop_all count none (omega arith)) ∙ append-nil line

-- a mark more
pub marks_more : (names : List (Vec ℕ Global)) (place : ℕ) (line more : List ℕ) → place < length names → more ≡ line ++ codes " -"
    → line ++ missing_text (bytes_of names) place ≡ more ++ missing_text (bytes_of names) (place + 1)
unfolding missing_text
marks_more names place line more within is =
    let mark = λ (name : List ℕ). codes " -" in
    let rest = flat_map mark (drop (place + 1) (bytes_of names)) in
    let inside : place < length (bytes_of names) = omega (arith, within, many names) in
    ap (λ l. line ++ l) (at_drop_more (flat_map mark) (bytes_of names) place [] inside ∙ flat_map-cons mark (get_or (bytes_of names) place []) (drop (place + 1) (bytes_of names)))
    ∙ sym (append_assoc line (codes " -") rest)
    ∙ ap (λ l. l ++ rest) (sym is)

-- no mark is left
pub marks_end : (names : List (Vec ℕ Global)) (place : ℕ) (line : List ℕ) → length names ≤ place → line ++ missing_text (bytes_of names) place ≡ line
unfolding missing_text
marks_end names place line past =
    let out : length (bytes_of names) ≤ place = omega (arith, past, many names) in
    ap (λ l. line ++ flat_map (λ (name : List ℕ). codes " -") l) (drop_all place (bytes_of names) out) ∙ append-nil line
