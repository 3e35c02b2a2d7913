-- Counting in a list that was mapped, and the first word that sets a key.
use Rattle.std.proofs.Common.{◌≡◌, ℕ, suc, ◌+◌, ◌<◌, Bool, cond, List, [], ◌∷◌, map, length, drop, get_or, None, Some, String, string_bytes, refl, sym, ◌∙◌, ap, add-one, drop-cons}
use Rattle.std.specs.Prelude.{count_by}
use Rattle.std.proofs.lemmas.List.Folds.{list_all-map}
use Rattle.std.proofs.lemmas.List.Sums.{sum_by-cons}
use Rattle.std.specs.List.{list_all}
use Rattle.std.specs.declared.alloc.Global.{Global}
use Rattle.sx_words.specs.declared.key.Key.{Key}
use Rattle.sx_words.specs.Words.{texts, setting_of, value_of, first_given}

pub all_map : {X Y : Type 0} (f : X → Y) (p : Y → Bool) (xs : List X) → list_all p (map f xs) ≡ list_all (λ x. p (f x)) xs
all_map f p xs = list_all-map p f xs

pub count_map : {X Y : Type 0} (f : X → Y) (p : Y → Bool) (xs : List X) → count_by p (map f xs) ≡ count_by (λ x. p (f x)) xs
count_map f p [] = refl
count_map f p (x ∷ xs) =
    sum_by-cons (λ y. cond (p y) 1 0) (f x) (map f xs)
    ∙ ap (λ n. cond (p (f x)) 1 0 + n) (count_map f p xs)
    ∙ sym (sum_by-cons (λ y. cond (p (f y)) 1 0) x xs)

-- where the first of the words doesn't set the key, the words behind it do
value_behind : (key : Key) (word : String Global) (words : List (String Global)) → setting_of key (string_bytes word) ≡ None
    → value_of key (texts (word ∷ words)) ≡ value_of key (texts words)
value_behind key word words none = ap (λ given. first_given given (value_of key (texts words))) none

-- so do those behind the next, where that doesn't set it either
pub value_later : (key : Key) (words : List (String Global)) (i : ℕ) (word : String Global) → i < length words → word ≡ get_or words i word
    → setting_of key (string_bytes word) ≡ None
    → value_of key (texts (drop i words)) ≡ value_of key (texts (drop (i + 1) words))
value_later key words i word below is none =
    let parts : drop i words ≡ get_or words i word ∷ drop (suc i) words = drop-cons words i word below in
    ap (λ l. value_of key (texts l)) parts
    ∙ ap (λ w. value_of key (texts (w ∷ drop (suc i) words))) (sym is)
    ∙ value_behind key word (drop (suc i) words) none
    ∙ ap (λ n. value_of key (texts (drop n words))) (sym (add-one i))

-- the next sets it
pub value_here : (key : Key) (words : List (String Global)) (i : ℕ) (word : String Global) (value : List ℕ) → i < length words → word ≡ get_or words i word
    → setting_of key (string_bytes word) ≡ Some value
    → value_of key (texts (drop i words)) ≡ Some value
value_here key words i word value below is found =
    let parts : drop i words ≡ get_or words i word ∷ drop (suc i) words = drop-cons words i word below in
    ap (λ l. value_of key (texts l)) parts
    ∙ ap (λ w. value_of key (texts (w ∷ drop (suc i) words))) (sym is)
    ∙ ap (λ given. first_given given (value_of key (texts (drop (suc i) words)))) found
