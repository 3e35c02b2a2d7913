-- Lists of numbers none of which stands twice.
use Rattle.std.proofs.Common.{◌≡◌, ℕ, Bool, true, false, not, ◌||◌, List, [], ◌∷◌, ◌++◌, nat_eq, refl, sym, ap, ◌∙◌, append-nil}
use Rattle.std.specs.List.{list_any, IsDistinct, AllByRecursion}
use Rattle.std.proofs.lemmas.List.Folds.{list_any-append}
use Rattle.sx_spill.specs.Chains.{are_distinct}
use Rattle.sx_spill.proofs.BoolLemmas.{and_left, and_right, and_both, not_true, not_false, is_false, no_both, or_left, or_right, or_one, or_first, or_second, or_none, same_true, true_same, turned}

-- a number is one of a list
abbrev pub has : List ℕ → ℕ → Bool
has numbers q = list_any (nat_eq q) numbers

pub has_append : (xs ys : List ℕ) (q : ℕ) → has (xs ++ ys) q ≡ (has xs q || has ys q)
has_append xs ys q = list_any-append (nat_eq q) xs ys

pub front_apart : (x : ℕ) (xs : List ℕ) → are_distinct (x ∷ xs) ≡ true → has xs x ≡ false
unfolding are_distinct
front_apart x xs is = not_true (has xs x) (and_left (not (has xs x)) (are_distinct xs) is)

pub rest_apart : (x : ℕ) (xs : List ℕ) → are_distinct (x ∷ xs) ≡ true → are_distinct xs ≡ true
unfolding are_distinct
rest_apart x xs is = and_right (not (has xs x)) (are_distinct xs) is

pub one_apart : (x : ℕ) (xs : List ℕ) → has xs x ≡ false → are_distinct xs ≡ true → are_distinct (x ∷ xs) ≡ true
unfolding are_distinct
one_apart x xs new is = and_both (not (has xs x)) (are_distinct xs) (not_false (has xs x) new) is

pub none_apart : are_distinct [] ≡ true
unfolding are_distinct
none_apart = refl

-- another number that differs, put between
put_between : (x : ℕ) (xs ys : List ℕ) → has (xs ++ ys) x ≡ false → are_distinct (xs ++ ys) ≡ true → are_distinct (xs ++ x ∷ ys) ≡ true
put_between x [] ys new is = one_apart x ys new is
put_between x (first ∷ xs) ys new is =
    one_apart first (xs ++ x ∷ ys)
    (has_append xs (x ∷ ys) first
    ∙ or_none (has xs first) (has (x ∷ ys) first)
    (or_first (has xs first) (has ys first) (sym (has_append xs ys first) ∙ front_apart first (xs ++ ys) is))
    (or_none (nat_eq first x) (has ys first) (turned first x ∙ or_first (nat_eq x first) (has (xs ++ ys) x) new)
    (or_second (has xs first) (has ys first) (sym (has_append xs ys first) ∙ front_apart first (xs ++ ys) is))))
    (put_between x xs ys (or_second (nat_eq x first) (has (xs ++ ys) x) new) (rest_apart first (xs ++ ys) is))

or_swapped : (a b : Bool) → (a || b) ≡ (b || a)
or_swapped true true = refl
or_swapped true false = refl
or_swapped false true = refl
or_swapped false false = refl

pub has_swapped : (xs ys : List ℕ) (q : ℕ) → has (xs ++ ys) q ≡ has (ys ++ xs) q
has_swapped xs ys q = has_append xs ys q ∙ or_swapped (has xs q) (has ys q) ∙ sym (has_append ys xs q)

-- the second part before the first
pub swapped : (xs ys : List ℕ) → are_distinct (xs ++ ys) ≡ true → are_distinct (ys ++ xs) ≡ true
swapped [] ys is = ap are_distinct (append-nil ys) ∙ is
swapped (x ∷ xs) ys is =
    put_between x ys xs (has_swapped ys xs x ∙ front_apart x (xs ++ ys) is) (swapped xs ys (rest_apart x (xs ++ ys) is))

pub second_apart : (xs ys : List ℕ) → are_distinct (xs ++ ys) ≡ true → are_distinct ys ≡ true
second_apart [] ys is = is
second_apart (x ∷ xs) ys is = second_apart xs ys (rest_apart x (xs ++ ys) is)

pub first_apart : (xs ys : List ℕ) → are_distinct (xs ++ ys) ≡ true → are_distinct xs ≡ true
first_apart xs ys is = second_apart ys xs (swapped xs ys is)

-- a number of the first part isn't one of the second
pub parts_apart : (xs ys : List ℕ) (q : ℕ) → are_distinct (xs ++ ys) ≡ true → has xs q ≡ true → has ys q ≡ false
parts_apart [] ys q is there = let clash : false ≡ true = there in absurd cc
parts_apart (x ∷ xs) ys q is there = parts_case (nat_eq q x) refl (parts_apart xs ys q (rest_apart x (xs ++ ys) is))
  where
    parts_case : (b : Bool) → nat_eq q x ≡ b → (has xs q ≡ true → has ys q ≡ false) → has ys q ≡ false
    parts_case true same rest =
        let here : q ≡ x = true_same q x same in
        ap (has ys) here ∙ or_second (has xs x) (has ys x) (sym (has_append xs ys x) ∙ front_apart x (xs ++ ys) is)
    parts_case false other rest = rest (or_one (nat_eq q x) (has xs q) there other)

pub pushed : (xs : List ℕ) (x : ℕ) → are_distinct xs ≡ true → has xs x ≡ false → are_distinct (xs ++ x ∷ []) ≡ true
pushed xs x is new = swapped (x ∷ []) xs (one_apart x xs new is)

-- the last number isn't one of those before it
pub last_new : (xs : List ℕ) (x : ℕ) → are_distinct (xs ++ x ∷ []) ≡ true → has xs x ≡ false
last_new xs x is = front_apart x xs (swapped xs (x ∷ []) is)

pub last_has : (xs : List ℕ) (x : ℕ) → has (xs ++ x ∷ []) x ≡ true
last_has xs x = has_append xs (x ∷ []) x ∙ or_right (has xs x) (nat_eq x x || false) (or_left (nat_eq x x) false (same_true x x refl))

or_false : (c : Bool) → (c || false) ≡ c
or_false true = refl
or_false false = refl

pub before_last : (xs : List ℕ) (x q : ℕ) → has (xs ++ x ∷ []) q ≡ true → nat_eq x q ≡ false → has xs q ≡ true
before_last xs x q is other = before_case (has xs q) refl
  where
    before_case : (b : Bool) → has xs q ≡ b → has xs q ≡ true
    before_case true there = there
    before_case false none =
        let here = or_one (has xs q) (nat_eq q x || false) (sym (has_append xs (x ∷ []) q) ∙ is) none in
        absurd (no_both (nat_eq q x) (sym (or_false (nat_eq q x)) ∙ here) (turned q x ∙ other))

-- a number that stands twice
pub twice : (x : ℕ) (xs ys : List ℕ) → has xs x ≡ true → are_distinct (xs ++ x ∷ ys) ≡ false
twice x xs ys there =
    is_false (are_distinct (xs ++ x ∷ ys))
    (λ (is : are_distinct (xs ++ x ∷ ys) ≡ true).
    no_both (has (x ∷ ys) x) (or_left (nat_eq x x) (has ys x) (same_true x x refl)) (parts_apart xs (x ∷ ys) x is there))

-- where a number of a list stands
pub record IsAmong (q : ℕ) (xs : List ℕ) : Type 0 where
  pub before : List ℕ
  pub behind : List ℕ
  pub parts : xs ≡ before ++ q ∷ behind

pub among : (q : ℕ) (xs : List ℕ) → has xs q ≡ true → IsAmong q xs
among q [] is = let clash : false ≡ true = is in absurd cc
among q (x ∷ xs) is = among_case (nat_eq q x) refl (among q xs)
  where
    among_case : (b : Bool) → nat_eq q x ≡ b → (has xs q ≡ true → IsAmong q xs) → IsAmong q (x ∷ xs)
    among_case true same find = record { before = []; behind = xs; parts = ap (λ n. n ∷ xs) (sym (true_same q x same)) }
    among_case false other find =
        let rest = find (or_one (nat_eq q x) (has xs q) is other) in
        record { before = x ∷ rest.before; behind = rest.behind; parts = ap (λ l. x ∷ l) rest.parts }

-- the library's own word
all_differ : (x : ℕ) (xs : List ℕ) → has xs x ≡ false → AllByRecursion (λ y. nat_eq x y ≡ false) xs
all_differ x [] none = tt
all_differ x (y ∷ ys) none = (or_first (nat_eq x y) (has ys x) none, all_differ x ys (or_second (nat_eq x y) (has ys x) none))

pub distinct_is : (xs : List ℕ) → are_distinct xs ≡ true → IsDistinct nat_eq xs
unfolding IsDistinct
distinct_is [] is = tt
distinct_is (x ∷ xs) is = (all_differ x xs (front_apart x xs is), distinct_is xs (rest_apart x xs is))
