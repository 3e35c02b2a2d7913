-- Lists of numbers in which each stands once.
use Rattle.std.proofs.Common.{◌≡◌, ℕ, ◌+◌, ◌≤◌, Bool, true, false, cond, ◌||◌, ◌&&◌, List, [], ◌∷◌, ◌++◌, filter, fold, nat_eq, refl, sym, ap, subst, ◌∙◌, arith, append-nil, append_assoc, eqb-true}
use Rattle.std.specs.List.{list_any, IsDistinct}
use Rattle.std.proofs.Math.Bool.{or-false}
use Rattle.std.proofs.lemmas.Cmp.{nat_eq_equiv}
use Rattle.std.proofs.lemmas.List.Folds.{list_any-append}
use Rattle.std.proofs.lemmas.List.Sums.{fold-append, sum_by-append}
use Rattle.std.proofs.lemmas.Map.Steps.{list_any_congr}
use Rattle.std.proofs.lemmas.Map.Keys.{IsDistinct-push}
use Rattle.std.proofs.lemmas.Map.Made.{is_member-filter}
use Rattle.sx_tree.specs.Trees.{with_number, each_once, times}

-- the number stands in the list
abbrev pub has : List ℕ → ℕ → Bool
has numbers number = list_any (nat_eq number) numbers

pub kept : (ks : List ℕ) (x : ℕ) → has ks x ≡ true → with_number ks x ≡ ks
kept ks x is = rw is refl

pub added : (ks : List ℕ) (x : ℕ) → has ks x ≡ false → with_number ks x ≡ ks ++ x ∷ []
added ks x is = rw is refl

grow_case : (ks : List ℕ) (x : ℕ) (b : Bool) → has ks x ≡ b → (more : List ℕ) × (with_number ks x ≡ ks ++ more)
grow_case ks x true is = ([], kept ks x is ∙ sym (append-nil ks))
grow_case ks x false is = (x ∷ [], added ks x is)

-- more numbers come behind those that are there
fold_grows : (ks xs : List ℕ) → (more : List ℕ) × (fold with_number ks xs ≡ ks ++ more)
fold_grows ks [] = ([], sym (append-nil ks))
fold_grows ks (x ∷ xs) =
    let one = grow_case ks x (has ks x) refl in
    let rest = fold_grows (with_number ks x) xs in
    (one.0 ++ rest.0, rest.1 ∙ ap (λ front. front ++ rest.0) one.1 ∙ append_assoc ks one.0 rest.0)

pub once_grows : (xs ys : List ℕ) → (more : List ℕ) × (each_once (xs ++ ys) ≡ each_once xs ++ more)
unfolding each_once
once_grows xs ys =
    let rest = fold_grows (fold with_number [] xs) ys in
    (rest.0, fold-append with_number [] xs ys ∙ rest.1)

same_case : (q x : ℕ) (ks : List ℕ) (c : Bool) → has ks x ≡ true → nat_eq q x ≡ c → has ks q ≡ (has ks q || c)
same_case q x ks true is same =
    let found : has ks q ≡ true = list_any_congr nat_eq_equiv q x ks same ∙ is in
    rw found refl
same_case q x ks false is same = sym (or-false (has ks q))

member_case : (q x : ℕ) (ks : List ℕ) (b : Bool) → has ks x ≡ b → has (with_number ks x) q ≡ (has ks q || nat_eq q x)
member_case q x ks true is = ap (λ l. has l q) (kept ks x is) ∙ same_case q x ks (nat_eq q x) is refl
member_case q x ks false is =
    ap (λ l. has l q) (added ks x is)
    ∙ list_any-append (nat_eq q) ks (x ∷ [])
    ∙ ap (λ b. has ks q || b) (or-false (nat_eq q x))

or_assoc : (a b c : Bool) → ((a || b) || c) ≡ (a || (b || c))
or_assoc true b c = refl
or_assoc false b c = refl

member_fold : (q : ℕ) (ks xs : List ℕ) → has (fold with_number ks xs) q ≡ (has ks q || has xs q)
member_fold q ks [] = sym (or-false (has ks q))
member_fold q ks (x ∷ xs) =
    member_fold q (with_number ks x) xs
    ∙ ap (λ b. b || has xs q) (member_case q x ks (has ks x) refl)
    ∙ or_assoc (has ks q) (nat_eq q x) (has xs q)

-- each number of the list is there
pub once_has : (xs : List ℕ) (q : ℕ) → has (each_once xs) q ≡ has xs q
unfolding each_once
once_has xs q = member_fold q [] xs

distinct_case : (x : ℕ) (ks : List ℕ) (b : Bool) → has ks x ≡ b → IsDistinct nat_eq ks → IsDistinct nat_eq (with_number ks x)
distinct_case x ks true is apart = subst (IsDistinct nat_eq) (sym (kept ks x is)) apart
distinct_case x ks false is apart = subst (IsDistinct nat_eq) (sym (added ks x is)) (IsDistinct-push nat_eq_equiv ks x apart is)

distinct_fold : (ks xs : List ℕ) → IsDistinct nat_eq ks → IsDistinct nat_eq (fold with_number ks xs)
distinct_fold ks [] apart = apart
distinct_fold ks (x ∷ xs) apart = distinct_fold (with_number ks x) xs (distinct_case x ks (has ks x) refl apart)

pub none_apart : IsDistinct nat_eq []
unfolding IsDistinct
none_apart = tt

pub once_apart : (xs : List ℕ) → IsDistinct nat_eq (each_once xs)
unfolding each_once
once_apart xs = distinct_fold [] xs none_apart

-- one number more at the end
pub once_more : (xs : List ℕ) (x : ℕ) → each_once (xs ++ x ∷ []) ≡ with_number (each_once xs) x
unfolding each_once
once_more xs x = fold-append with_number [] xs (x ∷ [])

pub filter_has : (p : ℕ → Bool) (xs : List ℕ) (q : ℕ) → has (filter p xs) q ≡ (has xs q && p q)
filter_has p xs q = is_member-filter nat_eq_equiv p q (λ x same. ap p (eqb-true q x same)) xs

-- ---- how often a number stands in a list

times_one : (q x : ℕ) (b : Bool) → nat_eq q x ≡ b → times q (x ∷ []) ≡ cond b 1 0
times_one q x true is = rw is refl
times_one q x false is = rw is refl

pub times_append : (q : ℕ) (xs ys : List ℕ) → times q (xs ++ ys) ≡ times q xs + times q ys
times_append q xs ys = sum_by-append (λ x. cond (nat_eq q x) 1 0) xs ys

pub times_cons : (q x : ℕ) (xs : List ℕ) (b : Bool) → nat_eq q x ≡ b → times q (x ∷ xs) ≡ cond b 1 0 + times q xs
times_cons q x xs b is = times_append q (x ∷ []) xs ∙ ap (λ n. n + times q xs) (times_one q x b is)

pub times_more : (q x : ℕ) (xs : List ℕ) (b : Bool) → nat_eq q x ≡ b → times q (xs ++ x ∷ []) ≡ times q xs + cond b 1 0
times_more q x xs b is = times_append q xs (x ∷ []) ∙ ap (λ n. times q xs + n) (times_one q x b is)

some_case : (q x : ℕ) (xs : List ℕ) (b : Bool) → nat_eq q x ≡ b → (b || has xs q) ≡ true → (has xs q ≡ true → 1 ≤ times q xs) → 1 ≤ times q (x ∷ xs)
some_case q x xs true is there rest = omega (arith, times_cons q x xs true is)
some_case q x xs false is there rest = omega (arith, times_cons q x xs false is, rest there)

-- it does where it is there
pub times_some : (q : ℕ) (xs : List ℕ) → has xs q ≡ true → 1 ≤ times q xs
times_some q [] there = let never : false ≡ true = there in cc
times_some q (x ∷ xs) there = some_case q x xs (nat_eq q x) refl there (times_some q xs)

none_case : (q x : ℕ) (xs : List ℕ) (b : Bool) → nat_eq q x ≡ b → (b || has xs q) ≡ false → (has xs q ≡ false → times q xs ≡ 0) → times q (x ∷ xs) ≡ 0
none_case q x xs true is there rest = let never : true ≡ false = there in cc
none_case q x xs false is there rest = omega (arith, times_cons q x xs false is, rest there)

pub times_none : (q : ℕ) (xs : List ℕ) → has xs q ≡ false → times q xs ≡ 0
times_none q [] there = refl
times_none q (x ∷ xs) there = none_case q x xs (nat_eq q x) refl there (times_none q xs)
