-- What comes and what goes between two lists of targets, and where a page changes.
use Rattle.std.proofs.Common.{◌≡◌, ℕ, ◌-◌, List, ◌++◌, length, take, take_all, drop, sym, ap, subst, ◌∙◌, arith}
use Rattle.std.proofs.lemmas.List.{take-append-drop, length-drop}
use Rattle.sx_closure.specs.declared.pair.Target.{Target}
use Rattle.sx_follow.specs.Gathered.{IsChange}
use Rattle.sx_follow.proofs.Gathering.{change_ends}
use Rattle.sx_walk.specs.Turning.{Exchanges}

-- ---- two lists

-- a list in three parts
three : (xs : List Target) (front middle : ℕ) → take front xs ++ (take middle (drop front xs) ++ drop middle (drop front xs)) ≡ xs
three xs front middle = ap (λ rest. take front xs ++ rest) (take-append-drop middle (drop front xs)) ∙ take-append-drop front xs

ends_change : (old new : List Target) (front back : ℕ) → take front old ≡ take front new
    → drop (length (drop front old) - back) (drop front old) ≡ drop (length (drop front new) - back) (drop front new)
    → IsChange old new (take (length (drop front new) - back) (drop front new)) (take (length (drop front old) - back) (drop front old))
ends_change old new front back first last =
    let some = drop front old in
    let others = drop front new in
    let some_long = length some - back in
    let others_long = length others - back in
    let change = change_ends (take front old) (take some_long some) (take others_long others) (drop some_long some) in
    subst (λ xs. IsChange xs new (take others_long others) (take some_long some)) (three old front some_long)
    (subst (λ xs. IsChange (take front old ++ (take some_long some ++ drop some_long some)) xs (take others_long others) (take some_long some))
    (ap (λ front_part. front_part ++ (take others_long others ++ drop some_long some)) first
    ∙ ap (λ end. take front new ++ (take others_long others ++ end)) last ∙ three new front others_long) change)

rest_is : (xs : List Target) (front : ℕ) → take (length xs - front) (drop front xs) ≡ drop front xs
rest_is xs front = take_all (length xs - front) (drop front xs) (omega (arith, length-drop front xs))

pub lists_exchanged : (old new come coming gone going : List Target) (front back : ℕ) (some others : List Target) → take front old ≡ take front new
    → some ≡ take (length old - front) (drop front old) → others ≡ take (length new - front) (drop front new)
    → drop (length some - back) some ≡ drop (length others - back) others
    → coming ≡ come ++ take (length others - back) others → going ≡ gone ++ take (length some - back) some → Exchanges old new come coming gone going
lists_exchanged old new come coming gone going front back some others first some_is others_is last came went =
    let one : some ≡ drop front old = some_is ∙ rest_is old front in
    let two : others ≡ drop front new = others_is ∙ rest_is new front in
    let last_of : drop (length (drop front old) - back) (drop front old) ≡ drop (length (drop front new) - back) (drop front new) =
    ap (λ xs. drop (length xs - back) xs) (sym one) ∙ last ∙ ap (λ xs. drop (length xs - back) xs) two in
    record {
      more = take (length others - back) others;
      less = take (length some - back) some;
      coming_is = came;
      going_is = went;
      change = subst (λ xs. IsChange old new (take (length xs - back) xs) (take (length some - back) some)) (sym two)
          (subst (λ xs. IsChange old new (take (length (drop front new) - back) (drop front new)) (take (length xs - back) xs)) (sym one)
          (ends_change old new front back first last_of));
    }
