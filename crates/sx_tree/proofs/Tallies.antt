-- The table of the pages that were named, against the list of names.
use Rattle.std.proofs.Common.{◌≡◌, ◌⊎◌, inl, inr, ℕ, ◌+◌, ◌≤◌, Bool, true, false, cond, ◌||◌, ◌&&◌, List, [], ◌∷◌, ◌++◌, Option, Some, None, is_some, filter, fold, nat_eq, nat_le, refl, sym, ap, subst, ◌∙◌, arith, append-nil, append_assoc, eqb-true, eq-eqb, le-leb}
use Rattle.std.specs.Map.{lookup, keys_of}
use Rattle.std.proofs.Math.Bool.{or-false}
use Rattle.std.proofs.lemmas.List.Elements.{filter-append}
use Rattle.std.proofs.lemmas.List.Folds.{list_any-append}
use Rattle.sx_tree.specs.Trees.{with_number, each_once, times}
use Rattle.sx_tree.specs.Tables.{named_again, with_name, noted}
use Rattle.sx_tree.proofs.Numbers.{has, kept, added, once_more, times_more, times_some, times_none}

-- ---- a table with one more name

never : (b : Bool) → b ≡ true → b ≡ false → ⊥
never true p q = let clash : true ≡ false = q in cc
never false p q = let clash : false ≡ true = p in cc

-- the marks of a table in which a page was named again
again_case : (p q k : ℕ) (v : Bool) (es : List (ℕ × Bool)) (a b c : Bool) → nat_eq p q ≡ a → nat_eq q k ≡ b → nat_eq p k ≡ c
    → is_some (cond c (Some v) (lookup (nat_eq p) es)) ≡ true ⊎ (a ≡ false)
    → (is_some (lookup (nat_eq p) es) ≡ true ⊎ (a ≡ false) → lookup (nat_eq p) (named_again es q) ≡ cond a (Some true) (lookup (nat_eq p) es))
    → cond c (Some (b || v)) (lookup (nat_eq p) (named_again es q)) ≡ cond a (Some true) (cond c (Some v) (lookup (nat_eq p) es))
again_case p q k v es true true true pq qk pk there rest = refl
again_case p q k v es true true false pq qk pk there rest =
    absurd (never (nat_eq p k) (eq-eqb p k (eqb-true p q pq ∙ eqb-true q k qk)) pk)
again_case p q k v es true false true pq qk pk there rest =
    absurd (never (nat_eq q k) (eq-eqb q k (sym (eqb-true p q pq) ∙ eqb-true p k pk)) qk)
again_case p q k v es true false false pq qk pk there rest = rest there
again_case p q k v es false true true pq qk pk there rest =
    absurd (never (nat_eq p q) (eq-eqb p q (eqb-true p k pk ∙ sym (eqb-true q k qk))) pq)
again_case p q k v es false true false pq qk pk there rest = rest (inr refl)
again_case p q k v es false false true pq qk pk there rest = refl
again_case p q k v es false false false pq qk pk there rest = rest (inr refl)

lookup_again : (p q : ℕ) (es : List (ℕ × Bool)) → is_some (lookup (nat_eq p) es) ≡ true ⊎ (nat_eq p q ≡ false)
    → lookup (nat_eq p) (named_again es q) ≡ cond (nat_eq p q) (Some true) (lookup (nat_eq p) es)
lookup_again p q [] (inl there) = let clash : false ≡ true = there in absurd cc
lookup_again p q [] (inr apart) = ap (λ b. cond b (Some true) None) (sym apart)
lookup_again p q (e ∷ es) there =
    again_case p q e.0 e.1 es (nat_eq p q) (nat_eq q e.0) (nat_eq p e.0) refl refl refl there (lookup_again p q es)

either : (q p : ℕ) (es : List (ℕ × Bool)) (b : Bool) → nat_eq p q ≡ b → is_some (lookup (nat_eq q) es) ≡ true
    → is_some (lookup (nat_eq p) es) ≡ true ⊎ (nat_eq p q ≡ false)
either q p es true same there = inl (ap (λ n. is_some (lookup (nat_eq n) es)) (eqb-true p q same) ∙ there)
either q p es false same there = inr same

keys_again : (q : ℕ) (es : List (ℕ × Bool)) → keys_of (named_again es q) ≡ keys_of es
keys_again q [] = refl
keys_again q (e ∷ es) = ap (λ ks. e.0 ∷ ks) (keys_again q es)

-- the marks of a table to which a page came
step_case : (p q k : ℕ) (v : Bool) (es : List (ℕ × Bool)) (a b c : Bool) → nat_eq p q ≡ a → nat_eq q k ≡ b → nat_eq p k ≡ c
    → is_some (cond b (Some v) (lookup (nat_eq q) es)) ≡ false
    → (is_some (lookup (nat_eq q) es) ≡ false → lookup (nat_eq p) (es ++ (q, false) ∷ []) ≡ cond a (Some false) (lookup (nat_eq p) es))
    → cond c (Some v) (lookup (nat_eq p) (es ++ (q, false) ∷ [])) ≡ cond a (Some false) (cond c (Some v) (lookup (nat_eq p) es))
step_case p q k v es a true c pq qk pk none rest = let clash : true ≡ false = none in absurd cc
step_case p q k v es true false true pq qk pk none rest =
    absurd (never (nat_eq q k) (eq-eqb q k (sym (eqb-true p q pq) ∙ eqb-true p k pk)) qk)
step_case p q k v es true false false pq qk pk none rest = rest none
step_case p q k v es false false true pq qk pk none rest = refl
step_case p q k v es false false false pq qk pk none rest = rest none

lookup_more : (p q : ℕ) (es : List (ℕ × Bool)) → is_some (lookup (nat_eq q) es) ≡ false
    → lookup (nat_eq p) (es ++ (q, false) ∷ []) ≡ cond (nat_eq p q) (Some false) (lookup (nat_eq p) es)
lookup_more p q [] none = refl
lookup_more p q (e ∷ es) none =
    step_case p q e.0 e.1 es (nat_eq p q) (nat_eq q e.0) (nat_eq p e.0) refl refl refl none (lookup_more p q es)

-- its keys
keys_more : (q : ℕ) (es : List (ℕ × Bool)) → keys_of (es ++ (q, false) ∷ []) ≡ keys_of es ++ q ∷ []
keys_more q [] = refl
keys_more q (e ∷ es) = ap (λ ks. e.0 ∷ ks) (keys_more q es)

-- a page stands among the keys where a look-up finds it
key_case : (q k : ℕ) (v : Bool) (es : List (ℕ × Bool)) (b : Bool) → nat_eq q k ≡ b → is_some (lookup (nat_eq q) es) ≡ has (keys_of es) q
    → is_some (cond b (Some v) (lookup (nat_eq q) es)) ≡ (b || has (keys_of es) q)
key_case q k v es true same rest = refl
key_case q k v es false same rest = rest

key_found : (q : ℕ) (es : List (ℕ × Bool)) → is_some (lookup (nat_eq q) es) ≡ has (keys_of es) q
key_found q [] = refl
key_found q (e ∷ es) = key_case q e.0 e.1 es (nat_eq q e.0) refl (key_found q es)

-- ---- the table of these names

-- what a table says of a page: nothing where it isn't held or wasn't named, else whether it was named twice
abbrev pub mark : Bool → Bool → ℕ → Option Bool
mark held named many = cond (held && named) (Some (nat_le 2 many)) None

-- the keys are the held pages that were named, each once in order, and each says whether it was named twice
pub record IsTally (held : ℕ → Bool) (named : List ℕ) (table : List (ℕ × Bool)) : Type 0 where
  pub keys : keys_of table ≡ each_once (filter held named)
  pub marks : (q : ℕ) → lookup (nat_eq q) table ≡ mark (held q) (has named q) (times q named)

pub no_names : (held : ℕ → Bool) → IsTally held [] []
unfolding each_once
no_names held = record { keys = refl; marks = λ q. none (held q) }
  where
    none : (b : Bool) → None ≡ mark b false 0
    none true = refl
    none false = refl

is_marked : (held named : Bool) (many : ℕ) → is_some (mark held named many) ≡ (held && named)
is_marked true true many = refl
is_marked true false many = refl
is_marked false named many = refl

-- the three ways of a table with one more name
noted_again : (held : ℕ → Bool) (table : List (ℕ × Bool)) (q : ℕ) → is_some (lookup (nat_eq q) table) ≡ true → held q ≡ true
    → noted held table q ≡ named_again table q
unfolding noted with_name
noted_again held table q there is = rw (is, there) refl

noted_new : (held : ℕ → Bool) (table : List (ℕ × Bool)) (q : ℕ) → is_some (lookup (nat_eq q) table) ≡ false → held q ≡ true
    → noted held table q ≡ table ++ (q, false) ∷ []
unfolding noted with_name
noted_new held table q there is = rw (is, there) refl

noted_dead : (held : ℕ → Bool) (table : List (ℕ × Bool)) (q : ℕ) → held q ≡ false → noted held table q ≡ table
unfolding noted
noted_dead held table q is = rw is refl

filter_one : (held : ℕ → Bool) (named : List ℕ) (q : ℕ) (b : Bool) → held q ≡ b
    → each_once (filter held (named ++ q ∷ [])) ≡ cond b (with_number (each_once (filter held named)) q) (each_once (filter held named))
filter_one held named q true is =
    ap each_once (filter-append held named (q ∷ [])) ∙ ap (λ l. each_once (filter held named ++ l)) (rw is refl) ∙ once_more (filter held named) q
filter_one held named q false is =
    ap each_once (filter-append held named (q ∷ [])) ∙ ap (λ l. each_once (filter held named ++ l)) (rw is refl) ∙ ap each_once (append-nil (filter held named))

has_more : (named : List ℕ) (q p : ℕ) → has (named ++ q ∷ []) p ≡ (has named p || nat_eq p q)
has_more named q p = list_any-append (nat_eq p) named (q ∷ []) ∙ ap (λ b. has named p || b) (or-false (nat_eq p q))

-- a page that isn't the one that was named keeps its mark
mark_other : (held : ℕ → Bool) (named : List ℕ) (q p : ℕ) → nat_eq p q ≡ false
    → mark (held p) (has named p) (times p named) ≡ mark (held p) (has (named ++ q ∷ []) p) (times p (named ++ q ∷ []))
mark_other held named q p apart =
    let same : has (named ++ q ∷ []) p ≡ has named p = has_more named q p ∙ ap (λ b. has named p || b) apart ∙ or-false (has named p) in
    let count : times p (named ++ q ∷ []) ≡ times p named = omega (arith, times_more p q named false apart) in
    rw (same, count) refl

-- the one that was named has this mark
mark_here : (held : ℕ → Bool) (named : List ℕ) (q p : ℕ) → nat_eq p q ≡ true
    → mark (held p) (has (named ++ q ∷ []) p) (times p (named ++ q ∷ [])) ≡ mark (held p) true (times p named + 1)
mark_here held named q p same =
    let there : has (named ++ q ∷ []) p ≡ true = has_more named q p ∙ ap (λ b. has named p || b) same ∙ or_true (has named p) in
    rw (there, times_more p q named true same) refl
  where
    or_true : (b : Bool) → (b || true) ≡ true
    or_true true = refl
    or_true false = refl

second : (n : ℕ) → 1 ≤ n → nat_le 2 (n + 1) ≡ true
second n some = le-leb 2 (n + 1) (omega arith)

-- the pages whose marks are asked, by cases: p is the page that was named or another
held_again : (held : ℕ → Bool) (named : List ℕ) (table : List (ℕ × Bool)) (q p : ℕ) (b : Bool) → nat_eq p q ≡ b
    → IsTally held named table → held q ≡ true → has named q ≡ true
    → cond b (Some true) (lookup (nat_eq p) table) ≡ mark (held p) (has (named ++ q ∷ []) p) (times p (named ++ q ∷ []))
held_again held named table q p true same tally is there =
    let one : p ≡ q = eqb-true p q same in
    let held_p : held p ≡ true = ap held one ∙ is in
    let some : 1 ≤ times p named = times_some p named (ap (has named) one ∙ there) in
    sym (mark_here held named q p same ∙ ap (λ h. mark h true (times p named + 1)) held_p ∙ ap Some (second (times p named) some))
held_again held named table q p false apart tally is there = tally.marks p ∙ mark_other held named q p apart

held_new : (held : ℕ → Bool) (named : List ℕ) (table : List (ℕ × Bool)) (q p : ℕ) (b : Bool) → nat_eq p q ≡ b
    → IsTally held named table → held q ≡ true → has named q ≡ false
    → cond b (Some false) (lookup (nat_eq p) table) ≡ mark (held p) (has (named ++ q ∷ []) p) (times p (named ++ q ∷ []))
held_new held named table q p true same tally is there =
    let one : p ≡ q = eqb-true p q same in
    let held_p : held p ≡ true = ap held one ∙ is in
    let none : times p named ≡ 0 = times_none p named (ap (has named) one ∙ there) in
    sym (mark_here held named q p same ∙ ap (λ h. mark h true (times p named + 1)) held_p ∙ ap (λ n. Some (nat_le 2 (n + 1))) none)
held_new held named table q p false apart tally is there = tally.marks p ∙ mark_other held named q p apart

dead_case : (held : ℕ → Bool) (named : List ℕ) (table : List (ℕ × Bool)) (q p : ℕ) (b : Bool) → nat_eq p q ≡ b
    → IsTally held named table → held q ≡ false
    → lookup (nat_eq p) table ≡ mark (held p) (has (named ++ q ∷ []) p) (times p (named ++ q ∷ []))
dead_case held named table q p true same tally is =
    let held_p : held p ≡ false = ap held (eqb-true p q same) ∙ is in
    tally.marks p ∙ ap (λ h. mark h (has named p) (times p named)) held_p
    ∙ sym (ap (λ h. mark h (has (named ++ q ∷ []) p) (times p (named ++ q ∷ []))) held_p)
dead_case held named table q p false apart tally is = tally.marks p ∙ mark_other held named q p apart

note_case : (held : ℕ → Bool) (named : List ℕ) (table : List (ℕ × Bool)) (q : ℕ) (h n : Bool) → held q ≡ h → has named q ≡ n
    → IsTally held named table → IsTally held (named ++ q ∷ []) (noted held table q)
note_case held named table q true true is there tally =
    let found : is_some (lookup (nat_eq q) table) ≡ true
    = ap is_some (tally.marks q) ∙ is_marked (held q) (has named q) (times q named) ∙ rw (is, there) refl in
    let listed : has (each_once (filter held named)) q ≡ true = sym (ap (λ ks. has ks q) tally.keys) ∙ sym (key_found q table) ∙ found in
    rw (noted_again held table q found is) (record {
      keys = keys_again q table ∙ tally.keys ∙ sym (kept (each_once (filter held named)) q listed) ∙ sym (filter_one held named q true is);
      marks = λ p. lookup_again p q table (either q p table (nat_eq p q) refl found) ∙ held_again held named table q p (nat_eq p q) refl tally is there;
    })
note_case held named table q true false is there tally =
    let found : is_some (lookup (nat_eq q) table) ≡ false
    = ap is_some (tally.marks q) ∙ is_marked (held q) (has named q) (times q named) ∙ rw (is, there) refl in
    let listed : has (each_once (filter held named)) q ≡ false = sym (ap (λ ks. has ks q) tally.keys) ∙ sym (key_found q table) ∙ found in
    rw (noted_new held table q found is) (record {
      keys = keys_more q table ∙ ap (λ ks. ks ++ q ∷ []) tally.keys ∙ sym (added (each_once (filter held named)) q listed) ∙ sym (filter_one held named q true is);
      marks = λ p. lookup_more p q table found ∙ held_new held named table q p (nat_eq p q) refl tally is there;
    })
note_case held named table q false n is there tally =
    rw (noted_dead held table q is) (record {
      keys = tally.keys ∙ sym (filter_one held named q false is);
      marks = λ p. dead_case held named table q p (nat_eq p q) refl tally is;
    })

-- one more name
pub note_one : (held : ℕ → Bool) (named : List ℕ) (table : List (ℕ × Bool)) (q : ℕ)
    → IsTally held named table → IsTally held (named ++ q ∷ []) (noted held table q)
note_one held named table q tally = note_case held named table q (held q) (has named q) refl refl tally

-- and all names of a list
pub note_all : (held : ℕ → Bool) (named more : List ℕ) (table : List (ℕ × Bool))
    → IsTally held named table → IsTally held (named ++ more) (fold (noted held) table more)
note_all held named [] table tally = subst (λ l. IsTally held l table) (sym (append-nil named)) tally
note_all held named (q ∷ more) table tally =
    subst (λ l. IsTally held l (fold (noted held) (noted held table q) more)) (append_assoc named (q ∷ []) more)
    (note_all held (named ++ q ∷ []) more (noted held table q) (note_one held named table q tally))

pub tally_of : (held : ℕ → Bool) (names : List ℕ) → IsTally held names (fold (noted held) [] names)
tally_of held names = note_all held [] names [] (no_names held)
