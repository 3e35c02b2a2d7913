-- Sets of places, one an image, and one of them changed.
use Rattle.std.proofs.Common.{◌≡◌, ℕ, zero, suc, ◌+◌, ◌<◌, ◌≤◌, ◌==◌, Bool, true, false, ◌&&◌, ◌||◌, nat_le, nat_lt, List, [], ◌∷◌, length, set, get_or, Result, Ok, Err, refl, sym, ap, subst, ◌∙◌, arith, length-set, get_or-set_same, get_or-set_other, inl, inr}
use Rattle.std.proofs.lemmas.Bool.{cases_eq, eq-eqb}
use Rattle.std.proofs.lemmas.List.{set-get_or}
use Rattle.std.proofs.lemmas.Bool.Decides.{nat_tests}
use Rattle.std.proofs.lemmas.List.Elements.{All-head, All-tail, All-get_or, All-set}
use Rattle.std.specs.Prelude.{All, OnOk, OnErr}
use Rattle.sx_base.specs.declared.evidence.Span.{Span}
use Rattle.sx_owned.specs.declared.run.Run.{Run}
use Rattle.sx_owned.specs.Runs.{holds, is_owned, Within, Extends}
use Rattle.sx_owned.specs.Spans.{in_span}
use Rattle.sx_owned.specs.Owned.{Owned, places_of, owned_at, block_at, IsFresh, Owns, Begins, IsTable}
use Rattle.sx_owned.proofs.RunLemmas.{or_false}

abbrev pub table_of : ℕ → List (List Run) → List (List Run) → Owned
table_of size owned blocks = record { page_size = size; owned = owned; blocks = blocks }

-- a place of a list, whatever stands past its end
pub there : (sets : List (List Run)) (image : ℕ) (found : List Run) → image < length sets → found ≡ get_or sets image found → places_of sets image ≡ found
there [] image found within is = absurd (omega arith)
there (first ∷ sets) zero found within is = sym is
there (first ∷ sets) (suc image) found within is = there sets image found (omega arith) is

-- ---- sets without a place

none_of : (sets : List (List Run)) (image : ℕ) → All (λ (places : List Run). places ≡ []) sets → places_of sets image ≡ []
none_of [] image none = refl
none_of (first ∷ sets) zero none = All-head (λ (places : List Run). places ≡ []) first sets none
none_of (first ∷ sets) (suc image) none = none_of sets image (All-tail (λ (places : List Run). places ≡ []) first sets none)

owned_none : (at : ℕ) → is_owned [] at ≡ false
unfolding is_owned
owned_none at = refl

pub fresh_is : (size images : ℕ) (owned blocks : List (List Run)) → length owned ≡ images → All (λ (places : List Run). places ≡ []) owned → All (λ (places : List Run). places ≡ []) blocks
    → IsFresh (table_of size owned blocks) images size
unfolding owned_at block_at
fresh_is size images owned blocks count none no_blocks = record {
  count = count;
  size = refl;
  owned = λ image at. ap (λ runs. is_owned runs at) (none_of owned image none) ∙ owned_none at;
  block = λ image at. ap (λ runs. is_owned runs at) (none_of blocks image no_blocks) ∙ owned_none at;
}

within_none : (size : ℕ) (places : List Run) → places ≡ [] → Within size places
within_none size [] none = tt
within_none size (run ∷ places) none = absurd (let apart : length (run ∷ places) ≡ 0 = ap length none in omega arith)

-- ---- one set changed

changed : (sets : List (List Run)) (image other at : ℕ) (old new : List Run) (test : Bool) → image < length sets → old ≡ get_or sets image old
    → is_owned new at ≡ (is_owned old at || test) → is_owned (places_of (set sets image new) other) at ≡ (is_owned (places_of sets other) at || (other == image && test))
changed sets image other at old new test within is more = elim (cases_eq other image) [
  | inl same ↦
      let here : (other == image) ≡ true = eq-eqb other image same in
      rw (here, same, get_or-set_same sets image new [] within, there sets image old within is) more
  | inr apart ↦
      let not_here : (other == image) ≡ false = grind (arith, nat_tests) in
      rw (not_here, get_or-set_other sets image other new [] apart) (sym (or_false (is_owned (places_of sets other) at)))
]

pub owns : (size : ℕ) (owned blocks : List (List Run)) (image : ℕ) (old new : List Run) (span : Span) → image < length owned → old ≡ get_or owned image old
    → Extends old new (record { start = span.start; end = span.start + span.len }) → Owns (table_of size owned blocks) (table_of size (set owned image new) blocks) image span
unfolding owned_at block_at
owns size owned blocks image old new span within is more = record {
  count = length-set owned image new;
  size = refl;
  owned = λ other at. changed owned image other at old new (in_span at span) within is (more.owned at);
  block = λ other at. refl;
}

one_place : (at offset : ℕ) → holds at (record { start = offset; end = offset + 1 }) ≡ (at == offset)
one_place at offset = one_by at offset (at == offset) refl
  where
    one_by : (at offset : ℕ) (same : Bool) → (at == offset) ≡ same → (nat_le offset at && nat_lt at (offset + 1)) ≡ same
    one_by at offset true is = grind (arith, nat_tests)
    one_by at offset false is = grind (arith, nat_tests)

pub begins : (size : ℕ) (owned blocks : List (List Run)) (image offset : ℕ) (old new : List Run) → image < length blocks → old ≡ get_or blocks image old
    → Extends old new (record { start = offset; end = offset + 1 }) → Begins (table_of size owned blocks) (table_of size owned (set blocks image new)) image offset
unfolding owned_at block_at
begins size owned blocks image offset old new within is more = record {
  count = refl;
  size = refl;
  owned = λ other at. refl;
  block = λ other at. changed blocks image other at old new (at == offset) within is (more.owned at ∙ ap (λ b. is_owned old at || b) (one_place at offset));
}

-- an empty span owns nothing more
none_in : (at : ℕ) (span : Span) → span.len ≡ 0 → in_span at span ≡ false
none_in at span none = none_by at span none (nat_le span.start at) refl
  where
    none_by : (at : ℕ) (span : Span) → span.len ≡ 0 → (low : Bool) → nat_le span.start at ≡ low → (low && nat_lt at (span.start + span.len)) ≡ false
    none_by at span none true is = grind (arith, nat_tests)
    none_by at span none false is = refl

nothing_more : (a b c : Bool) → c ≡ false → (a || (b && c)) ≡ a
nothing_more a true c none = rw none (or_false a)
nothing_more a false c none = or_false a

pub owns_nothing : (table : Owned) (image : ℕ) (span : Span) → span.len ≡ 0 → Owns table table image span
owns_nothing table image span none = record {
  count = refl;
  size = refl;
  owned = λ other at. sym (nothing_more (owned_at table other at) (other == image) (in_span at span) (none_in at span none));
  block = λ other at. refl;
}

-- what holds of the new set where one was added to, and where that was refused
pub on_ok : {E P Q : Type 0} (r : Result (Unit {0}) E) → (P → Q) → OnOk r P → OnOk r Q
on_ok (Ok done) further is = further is
on_ok (Err refused) further is = tt

pub on_err : {E P Q : Type 0} (r : Result (Unit {0}) E) → (P → Q) → OnErr r P → OnErr r Q
on_err (Ok done) further is = tt
on_err (Err refused) further is = further is

pub stays_within : {E : Type 0} (r : Result (Unit {0}) E) (old new : List Run) (run : Run) (size : ℕ) → OnOk r (Extends old new run) → OnErr r (new ≡ old) → Within size old → run.end ≤ size → Within size new
stays_within (Ok done) old new run size more same within ends = more.within size within ends
stays_within (Err refused) old new run size more same within ends = subst (Within size) (sym same) within

pub table_kept : (size : ℕ) (owned blocks : List (List Run)) (image : ℕ) (old new : List Run) → image < length owned → old ≡ get_or owned image old
    → (Within size old → Within size new) → IsTable owned blocks size → IsTable (set owned image new) blocks size
table_kept size owned blocks image old new there_is is kept table = record {
  few = (let count = length-set owned image new in let few = table.few in omega (arith, count, few));
  same = table.same ∙ sym (length-set owned image new);
  within =
      let before : Within size (get_or owned image old) = All-get_or (Within size) owned image old there_is table.within in
      All-set (Within size) owned image new (kept (subst (Within size) (sym is) before)) table.within;
}

-- a refusal changes nothing
set_same : (sets : List (List Run)) (image : ℕ) (old new : List Run) → old ≡ get_or sets image old → new ≡ old → set sets image new ≡ sets
set_same sets image old new is same = ap (set sets image) (same ∙ is) ∙ set-get_or sets image old

pub owned_stays : (size : ℕ) (owned blocks : List (List Run)) (image : ℕ) (old new : List Run) → old ≡ get_or owned image old → new ≡ old → table_of size (set owned image new) blocks ≡ table_of size owned blocks
owned_stays size owned blocks image old new is same = ap (λ sets. table_of size sets blocks) (set_same owned image old new is same)

pub blocks_stay : (size : ℕ) (owned blocks : List (List Run)) (image : ℕ) (old new : List Run) → old ≡ get_or blocks image old → new ≡ old → table_of size owned (set blocks image new) ≡ table_of size owned blocks
blocks_stay size owned blocks image old new is same = ap (λ sets. table_of size owned sets) (set_same blocks image old new is same)

-- the spans of an image
pub owned_within : (size : ℕ) (owned blocks : List (List Run)) (image : ℕ) (found : List Run) → image < length owned → found ≡ get_or owned image found → IsTable owned blocks size → Within size found
owned_within size owned blocks image found within is table = subst (Within size) (sym is) (All-get_or (Within size) owned image found within table.within)

-- an image is asked
pub owned_is : (table : Owned) (image at : ℕ) (found : List Run) → image < length table.owned → found ≡ get_or table.owned image found → owned_at table image at ≡ is_owned found at
unfolding owned_at
owned_is table image at found within is = ap (λ runs. is_owned runs at) (there table.owned image found within is)

pub block_is : (table : Owned) (image at : ℕ) (found : List Run) → image < length table.blocks → found ≡ get_or table.blocks image found → block_at table image at ≡ is_owned found at
unfolding block_at
block_is table image at found within is = ap (λ runs. is_owned runs at) (there table.blocks image found within is)
