-- The candidate at an offset, told by whole spans.
use Rattle.std.proofs.Common.{◌≡◌, ◌↔◌, ℕ, zero, suc, ◌+◌, ◌≤◌, Bool, true, false, if◌then◌else◌, List, [], ◌∷◌, ◌++◌, length, is_some, Some, None, refl, sym, ap, ◌∙◌, subst, arith, add-zero}
use Rattle.sx_owned.specs.Owned.{Owned, owned_at, block_at}
use Rattle.sx_grammar.specs.declared.form.Form.{Form}
use Rattle.sx_grammar.specs.declared.shape.ShapeKey.{ShapeKey}
use Rattle.sx_grammar.specs.Sightings.{Sighting}
use Rattle.sx_grammar.specs.Forms.{Begins}
use Rattle.sx_grammar.specs.Freed.{IsFreed}
use Rattle.sx_grammar.specs.Clips.{Setting}
use Rattle.sx_grammar.specs.Choice.{setting_of, forms_of, HasForm, accepted_at, Rises, NoneBegins}
use Rattle.sx_grammar.proofs.ChosenLemmas.{none_both, chosen_both}
use Rattle.sx_grammar.proofs.FreedLemmas.{freed_accepted}
use Rattle.sx_carve.specs.Candidates.{told_by, unowned_front, candidate_at}
use Rattle.sx_carve.specs.Choice.{IsUnowned, BeginsUnowned, NoneUnowned, IsFirstUnowned}

-- ---- spans at the front

front_if : (owned : ℕ → Bool) (at byte : ℕ) (bytes : List ℕ) (is : Bool) → owned at ≡ is → unowned_front owned at (byte ∷ bytes) ≡ (if is then [] else byte ∷ unowned_front owned (at + 1) bytes)
unfolding unowned_front
front_if owned at byte bytes is told = rw told refl

-- a span of which nothing is owned is the front of what isn't
pub span_front : (span : List ℕ) (owned : ℕ → Bool) (at : ℕ) (rest : List ℕ) → IsUnowned owned at (length span)
    → unowned_front owned at (span ++ rest) ≡ span ++ unowned_front owned (at + length span) rest
span_front [] owned at rest free = let same : at ≡ at + 0 = omega arith in ap (λ k. unowned_front owned k rest) same
span_front (byte ∷ span) owned at rest free =
    let here : owned at ≡ false = subst (λ k. owned k ≡ false) (add-zero at) (free 0 (omega arith)) in
    let more : (k : ℕ) → at + 1 + k ≡ at + suc k = λ k. omega arith in
    front_if owned at byte (span ++ rest) false here
    ∙ ap (λ tail. byte ∷ tail) (span_front span owned (at + 1) rest (λ k below. ap owned (more k) ∙ free (suc k) (omega arith)))
    ∙ ap (λ k. byte ∷ (span ++ unowned_front owned k rest)) (more (length span))

-- a span that begins what isn't owned
record IsFront (owned : ℕ → Bool) (at : ℕ) (bytes span : List ℕ) : Type 0 where
  rest : List ℕ
  parts : bytes ≡ span ++ rest
  unowned : IsUnowned owned at (length span)

unowned_more : (owned : ℕ → Bool) (at len : ℕ) → owned at ≡ false → IsUnowned owned (at + 1) len → IsUnowned owned at (suc len)
unowned_more owned at len here free zero below = ap owned (add-zero at) ∙ here
unowned_more owned at len here free (suc k) below = let more : at + suc k ≡ at + 1 + k = omega arith in ap owned more ∙ free k (omega arith)

longer : (owned : ℕ → Bool) (at byte : ℕ) (bytes span : List ℕ) → owned at ≡ false → IsFront owned (at + 1) bytes span → IsFront owned at (byte ∷ bytes) (byte ∷ span)
longer owned at byte bytes span here front = record {
  rest = front.rest;
  parts = ap (λ tail. byte ∷ tail) front.parts;
  unowned = unowned_more owned at (length span) here front.unowned;
}

spans_by : (owned : ℕ → Bool) (at first byte : ℕ) (bytes span rest : List ℕ) (is : Bool) → owned at ≡ is
    → (if is then [] else first ∷ unowned_front owned (at + 1) bytes) ≡ byte ∷ (span ++ rest)
    → (unowned_front owned (at + 1) bytes ≡ span ++ rest → IsFront owned (at + 1) bytes span)
    → IsFront owned at (first ∷ bytes) (byte ∷ span)
spans_by owned at first byte bytes span rest true told same further = absurd (cc)
spans_by owned at first byte bytes span rest false told same further =
    let one : byte ≡ first = cc in
    let tails : unowned_front owned (at + 1) bytes ≡ span ++ rest = cc in
    subst (λ b. IsFront owned at (first ∷ bytes) (b ∷ span)) (sym one) (longer owned at first bytes span told (further tails))

front_empty : (owned : ℕ → Bool) (at : ℕ) → unowned_front owned at [] ≡ []
unfolding unowned_front
front_empty owned at = refl

-- a span that begins what isn't owned begins the bytes, and nothing of it is owned
front_spans : (span : List ℕ) (owned : ℕ → Bool) (at : ℕ) (bytes rest : List ℕ) → unowned_front owned at bytes ≡ span ++ rest → IsFront owned at bytes span
front_spans [] owned at bytes rest same = record { rest = bytes; parts = refl; unowned = λ k below. absurd (omega arith) }
front_spans (byte ∷ span) owned at [] rest same = let none = sym (front_empty owned at) ∙ same in absurd (cc)
front_spans (byte ∷ span) owned at (first ∷ bytes) rest same =
    spans_by owned at first byte bytes span rest (owned at) refl (sym (front_if owned at first bytes (owned at) refl) ∙ same)
    (λ tails. front_spans span owned (at + 1) bytes rest tails)

to_unowned : (owned : ℕ → Bool) (at usable : ℕ) (setting : Setting) (form : Form) (bytes : List ℕ) (sighting : Sighting) → Begins (HasForm usable setting form) (unowned_front owned at bytes) sighting
    → BeginsUnowned owned at (HasForm usable setting form) bytes sighting
to_unowned owned at usable setting form bytes sighting begins =
    let front = front_spans begins.span owned at bytes begins.rest begins.parts in
    record { span = begins.span; rest = front.rest; parts = front.parts; unowned = front.unowned; accepts = begins.accepts }

from_unowned : (owned : ℕ → Bool) (at usable : ℕ) (setting : Setting) (form : Form) (bytes : List ℕ) (sighting : Sighting) → BeginsUnowned owned at (HasForm usable setting form) bytes sighting
    → Begins (HasForm usable setting form) (unowned_front owned at bytes) sighting
from_unowned owned at usable setting form bytes sighting begins = record {
  span = begins.span;
  rest = unowned_front owned (at + length begins.span) begins.rest;
  parts = ap (unowned_front owned at) begins.parts ∙ span_front begins.span owned at begins.rest begins.unowned;
  accepts = begins.accepts;
}

-- ---- the candidate

none_to : (owned : ℕ → Bool) (at usable : ℕ) (setting : Setting) (bytes : List ℕ) (forms : List Form) → NoneBegins usable setting (unowned_front owned at bytes) forms → NoneUnowned owned at usable setting bytes forms
none_to owned at usable setting bytes forms none = λ form sighting among begins. none form sighting among (from_unowned owned at usable setting form bytes sighting begins)

none_from : (owned : ℕ → Bool) (at usable : ℕ) (setting : Setting) (bytes : List ℕ) (forms : List Form) → NoneUnowned owned at usable setting bytes forms → NoneBegins usable setting (unowned_front owned at bytes) forms
none_from owned at usable setting bytes forms none = λ form sighting among begins. none form sighting among (to_unowned owned at usable setting form bytes sighting begins)

pub no_candidate : (usable : ℕ) (shapes : List ShapeKey) (table : Owned) (image at : ℕ) (bytes : List ℕ) → 480 ≤ usable → Rises 1 shapes
    → (candidate_at usable shapes (told_by table) image at bytes ≡ None) ↔ NoneUnowned (owned_at table image) at usable (setting_of at (block_at table image at) usable) bytes (forms_of shapes)
unfolding candidate_at
no_candidate usable shapes table image at bytes least rises =
    let owned = owned_at table image in
    let setting = setting_of at (block_at table image at) usable in
    let both = none_both usable shapes setting (unowned_front owned at bytes) least rises in
    (λ is. none_to owned at usable setting bytes (forms_of shapes) (both.0 is), λ none. both.1 (none_from owned at usable setting bytes (forms_of shapes) none))

pub one_candidate : (usable : ℕ) (shapes : List ShapeKey) (table : Owned) (image at : ℕ) (bytes : List ℕ) (sighting : Sighting) → 480 ≤ usable → Rises 1 shapes
    → (candidate_at usable shapes (told_by table) image at bytes ≡ Some sighting) ↔ IsFirstUnowned (owned_at table image) at usable shapes (setting_of at (block_at table image at) usable) bytes sighting
unfolding candidate_at
one_candidate usable shapes table image at bytes sighting least rises =
    let owned = owned_at table image in
    let setting = setting_of at (block_at table image at) usable in
    let both = chosen_both usable shapes setting (unowned_front owned at bytes) sighting least rises in (
      λ is. (
          let chosen = both.0 is in
          record {
            before = chosen.before;
            form = chosen.form;
            after = chosen.after;
            order = chosen.order;
            begins = to_unowned owned at usable setting chosen.form bytes sighting chosen.begins;
            none = none_to owned at usable setting bytes chosen.before chosen.none;
          }),
      λ chosen. both.1 (record {
        before = chosen.before;
        form = chosen.form;
        after = chosen.after;
        order = chosen.order;
        begins = from_unowned owned at usable setting chosen.form bytes sighting chosen.begins;
        none = none_from owned at usable setting bytes chosen.before chosen.none;
      }),
    )

pub freed_candidate : (usable : ℕ) (shapes : List ShapeKey) (table : Owned) (image at : ℕ) (span rest : List ℕ) → usable ≤ 65536
    → IsFreed shapes (setting_of at (block_at table image at) usable) span → IsUnowned (owned_at table image) at (length span)
    → is_some (candidate_at usable shapes (told_by table) image at (span ++ rest)) ≡ true
unfolding candidate_at
freed_candidate usable shapes table image at span rest most freed unowned =
    let owned = owned_at table image in
    let setting = setting_of at (block_at table image at) usable in
    ap (λ front. is_some (accepted_at usable shapes setting front)) (span_front span owned at rest unowned)
    ∙ freed_accepted shapes usable setting span (unowned_front owned (at + length span) rest) (omega arith) freed
