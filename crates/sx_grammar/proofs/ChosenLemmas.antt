-- What is accepted is the first form in the order of which a span begins there.
use Rattle.std.proofs.Common.{◌≡◌, ◌↔◌, inl, inr, ℕ, ◌<◌, ◌≤◌, List, [], ◌∷◌, ◌++◌, map, Option, Some, None, refl, sym, ap, subst, ◌∙◌, arith}
use Rattle.std.specs.List.{range_with_len}
use Rattle.sx_grammar.specs.declared.form.Form.{Form}
use Rattle.sx_grammar.specs.declared.form.Form.TheVariants.{Full, Tail, Types, Lost}
use Rattle.sx_grammar.specs.declared.shape.ShapeKey.{ShapeKey}
use Rattle.sx_grammar.specs.Sightings.{Sighting}
use Rattle.sx_grammar.specs.Forms.{Begins}
use Rattle.sx_grammar.specs.Clips.{Setting}
use Rattle.sx_grammar.specs.Choice.{Among, or_else, first_of, typed_form, lost_form, forms_of, HasForm, sighting_at, accepted_at, Rises, NoneBegins, IsChosen}
use Rattle.sx_grammar.proofs.FullLemmas.{full_taken, full_again}
use Rattle.sx_grammar.proofs.ClipLemmas.{tail_taken, tail_again}
use Rattle.sx_grammar.proofs.FrontLemmas.{types_taken, types_back, lost_taken, lost_back}

abbrev as_sighting : Sighting → Option Sighting → Sighting
as_sighting other None = other
as_sighting other (Some sighting) = sighting

-- the forms of which a span can be told: those with a column
abbrev Has : Form → Type 0
Has Full = Unit
Has (Tail e) = Unit
Has (Types n) = Unit
Has (Lost n alias) = 0 < n

form_taken : (usable : ℕ) (setting : Setting) (bytes : List ℕ) (form : Form) (sighting : Sighting) → 480 ≤ usable → Has form → sighting_at usable setting bytes form ≡ Some sighting
    → Begins (HasForm usable setting form) bytes sighting
unfolding sighting_at
form_taken usable setting bytes Full sighting least has found = full_taken usable bytes sighting least found
form_taken usable setting bytes (Tail e) sighting least has found = tail_taken e setting bytes sighting found
form_taken usable setting bytes (Types n) sighting least has found = types_taken n setting bytes sighting found
form_taken usable setting bytes (Lost n alias) sighting least has found = lost_taken n alias setting bytes sighting has found

pub form_again : (usable : ℕ) (setting : Setting) (bytes : List ℕ) (form : Form) (sighting : Sighting) → Begins (HasForm usable setting form) bytes sighting
    → sighting_at usable setting bytes form ≡ Some sighting
unfolding sighting_at
form_again usable setting bytes Full sighting begins = full_again usable bytes sighting begins
form_again usable setting bytes (Tail e) sighting begins = tail_again e setting bytes sighting begins
form_again usable setting bytes (Types n) sighting begins = types_back n setting bytes sighting begins
form_again usable setting bytes (Lost n alias) sighting begins = lost_back n alias setting bytes sighting begins

-- at most one span of a form begins at a place
pub one_sighting : (usable : ℕ) (setting : Setting) (bytes : List ℕ) (form : Form) (a b : Sighting) → Begins (HasForm usable setting form) bytes a → Begins (HasForm usable setting form) bytes b → a ≡ b
one_sighting usable setting bytes form a b first second =
    let one = form_again usable setting bytes form a first in
    let two = form_again usable setting bytes form b second in
    ap (as_sighting a) (sym one ∙ two)

-- ---- the first of a list

or_parts : (a b : Option Sighting) → or_else a b ≡ None → (a ≡ None) × (b ≡ None)
or_parts None b is = (refl, is)
or_parts (Some x) b is = absurd (cc)

not_first : (usable : ℕ) (setting : Setting) (bytes : List ℕ) (form : Form) (found : Option Sighting) → 480 ≤ usable → Has form → sighting_at usable setting bytes form ≡ found
    → ((sighting : Sighting) → Begins (HasForm usable setting form) bytes sighting → ⊥) → sighting_at usable setting bytes form ≡ None
not_first usable setting bytes form None least has is none = is
not_first usable setting bytes form (Some sighting) least has is none = absurd (none sighting (form_taken usable setting bytes form sighting least has is))

abbrev AllHave : List Form → Type 0
AllHave [] = Unit
AllHave (form ∷ forms) = Has form × AllHave forms

-- what is found of a list of forms
record IsFirst (usable : ℕ) (setting : Setting) (bytes : List ℕ) (forms : List Form) (sighting : Sighting) : Type 0 where
  pub before : List Form
  pub form : Form
  pub after : List Form
  pub order : forms ≡ before ++ (form ∷ after)
  pub begins : Begins (HasForm usable setting form) bytes sighting
  pub none : NoneBegins usable setting bytes before

nothing : (usable : ℕ) (setting : Setting) (bytes : List ℕ) (first : Form) (forms : List Form) → sighting_at usable setting bytes first ≡ None → NoneBegins usable setting bytes forms
    → NoneBegins usable setting bytes (first ∷ forms)
nothing usable setting bytes first forms found none form sighting (inl is) begins =
    let there = form_again usable setting bytes form sighting begins in
    let same : sighting_at usable setting bytes form ≡ None = ap (sighting_at usable setting bytes) (sym is) ∙ found in
    absurd (cc)
nothing usable setting bytes first forms found none form sighting (inr is) begins = none form sighting is begins

none_taken : (usable : ℕ) (setting : Setting) (bytes : List ℕ) (forms : List Form) → first_of (sighting_at usable setting bytes) forms ≡ None → NoneBegins usable setting bytes forms
unfolding first_of
none_taken usable setting bytes [] found = λ form sighting is begins. absurd is
none_taken usable setting bytes (first ∷ forms) found =
    let both = or_parts (sighting_at usable setting bytes first) (first_of (sighting_at usable setting bytes) forms) found in
    nothing usable setting bytes first forms both.0 (none_taken usable setting bytes forms both.1)

among_middle : {A : Type 0} (x : A) (before after : List A) → Among x (before ++ (x ∷ after))
among_middle x [] after = inl refl
among_middle x (y ∷ before) after = inr (among_middle x before after)

some_by : (usable : ℕ) (setting : Setting) (bytes : List ℕ) (first : Form) (forms : List Form) (sighting : Sighting) (one : Option Sighting)
    → sighting_at usable setting bytes first ≡ one → or_else one (first_of (sighting_at usable setting bytes) forms) ≡ Some sighting → 480 ≤ usable → Has first
    → (first_of (sighting_at usable setting bytes) forms ≡ Some sighting → IsFirst usable setting bytes forms sighting)
    → IsFirst usable setting bytes (first ∷ forms) sighting
some_by usable setting bytes first forms sighting None is found least has further =
    let rest = further found in
    record {
      before = first ∷ rest.before;
      form = rest.form;
      after = rest.after;
      order = ap (λ tail. first ∷ tail) rest.order;
      begins = rest.begins;
      none = nothing usable setting bytes first rest.before is rest.none;
    }
some_by usable setting bytes first forms sighting (Some other) is found least has further =
    record {
      before = [];
      form = first;
      after = forms;
      order = refl;
      begins = form_taken usable setting bytes first sighting least has (is ∙ found);
      none = λ form sighting among begins. absurd among;
    }

some_taken : (usable : ℕ) (setting : Setting) (bytes : List ℕ) (forms : List Form) (sighting : Sighting) → 480 ≤ usable → AllHave forms
    → first_of (sighting_at usable setting bytes) forms ≡ Some sighting → IsFirst usable setting bytes forms sighting
unfolding first_of
some_taken usable setting bytes [] sighting least has found = absurd (cc)
some_taken usable setting bytes (first ∷ forms) sighting least has found =
    some_by usable setting bytes first forms sighting (sighting_at usable setting bytes first) refl found least has.0
    (λ rest. some_taken usable setting bytes forms sighting least has.1 rest)

none_again : (usable : ℕ) (setting : Setting) (bytes : List ℕ) (forms : List Form) (found : Option Sighting) → 480 ≤ usable → AllHave forms
    → first_of (sighting_at usable setting bytes) forms ≡ found → NoneBegins usable setting bytes forms → found ≡ None
none_again usable setting bytes forms None least has is none = refl
none_again usable setting bytes forms (Some sighting) least has is none =
    let first = some_taken usable setting bytes forms sighting least has is in
    absurd (none first.form sighting (subst (Among first.form) (sym first.order) (among_middle first.form first.before first.after)) first.begins)

-- ---- the forms of shapes

have_append : (xs ys : List Form) → AllHave xs → AllHave ys → AllHave (xs ++ ys)
have_append [] ys first second = second
have_append (x ∷ xs) ys first second = (first.0, have_append xs ys first.1 second)

have_tails : (es : List ℕ) → AllHave (map Tail es)
have_tails [] = tt
have_tails (e ∷ es) = (tt, have_tails es)

have_types : (shapes : List ShapeKey) → AllHave (map typed_form shapes)
have_types [] = tt
have_types (shape ∷ shapes) = (tt, have_types shapes)

have_lost : (shapes : List ShapeKey) (least : ℕ) → 1 ≤ least → Rises least shapes → AllHave (map lost_form shapes)
have_lost [] least some rises = tt
have_lost (shape ∷ shapes) least some rises = (omega (arith, rises.0), have_lost shapes shape.columns (omega (arith, rises.0)) rises.1)

all_have : (shapes : List ShapeKey) → Rises 1 shapes → AllHave (forms_of shapes)
unfolding forms_of
all_have shapes rises = (
  tt,
  have_append (map Tail (range_with_len 0 9)) (map typed_form shapes ++ map lost_form shapes) (have_tails (range_with_len 0 9))
      (have_append (map typed_form shapes) (map lost_form shapes) (have_types shapes) (have_lost shapes 1 (omega arith) rises)),
)

-- nothing is accepted exactly where no form has a span there
pub none_both : (usable : ℕ) (shapes : List ShapeKey) (setting : Setting) (bytes : List ℕ) → 480 ≤ usable → Rises 1 shapes
    → (accepted_at usable shapes setting bytes ≡ None) ↔ NoneBegins usable setting bytes (forms_of shapes)
unfolding accepted_at
none_both usable shapes setting bytes least rises = (
  none_taken usable setting bytes (forms_of shapes),
  λ none.
      let is = none_again usable setting bytes (forms_of shapes) (first_of (sighting_at usable setting bytes) (forms_of shapes)) least (all_have shapes rises) refl none in is,
)

-- what is accepted is the first form in the order
pub chosen_taken : (usable : ℕ) (shapes : List ShapeKey) (setting : Setting) (bytes : List ℕ) (sighting : Sighting) → 480 ≤ usable → Rises 1 shapes
    → accepted_at usable shapes setting bytes ≡ Some sighting → IsChosen usable shapes setting bytes sighting
unfolding accepted_at
chosen_taken usable shapes setting bytes sighting least rises found =
    let first = some_taken usable setting bytes (forms_of shapes) sighting least (all_have shapes rises) found in
    record { before = first.before; form = first.form; after = first.after; order = first.order; begins = first.begins; none = first.none }

-- and the first form in the order is accepted
first_found : (usable : ℕ) (setting : Setting) (bytes : List ℕ) (before after : List Form) (form : Form) (sighting : Sighting) → 480 ≤ usable → AllHave (before ++ (form ∷ after))
    → NoneBegins usable setting bytes before → Begins (HasForm usable setting form) bytes sighting
    → first_of (sighting_at usable setting bytes) (before ++ (form ∷ after)) ≡ Some sighting
unfolding first_of
first_found usable setting bytes [] after form sighting least has none begins = rw (form_again usable setting bytes form sighting begins) refl
first_found usable setting bytes (first ∷ before) after form sighting least has none begins =
    let here : sighting_at usable setting bytes first ≡ None = not_first usable setting bytes first (sighting_at usable setting bytes first) least has.0 refl (λ other is. none first other (inl refl) is) in
    rw here (first_found usable setting bytes before after form sighting least has.1 (λ other seen among is. none other seen (inr among) is) begins)

pub chosen_again : (usable : ℕ) (shapes : List ShapeKey) (setting : Setting) (bytes : List ℕ) (sighting : Sighting) → 480 ≤ usable → Rises 1 shapes
    → IsChosen usable shapes setting bytes sighting → accepted_at usable shapes setting bytes ≡ Some sighting
unfolding accepted_at
chosen_again usable shapes setting bytes sighting least rises chosen =
    ap (first_of (sighting_at usable setting bytes)) chosen.order
    ∙ first_found usable setting bytes chosen.before chosen.after chosen.form sighting least (subst AllHave chosen.order (all_have shapes rises)) chosen.none chosen.begins

pub chosen_both : (usable : ℕ) (shapes : List ShapeKey) (setting : Setting) (bytes : List ℕ) (sighting : Sighting) → 480 ≤ usable → Rises 1 shapes
    → (accepted_at usable shapes setting bytes ≡ Some sighting) ↔ IsChosen usable shapes setting bytes sighting
chosen_both usable shapes setting bytes sighting least rises = (chosen_taken usable shapes setting bytes sighting least rises, chosen_again usable shapes setting bytes sighting least rises)
