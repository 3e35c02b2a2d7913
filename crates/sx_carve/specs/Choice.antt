-- What the candidate at an offset is, told by whole spans.
use Rattle.std.specs.Prelude.{◌≡◌, ℕ, ◌+◌, ◌<◌, Bool, false, List, ◌∷◌, ◌++◌, length}
use Rattle.sx_grammar.specs.declared.form.Form.{Form}
use Rattle.sx_grammar.specs.declared.shape.ShapeKey.{ShapeKey}
use Rattle.sx_grammar.specs.Sightings.{Sighting}
use Rattle.sx_grammar.specs.Clips.{Setting}
use Rattle.sx_grammar.specs.Choice.{Among, forms_of, HasForm}

-- none of so many bytes from an offset on is owned
abbrev pub IsUnowned : (ℕ → Bool) → ℕ → ℕ → Type 0
IsUnowned owned at len = (k : ℕ) → k < len → owned (at + k) ≡ false

-- a span of a form begins these bytes of an image, which stand at an offset, and none of its bytes is owned
pub record BeginsUnowned (owned : ℕ → Bool) (at : ℕ) (form : List ℕ → Sighting → Type 0) (bytes : List ℕ) (sighting : Sighting) : Type 0 where
  pub span : List ℕ
  pub rest : List ℕ
  pub parts : bytes ≡ span ++ rest
  pub unowned : IsUnowned owned at (length span)
  pub accepts : form span sighting

-- no form of the list has such a span
abbrev pub NoneUnowned : (ℕ → Bool) → ℕ → ℕ → Setting → List ℕ → List Form → Type 0
NoneUnowned owned at usable setting bytes forms =
    (form : Form) (sighting : Sighting) → Among form forms → BeginsUnowned owned at (HasForm usable setting form) bytes sighting → ⊥

-- a form has such a span, and no form before it in the order has one
pub record IsFirstUnowned (owned : ℕ → Bool) (at usable : ℕ) (shapes : List ShapeKey) (setting : Setting) (bytes : List ℕ) (sighting : Sighting) : Type 0 where
  pub before : List Form
  pub form : Form
  pub after : List Form
  pub order : forms_of shapes ≡ before ++ (form ∷ after)
  pub begins : BeginsUnowned owned at (HasForm usable setting form) bytes sighting
  pub none : NoneUnowned owned at usable setting bytes before
