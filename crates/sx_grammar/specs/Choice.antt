-- Which form is chosen where several accept: the first in a fixed order.
use Rattle.std.specs.Prelude.{◌≡◌, ◌⊎◌, ℕ, ◌-◌, ◌≤◌, Bool, List, [], ◌∷◌, ◌++◌, map, Option, Some, None}
use Rattle.std.specs.List.{range_with_len}
use Rattle.sx_grammar.specs.declared.form.Form.{Form}
use Rattle.sx_grammar.specs.declared.form.Form.TheVariants.{Full, Tail, Types, Lost}
use Rattle.sx_grammar.specs.declared.shape.ShapeKey.{ShapeKey}
use Rattle.sx_grammar.specs.Sightings.{Sighting}
use Rattle.sx_grammar.specs.Full.{full_at}
use Rattle.sx_grammar.specs.Forms.{IsFull, Begins}
use Rattle.sx_grammar.specs.Clips.{Setting, IsTail, tail_in, tail_at}
use Rattle.sx_grammar.specs.Fronts.{IsTyped, IsLost, types_in, types_at, lost_in, lost_at}

-- an item of a list
abbrev pub Among : {A : Type 0} → A → List A → Type 0
Among x [] = ⊥
Among x (y ∷ ys) = (y ≡ x) ⊎ Among x ys

-- the one, or where there is none the other
abbrev pub or_else : {A : Type 0} → Option A → Option A → Option A
or_else None other = other
or_else (Some x) other = Some x

-- what is found for the first item for which there is something
unfoldable pub first_of : {A B : Type 0} → (A → Option B) → List A → Option B
first_of find [] = None
first_of find (x ∷ xs) = or_else (find x) (first_of find xs)

-- the form of a shape's types
abbrev pub typed_form : ShapeKey → Form
typed_form shape = Types shape.columns

-- the form of a shape whose first type is lost
abbrev pub lost_form : ShapeKey → Form
lost_form shape = Lost shape.columns shape.alias

-- the forms in the order of choice: shapes rise by their columns, an alias first
unfoldable pub forms_of : List ShapeKey → List Form
forms_of shapes = Full ∷ (map Tail (range_with_len 0 9) ++ (map typed_form shapes ++ map lost_form shapes))

-- a span has a form
abbrev pub HasForm : ℕ → Setting → Form → List ℕ → Sighting → Type 0
HasForm usable setting Full = IsFull usable
HasForm usable setting (Tail e) = IsTail e setting
HasForm usable setting (Types n) = IsTyped n setting
HasForm usable setting (Lost n alias) = IsLost n alias setting

-- the span of a form at the front
unfoldable pub sighting_at : ℕ → Setting → List ℕ → Form → Option Sighting
sighting_at usable setting bytes Full = full_at usable bytes
sighting_at usable setting bytes (Tail e) = tail_at e setting bytes
sighting_at usable setting bytes (Types n) = types_at n setting bytes
sighting_at usable setting bytes (Lost n alias) = lost_at n alias setting bytes

-- the candidate at the front: the first form in the order whose span begins there
unfoldable pub accepted_at : ℕ → List ShapeKey → Setting → List ℕ → Option Sighting
accepted_at usable shapes setting bytes = first_of (sighting_at usable setting bytes) (forms_of shapes)

-- ---- the same, with what the clipped forms share read once

-- the columns of the shapes rise, from so many on
abbrev pub Rises : ℕ → List ShapeKey → Type 0
Rises least [] = Unit
Rises least (shape ∷ shapes) = (least ≤ shape.columns) × Rises shape.columns shapes

-- the first tail with so many bytes of the rowid or more, of what may stand behind the four bytes
unfoldable pub tails_from : Setting → List ℕ → ℕ → Option Sighting
tails_from setting behind e = first_of (λ e. tail_in e setting behind) (range_with_len e (9 - e))

-- the types of the first shape that fit
unfoldable pub types_from : Setting → List ℕ → List ShapeKey → Option Sighting
types_from setting behind shapes = first_of (λ shape. types_in shape.columns setting behind) shapes

-- the lost types of the first shape that fit
unfoldable pub lost_from : Setting → Bool → List ℕ → List ShapeKey → Option Sighting
lost_from setting whole behind shapes = first_of (λ shape. lost_in shape.columns shape.alias setting whole behind) shapes

-- the first clipped form
unfoldable pub clipped_in : List ShapeKey → Setting → Bool → List ℕ → Option Sighting
clipped_in shapes setting whole behind =
    or_else (tails_from setting behind 0) (or_else (types_from setting behind shapes) (lost_from setting whole behind shapes))

-- no form of the list has a span at the front
abbrev pub NoneBegins : ℕ → Setting → List ℕ → List Form → Type 0
NoneBegins usable setting bytes forms = (form : Form) (sighting : Sighting) → Among form forms → Begins (HasForm usable setting form) bytes sighting → ⊥

-- the span of a form is at the front, and no form before it in the list has one there
pub record IsChosen (usable : ℕ) (shapes : List ShapeKey) (setting : Setting) (bytes : List ℕ) (sighting : Sighting) : Type 0 where
  pub before : List Form
  pub form : Form
  pub after : List Form
  pub order : forms_of shapes ≡ before ++ (form ∷ after)
  pub begins : Begins (HasForm usable setting form) bytes sighting
  pub none : NoneBegins usable setting bytes before

-- where a span begins, on pages with so many usable bytes
abbrev pub setting_of : ℕ → Bool → ℕ → Setting
setting_of offset block usable = record { offset = offset; block = block; longest = usable - 35 }
