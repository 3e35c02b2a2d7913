-- The same as a table of references tells it. No definition of an answer goes through it.
use Rattle.std.specs.Prelude.{◌≡◌, ℕ, zero, suc, ◌+◌, ◌-◌, ◌≤◌, ◌&&◌, ◌==◌, Bool, false, List, [], ◌∷◌, length, Option, Some, None}
use Rattle.std.specs.List.{list_any, range_with_len}
use Rattle.sx_base.specs.Labels.{is_owning}
use Rattle.sx_base.specs.declared.evidence.Place.{Place}
use Rattle.sx_base.specs.declared.evidence.Span.{Span}
use Rattle.sx_base.specs.declared.label.Label.{Label}
use Rattle.sx_base.specs.declared.layout.Layout.{Layout}
use Rattle.sx_base.specs.declared.role.Role.{Role}
use Rattle.sx_closure.specs.Tallying.{Table, one_at}
use Rattle.sx_prov.specs.Keys.{table_labels}
use Rattle.sx_owned.specs.Spans.{in_span}
use Rattle.sx_moment.specs.Gathered.{Gathered}
use Rattle.sx_moment.specs.Heads.{IsLayout}
use Rattle.sx_owned.specs.Owned.{Owned, images_of as owned_images}
use Rattle.sx_images.specs.declared.image.Image.{Image}
use Rattle.sx_images.specs.Images.{Table as ImageTable, images_of}
use Rattle.sx_sweep.specs.Owning.{is_viewed, one_begins, role_begins}

-- the label of a byte is one of those of what the database uses
unfoldable pub owning_in : List Label → ℕ → Bool
owning_in [] at = false
owning_in (label ∷ labels) zero = is_owning label
owning_in (label ∷ labels) (suc at) = owning_in labels at

-- a run of such a label holds a byte
abbrev pub run_owns : Span × Label → ℕ → Bool
run_owns run at = is_owning run.1 && in_span at run.0

-- some run does
unfoldable pub runs_own : List (Span × Label) → ℕ → Bool
runs_own runs at = list_any (λ run. run_owns run at) runs

-- a block of a page begins there that is named in this role alone
abbrev pub named_begins : Option Role → List ℕ → ℕ → ℕ → ℕ → Bool
named_begins None bytes page usable at = false
named_begins (Some role) bytes page usable at = role_begins role bytes page usable at

-- a test for the places of one image
abbrev pub only_in : ℕ → (ℕ → Bool) → ℕ → ℕ → Bool
only_in image passes other at = (other == image) && passes at

-- each run ends by this place
abbrev pub RunsIn : ℕ → List (Span × Label) → Type 0
RunsIn size [] = Unit {0}
RunsIn size (run ∷ runs) = (run.0.start + run.0.len ≤ size) × RunsIn size runs

-- what a page owns, and where its blocks begin, as the table tells it
unfoldable pub told_owns : Table → Layout → (ℕ → Option (List ℕ)) → (ℕ → Option Place) → List Image → ℕ → ℕ → ℕ → Bool
told_owns table layout view source images image at page = is_viewed images (source page) image && owning_in (table_labels table layout view page) at

unfoldable pub told_begins : Table → Layout → (ℕ → Option (List ℕ)) → (ℕ → Option Place) → List Image → ℕ → ℕ → ℕ → Bool
told_begins table layout view source images image at page =
    is_viewed images (source page) image && one_begins (one_at table page) (view page) page layout.usable at

-- some page above a number, up to a size, passes
unfoldable pub any_above : (ℕ → Bool) → ℕ → ℕ → Bool
any_above passes after size = list_any passes (range_with_len (after + 1) (size - after))

-- what the pages of a moment are gone over with: its layout, images of its page size, and what is known of these images
pub record IsSwept (case : Gathered) (layout : Layout) (images : ImageTable) (owned : Owned) : Type 0 where
  pub layout_is : IsLayout layout
  pub pages : layout.page_size ≡ case.header.page_size
  pub same : images.page_size ≡ layout.page_size
  pub size : owned.page_size ≡ layout.page_size
  pub count : owned_images owned ≡ length (images_of images)
