-- The files that images stand in, and what is asked of images and of what is owned of them.
use Rattle.std.specs.Prelude.{◌≡◌, ℕ, ◌≤◌, List, Option, length}
use Rattle.sx_base.specs.declared.evidence.Part.{Part}
use Rattle.sx_base.specs.declared.evidence.Part.TheVariants.{Database, Wal, Journal}
use Rattle.sx_moment.specs.Gathered.{bytes_in}
use Rattle.sx_images.specs.Images.{Table, images_of, length_of}
use Rattle.sx_owned.specs.Owned.{Owned, images_of as owned_images}
use Rattle.sx_grammar.specs.declared.shape.ShapeKey.{ShapeKey}
use Rattle.sx_grammar.specs.Choice.{Rises}

-- the bytes of each of the three files; none where it is absent
abbrev pub evidence_bytes : List ℕ → Option (List ℕ) → Option (List ℕ) → Part → List ℕ
evidence_bytes database wal journal Database = database
evidence_bytes database wal journal Wal = bytes_in wal
evidence_bytes database wal journal Journal = bytes_in journal

-- the images are those of files of these bytes: the lengths are theirs
pub record AreOf (files : Part → List ℕ) (table : Table) : Type 0 where
  pub database : length_of table.lengths Database ≡ length (files Database)
  pub wal : length_of table.lengths Wal ≡ length (files Wal)
  pub journal : length_of table.lengths Journal ≡ length (files Journal)

-- what is owned is told for these images, and for pages of their size, that many bytes of which can be used
pub record Fit (usable : ℕ) (shapes : List ShapeKey) (table : Table) (owned : Owned) : Type 0 where
  pub count : owned_images owned ≡ length (images_of table)
  pub size : owned.page_size ≡ table.page_size
  pub large : table.page_size ≤ 65536
  pub least : 480 ≤ usable
  pub within : usable ≤ table.page_size
  pub rise : Rises 1 shapes
