-- Each image lies in its file.
use Rattle.std.proofs.Common.{◌≡◌, ℕ, suc, ◌+◌, ◌-◌, ◌*◌, ◌/◌, ◌<◌, ◌^◌, ◌≤◌, Some, slice_get, inl, inr, sym, ap, ◌∙◌, arith, subst}
use Rattle.std.proofs.Math.Nat.{mul-le-mul_right}
use Rattle.std.proofs.lemmas.Bool.{cases_lt}
use Rattle.sx_base.specs.declared.evidence.Part.{Part}
use Rattle.sx_base.specs.declared.evidence.Part.TheVariants.{Database, Wal, Journal}
use Rattle.sx_images.specs.declared.image.Image.{Image as PageImage}
use Rattle.sx_images.specs.Images.{Table, length_of, pages_of, page_image, images_of}
use Rattle.sx_images.specs.Read.{IsTable}
use Rattle.sx_images.proofs.Imaged.{page_there, stored_there, some_image}

-- so many whole pages have no more bytes than their file
page_lies : (size len i : ℕ) → 0 < size → i < len / size → i * size + size ≤ len
page_lies size len i some within =
    let more : suc i * size ≤ len / size * size = mul-le-mul_right size within in
    omega (arith, more)

-- an image lies in a file of this length
abbrev Lies : Table → PageImage → Type 0
Lies table image = image.offset + table.page_size ≤ length_of table.lengths image.part

stored_lies : (table : Table) (k : ℕ) (image : PageImage) → IsTable table → slice_get table.stored k ≡ Some image → Lies table image
stored_lies table k image laid is =
    elim (cases_lt k table.frames) [
      | inl low ↦
          let one = laid.frames k image low is in
          rw one.0 one.2
      | inr high ↦
          let back : table.frames + (k - table.frames) ≡ k = omega (arith, high) in
          let one = laid.records (k - table.frames) image (ap (slice_get table.stored) back ∙ is) in
          rw one.0 one.1
    ]

pub images_lie : (table : Table) (i : ℕ) (image : PageImage) → IsTable table → slice_get (images_of table) i ≡ Some image → Lies table image
images_lie table i image laid is =
    elim (cases_lt i (pages_of table)) [
      | inl low ↦
          let one = some_image (page_image table.page_size i) image (sym (page_there table i low) ∙ is) in
          subst (Lies table) one (page_lies table.page_size table.lengths.database i laid.some low)
      | inr high ↦
          let k = i - pages_of table in
          let back : pages_of table + k ≡ i = omega (arith, high) in
          stored_lies table k image laid (sym (stored_there table k) ∙ ap (slice_get (images_of table)) back ∙ is)
    ]

file_small : (table : Table) (part : Part) → IsTable table → length_of table.lengths part < 2 ^ 32
file_small table Database laid = laid.small.database
file_small table Wal laid = laid.small.wal
file_small table Journal laid = laid.small.journal

pub images_small : (table : Table) (i : ℕ) (image : PageImage) → IsTable table → slice_get (images_of table) i ≡ Some image → image.offset < 2 ^ 32
images_small table i image laid is = omega (arith, images_lie table i image laid is, file_small table image.part laid)
