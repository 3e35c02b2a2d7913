-- The images stand in order, and none reaches into the next.
use Rattle.std.proofs.Common.{◌≡◌, ◌⊎◌, ℕ, suc, ◌+◌, ◌-◌, ◌*◌, ◌<◌, ◌≤◌, List, [], ◌∷◌, length, Some, slice_get, get_or, inl, inr, refl, sym, ap, ◌∙◌, arith, subst}
use Rattle.std.specs.List.{flat_map}
use Rattle.std.proofs.Math.Nat.{mul-le-mul_right}
use Rattle.std.proofs.lemmas.Bool.{cases_lt}
use Rattle.sx_base.specs.declared.evidence.Part.TheVariants.{Wal, Journal}
use Rattle.sx_wal.specs.Frames.{frame_len}
use Rattle.sx_journal.specs.Segments.{record_len}
use Rattle.sx_images.specs.declared.image.Image.{Image as PageImage}
use Rattle.sx_images.specs.declared.stretch.Stretch.{Stretch}
use Rattle.sx_images.specs.Images.{Table, pages_of, page_image, images_of, IsBefore}
use Rattle.sx_images.specs.Places.{records_end}
use Rattle.sx_images.specs.Read.{Follow, run_offsets, IsTable}
use Rattle.sx_images.proofs.Imaged.{page_there, stored_there, some_image, own_offset, later_offset, all_offsets, record_offset}

-- ---- the records of a journal

-- each record of the runs from one on begins behind a place
offset_from : (table : Table) (least first m : ℕ) (runs : List Stretch) → Follow table least first runs → m < length (flat_map (run_offsets table) runs)
    → least ≤ get_or (flat_map (run_offsets table) runs) m 0
offset_from table least first m [] follow within = absurd (omega arith)
offset_from table least first m (run ∷ rest) follow within =
    let others = flat_map (run_offsets table) rest in
    elim (cases_lt m run.entries) [
      | inl here ↦ omega (arith, own_offset table run others m here, follow.0)
      | inr past ↦
          let later = offset_from table (records_end table run) (first + run.entries) (m - run.entries) rest follow.2 (omega (arith, within, all_offsets table run others, past)) in
          omega (arith, later_offset table run others m past, later, follow.0)
    ]

row_before : (size m n : ℕ) → m < n → m * size + size ≤ n * size
row_before size m n before = let more : suc m * size ≤ n * size = mul-le-mul_right size before in omega (arith, more)

offsets_rise : (table : Table) (least first m n : ℕ) (runs : List Stretch) → Follow table least first runs → m < n → n < length (flat_map (run_offsets table) runs)
    → get_or (flat_map (run_offsets table) runs) m 0 + table.page_size ≤ get_or (flat_map (run_offsets table) runs) n 0
offsets_rise table least first m n [] follow before within = absurd (omega arith)
offsets_rise table least first m n (run ∷ rest) follow before within =
    let others = flat_map (run_offsets table) rest in
    let size = record_len table.page_size in
    elim (cases_lt n run.entries) [
      | inl here ↦
          let row = row_before size m n before in
          omega (arith, own_offset table run others m (omega (arith, before, here)), own_offset table run others n here, row)
      | inr past ↦
          let inside : n - run.entries < length others = omega (arith, within, all_offsets table run others, past) in
          let at = later_offset table run others n past in
          elim (cases_lt m run.entries) [
            | inl here ↦
                let row = row_before size m run.entries here in
                let later = offset_from table (records_end table run) (first + run.entries) (n - run.entries) rest follow.2 inside in
                omega (arith, own_offset table run others m here, at, row, later)
            | inr also ↦
                let later = offsets_rise table (records_end table run) (first + run.entries) (m - run.entries) (n - run.entries) rest follow.2 (omega (arith, before, also)) inside in
                omega (arith, later_offset table run others m also, at, later)
          ]
    ]

-- ---- all images

stored_before : (table : Table) (k l : ℕ) (first second : PageImage) → IsTable table → k < l → slice_get table.stored k ≡ Some first → slice_get table.stored l ≡ Some second
    → IsBefore table.page_size first second
stored_before table k l first second laid before is also =
    elim (cases_lt l table.frames) [
      | inl low ↦
          let one = laid.frames k first (omega (arith, before, low)) is in
          let two = laid.frames l second low also in
          let row = row_before (frame_len table.page_size) k l before in
          inr (one.0 ∙ sym two.0, omega (arith, one.1, two.1, row))
      | inr high ↦
          let n = l - table.frames in
          let there : slice_get table.stored (table.frames + n) ≡ Some second = let back : table.frames + n ≡ l = omega (arith, high) in ap (slice_get table.stored) back ∙ also in
          let two = laid.records n second there in
          elim (cases_lt k table.frames) [
            | inl low ↦
                let one = laid.frames k first low is in
                inl (rw (one.0, two.0) (omega arith))
            | inr past ↦
                let m = k - table.frames in
                let here : slice_get table.stored (table.frames + m) ≡ Some first = let back : table.frames + m ≡ k = omega (arith, past) in ap (slice_get table.stored) back ∙ is in
                let one = laid.records m first here in
                let from = record_offset table m first laid here in
                let to = record_offset table n second laid there in
                let rise = offsets_rise table 0 0 m n table.stretches laid.follow (omega (arith, before, past)) to.1 in
                inr (one.0 ∙ sym two.0, omega (arith, rise, from.0, to.0))
          ]
    ]

stored_behind : (table : Table) (k : ℕ) (image : PageImage) → IsTable table → slice_get table.stored k ≡ Some image → (image.part ≡ Wal) ⊎ (image.part ≡ Journal)
stored_behind table k image laid is =
    elim (cases_lt k table.frames) [
      | inl low ↦ inl (laid.frames k image low is).0
      | inr high ↦
          let back : table.frames + (k - table.frames) ≡ k = omega (arith, high) in
          inr (laid.records (k - table.frames) image (ap (slice_get table.stored) back ∙ is)).0
    ]

page_before : (table : Table) (i : ℕ) (second : PageImage) → (second.part ≡ Wal) ⊎ (second.part ≡ Journal) → IsBefore table.page_size (page_image table.page_size i) second
page_before table i second (inl log) = inl (rw log (omega arith))
page_before table i second (inr journal) = inl (rw journal (omega arith))

pub images_before : (table : Table) (i j : ℕ) (first second : PageImage) → IsTable table → i < j → slice_get (images_of table) i ≡ Some first
    → slice_get (images_of table) j ≡ Some second → IsBefore table.page_size first second
images_before table i j first second laid before is also =
    elim (cases_lt j (pages_of table)) [
      | inl low ↦
          let one = some_image (page_image table.page_size i) first (sym (page_there table i (omega (arith, before, low))) ∙ is) in
          let two = some_image (page_image table.page_size j) second (sym (page_there table j low) ∙ also) in
          let row = row_before table.page_size i j before in
          subst (λ image. IsBefore table.page_size image second) one
          (subst (λ image. IsBefore table.page_size (page_image table.page_size i) image) two (inr (refl, row)))
      | inr high ↦
          let l = j - pages_of table in
          let back : pages_of table + l ≡ j = omega (arith, high) in
          let two : slice_get table.stored l ≡ Some second = sym (stored_there table l) ∙ ap (slice_get (images_of table)) back ∙ also in
          elim (cases_lt i (pages_of table)) [
            | inl low ↦
                let one = some_image (page_image table.page_size i) first (sym (page_there table i low) ∙ is) in
                subst (λ image. IsBefore table.page_size image second) one (page_before table i second (stored_behind table l second laid two))
            | inr past ↦
                let k = i - pages_of table in
                let here : pages_of table + k ≡ i = omega (arith, past) in
                stored_before table k l first second laid (omega (arith, before, past)) (sym (stored_there table k) ∙ ap (slice_get (images_of table)) here ∙ is) two
          ]
    ]
