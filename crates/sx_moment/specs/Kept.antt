-- What a case keeps beside the evidence, so that a question takes no search of it.
use Rattle.std.specs.Prelude.{◌≡◌, ℕ, List, Option}
use Rattle.sx_moment.specs.Gathered.{Gathered}
use Rattle.sx_moment.specs.Views.{slot_pages}
use Rattle.sx_moment.specs.Firsts.{Rises, first_in}
use Rattle.sx_moment.specs.Reading.{IsGathered}
use Rattle.sx_moment.specs.Images.{first_slot, first_record, past_only, marked_only}
use Rattle.sx_moment.specs.Counts.{AreCounts}
use Rattle.sx_moment.specs.declared.first_image.FirstImage.{FirstImage}

-- the parts of a case: the slots' pages, the pages past the file that slots and Good records hold, the marked pages, and
-- the first Good record of each page; and for each commit how many pages of the first two lists it sees
pub record IsCase (case : Gathered) (frames : List ℕ) (past marks past_records : List FirstImage)
    (records : ℕ → Option ℕ) (past_counts mark_counts : List ℕ) : Type 0 where
  pub gathered : IsGathered case
  pub slots_are : frames ≡ slot_pages case
  pub past_rise : Rises 1 past
  pub past_are : (number : ℕ) → first_in past number ≡ past_only case (first_slot case) number
  pub marks_rise : Rises 1 marks
  pub marks_are : (number : ℕ) → first_in marks number ≡ marked_only case number
  pub past_records_rise : Rises 1 past_records
  pub past_records_are : (number : ℕ) → first_in past_records number ≡ past_only case (first_record case) number
  pub records_are : (number : ℕ) → records number ≡ first_record case number
  pub past_counted : AreCounts case past past_counts
  pub marks_counted : AreCounts case marks mark_counts
