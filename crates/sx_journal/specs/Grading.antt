-- The classes of a live journal's records, given one after the other while they are read.
use Rattle.std.specs.Prelude.{◌≡◌, ◌^◌, ◌<◌, Bool, if◌then◌else◌, ◌==◌, ℕ, List, [], ◌∷◌, ◌++◌, length, fold}
use Rattle.sx_base.specs.declared.moment.Class.{Class}
use Rattle.sx_base.specs.declared.moment.Class.TheVariants.{Good, Bad, After}
use Rattle.sx_journal.specs.declared.entry.Entry.{Entry}
use Rattle.sx_journal.specs.Entries.{Record, record_fits, record_from, good_count}

-- the class of a record behind these: Good or Bad where all of them are Good, else After
abbrev pub class_behind : List Entry → Bool → Class
class_behind before fitting =
    if good_count before == length before then (if fitting then Good else Bad) else After

-- one record more
unfoldable pub with_record : List ℕ → ℕ → List Entry → Record → List Entry
with_record bytes page_size before item =
    before ++ record_from bytes page_size (class_behind before (record_fits bytes page_size item)) item.place ∷ []

-- these records more
abbrev pub with_records : List ℕ → ℕ → List Entry → List Record → List Entry
with_records bytes page_size before records = fold (with_record bytes page_size) before records

-- a list of fewer than 2^32 records, and how many of them are Good
pub record IsCounted (entries : List Entry) (good : ℕ) : Type 0 where
  pub few : length entries < 2 ^ 32
  pub counted : good ≡ good_count entries
