-- Where the bytes of a page stand at a moment ("Reader Algorithm", "The Rollback Journal", "The Lock-Byte Page").
use Rattle.std.specs.Prelude.{ℕ, ◌+◌, ◌≤◌, ◌-◌, ◌*◌, Bool, not, ◌&&◌, if◌then◌else◌, ◌==◌, nat_le, nat_lt, List, length, map, take, drop, Option, None, Some}
use Rattle.std.specs.Option.{option_map, option_or}
use Rattle.sx_base.specs.Maps.{lock_page_of}
use Rattle.sx_base.specs.declared.evidence.Part.{Part}
use Rattle.sx_base.specs.declared.evidence.Part.TheVariants as parts
use Rattle.sx_base.specs.declared.evidence.Place.{Place}
use Rattle.sx_base.specs.declared.moment.Moment.{Moment}
use Rattle.sx_base.specs.declared.moment.Moment.TheVariants.{Journal, File, Commit}
use Rattle.sx_base.specs.Places.{first_place, last_place}
use Rattle.sx_chain.specs.Newest.{has_number}
use Rattle.sx_journal.specs.Entries.{is_good_class}
use Rattle.sx_moment.specs.Gathered.{Gathered, bytes_in, slot_at, record_at, page_count, size_at, limit_at}
use Rattle.sx_moment.specs.declared.origin.Origin.{Origin}
use Rattle.sx_moment.specs.declared.origin.Origin.TheVariants.{Database, Slot, Record}

-- the page numbers of the slots, in file order
abbrev pub slot_pages : Gathered → List ℕ
slot_pages case = map (λ slot. slot.page) case.wal.slots

-- record i is Good and holds the page
abbrev pub is_good_record : Gathered → ℕ → ℕ → Bool
is_good_record case number i = is_good_class (record_at case i).class && ((record_at case i).page == number)

-- The image of a page that a moment has outside the file: at the journal's the first Good record of the page, at a
-- commit the last slot of the page up to the commit's.
abbrev pub image_at : Gathered → Moment → ℕ → Option Origin
image_at case Journal number = option_map Record (first_place (is_good_record case number) (length case.journal.entries))
image_at case File number = None
image_at case (Commit k) number = option_map Slot (last_place (has_number (slot_pages case) number) (limit_at case (Commit k)))

-- a page that may have a view: one of so many, from 1, and not the lock-byte page
abbrev pub can_be_viewed : ℕ → ℕ → ℕ → Bool
can_be_viewed lock size number = nat_lt 0 number && nat_le number size && not (number == lock)

-- the lock-byte page
abbrev pub lock_in : Gathered → ℕ
lock_in case = lock_page_of case.header.page_size

-- the page of the file, where that is wholly there
abbrev pub file_page : Gathered → ℕ → Option Origin
file_page case number = if nat_le number (page_count case) then Some Database else None

-- where the view of a page comes from, if it has one: its image, else the page of the file
unfoldable pub origin_of : Gathered → Moment → ℕ → Option Origin
origin_of case moment number =
    if can_be_viewed (lock_in case) (size_at case moment) number then option_or (image_at case moment number) (file_page case number)
    else None

-- the place where a page's image begins
abbrev pub place_of : Gathered → ℕ → Origin → Place
place_of case number Database = record { part = parts.Database; offset = (number - 1) * case.header.page_size }
place_of case number (Slot i) = record { part = parts.Wal; offset = (slot_at case i).offset }
place_of case number (Record i) = record { part = parts.Journal; offset = (record_at case i).offset }

-- the bytes of one of the files
abbrev pub part_bytes : Gathered → Part → List ℕ
part_bytes case parts.Database = case.database
part_bytes case parts.Wal = bytes_in case.wal_bytes
part_bytes case parts.Journal = bytes_in case.journal_bytes

-- the bytes of a page from a place on
abbrev pub bytes_from : Gathered → Place → List ℕ
bytes_from case place = take case.header.page_size (drop place.offset (part_bytes case place.part))

-- a place has the bytes of a whole page
abbrev pub IsWhole : Gathered → Place → Type 0
IsWhole case place = place.offset + case.header.page_size ≤ length (part_bytes case place.part)

-- the bytes of a page's image
abbrev pub bytes_of : Gathered → ℕ → Origin → List ℕ
bytes_of case number origin = bytes_from case (place_of case number origin)

-- the view of a page, if it has one: its bytes, and where they begin
abbrev pub view_of : Gathered → Moment → ℕ → Option (List ℕ)
view_of case moment number = option_map (bytes_of case number) (origin_of case moment number)

abbrev pub source_of : Gathered → Moment → ℕ → Option Place
source_of case moment number = option_map (place_of case number) (origin_of case moment number)
