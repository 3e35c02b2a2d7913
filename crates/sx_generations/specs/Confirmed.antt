-- Records behind the zeroed header of a rollback journal that confirm one another ("Database File Format", section "The
-- Rollback Journal"). The checksum of a record is a nonce and some bytes of its page, added up; the header that held the
-- nonce is gone, but the records of one transaction still give the same one. Records are numbered from 0.
use Rattle.std.specs.Prelude.{◌≡◌, ℕ, ◌+◌, ◌-◌, ◌%◌, ◌^◌, Bool, true, false, ◌==◌, if◌then◌else◌, List, [], length, map, take, drop, slice_index, Some}
use Rattle.sx_bytes.specs.PageSize.{IsPageSize}
use Rattle.sx_journal.specs.Entries.{sampled}
use Rattle.sx_journal.specs.Journal.{Journal, journal_of}
use Rattle.sx_journal.specs.declared.entry.Entry.{Entry}
use Rattle.sx_journal.specs.declared.state.JournalState.{JournalState}
use Rattle.sx_journal.specs.declared.state.JournalState.TheVariants.{Zeroed}
use Rattle.sx_generations.specs.declared.neighbours.Streak.{Streak}
use Rattle.sx_generations.specs.declared.groups.Group.{Group}
use Rattle.sx_generations.specs.Neighbours.{streaks_of}

-- a stored checksum less the bytes of its page that the checksum samples, in 32 bits
unfoldable pub nonce_from : ℕ → List ℕ → ℕ
nonce_from sum page = (sum + (2 ^ 32 - sampled page)) % 2 ^ 32

-- the nonce that a record gives
abbrev pub nonce_of : ℕ → List ℕ → Entry → ℕ
nonce_of page_size bytes entry = nonce_from entry.sum (take page_size (drop entry.offset bytes))

-- two neighbouring records confirm one another where they give the same nonce
abbrev pub confirms : List ℕ → ℕ → Bool
confirms nonces i = slice_index nonces i == slice_index nonces (i + 1)

-- a group of records: its first, how many they are, and their nonce
abbrev pub group_of : List ℕ → Streak → Group
group_of nonces streak = record { first = streak.first; entries = streak.len; nonce = slice_index nonces streak.first }

-- the groups of records that give these nonces: the maximal lists of at least two neighbours, each confirming the next
unfoldable pub groups_of : List ℕ → List Group
groups_of nonces = map (group_of nonces) (streaks_of (confirms nonces) (length nonces))

-- the journal is zeroed
abbrev pub has_no_header : JournalState → Bool
has_no_header Zeroed = true
has_no_header _ = false

-- the groups of a journal of that state with these records
unfoldable pub groups_in : ℕ → List ℕ → JournalState → List Entry → List Group
groups_in page_size bytes state entries = if has_no_header state then groups_of (map (nonce_of page_size bytes) entries) else []

-- the groups of a journal, in the order of the file: only a zeroed one has any
unfoldable pub confirmed_of : ℕ → List ℕ → List Group
confirmed_of page_size bytes =
    let journal = journal_of (Some bytes) page_size in
    groups_in page_size bytes journal.state journal.entries

-- an index has the records of a journal with these bytes, read for a database of that page size, and both are zeroed or
-- neither is
pub record AreRecordsOf (page_size : ℕ) (bytes : List ℕ) (journal : Journal) : Type 0 where
  pub size : IsPageSize page_size
  pub zeroed : has_no_header journal.state ≡ has_no_header (journal_of (Some bytes) page_size).state
  pub entries : journal.entries ≡ (journal_of (Some bytes) page_size).entries

-- an index was read from these bytes, for a database of some page size
pub record IsJournal (bytes : List ℕ) (journal : Journal) : Type 0 where
  pub page_size : ℕ
  pub are : AreRecordsOf page_size bytes journal
