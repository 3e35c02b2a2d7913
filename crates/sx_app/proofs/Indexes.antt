-- A log and a journal that were read, or none, have the frames and records of their bytes.
use Rattle.std.proofs.Common.{◌≡◌, ℕ, List, [], Option, None, Some, refl, ap, ◌∙◌}
use Rattle.sx_bytes.specs.PageSize.{IsPageSize}
use Rattle.sx_wal.specs.State.{state_of}
use Rattle.sx_wal.specs.Frames.{slot_count}
use Rattle.sx_wal.specs.Wal.{Wal, wal_of, log_of}
use Rattle.sx_journal.specs.Journal.{Journal, journal_of}
use Rattle.sx_generations.specs.Older.{AreSlotsOf}
use Rattle.sx_generations.specs.Confirmed.{AreRecordsOf, has_no_header}
use Rattle.sx_moment.specs.Gathered.{bytes_in}

-- no bytes are a log without slots
no_slots : (page_size : ℕ) → [] ≡ (log_of page_size []).slots
unfolding log_of slot_count state_of
no_slots page_size = refl

read_slots : (bytes : Option (List ℕ)) (page_size : ℕ) → (wal_of bytes page_size).slots ≡ (log_of page_size (bytes_in bytes)).slots
unfolding wal_of
read_slots None page_size = no_slots page_size
read_slots (Some bytes) page_size = refl

pub slots_of_log : (bytes : Option (List ℕ)) (page_size : ℕ) (wal : Wal) → IsPageSize page_size → wal ≡ wal_of bytes page_size → AreSlotsOf page_size (bytes_in bytes) wal
slots_of_log bytes page_size wal size read = record { size = size; slots = ap (λ (w : Wal). w.slots) read ∙ read_slots bytes page_size }

-- no bytes are a journal without records, and it isn't zeroed
read_journal_state : (bytes : Option (List ℕ)) (page_size : ℕ) → has_no_header (journal_of bytes page_size).state ≡ has_no_header (journal_of (Some (bytes_in bytes)) page_size).state
unfolding journal_of
read_journal_state None page_size = refl
read_journal_state (Some bytes) page_size = refl

read_entries : (bytes : Option (List ℕ)) (page_size : ℕ) → (journal_of bytes page_size).entries ≡ (journal_of (Some (bytes_in bytes)) page_size).entries
unfolding journal_of
read_entries None page_size = refl
read_entries (Some bytes) page_size = refl

pub records_of_journal : (bytes : Option (List ℕ)) (page_size : ℕ) (journal : Journal) → IsPageSize page_size → journal ≡ journal_of bytes page_size
    → AreRecordsOf page_size (bytes_in bytes) journal
records_of_journal bytes page_size journal size read = record {
  size = size;
  zeroed = ap (λ (j : Journal). has_no_header j.state) read ∙ read_journal_state bytes page_size;
  entries = ap (λ (j : Journal). j.entries) read ∙ read_entries bytes page_size;
}

-- ---- the bytes and the index as they were handed over

pub log_at : (bytes : Option (List ℕ)) (page_size : ℕ) (own : List ℕ) (wal index : Wal) → IsPageSize page_size → own ≡ bytes_in bytes → index ≡ wal → wal ≡ wal_of bytes page_size
    → AreSlotsOf page_size own index
log_at bytes page_size own wal index size is_own is_index read = rw (is_own, is_index) (slots_of_log bytes page_size wal size read)

pub journal_at : (bytes : Option (List ℕ)) (page_size : ℕ) (own : List ℕ) (journal index : Journal) → IsPageSize page_size → own ≡ bytes_in bytes → index ≡ journal
    → journal ≡ journal_of bytes page_size → AreRecordsOf page_size own index
journal_at bytes page_size own journal index size is_own is_index read = rw (is_own, is_index) (records_of_journal bytes page_size journal size read)
