-- What is kept of each page by its rank: with what it was labelled last, and whether it has a view at the moment.
use Rattle.std.specs.Prelude.{◌≡◌, ℕ, ◌+◌, ◌^◌, ◌<◌, ◌≤◌, false, if◌then◌else◌, List, length, sum_by, slice_index_or, Option, Some, None}
use Rattle.sx_prov.specs.declared.map.Totals.{Totals}
use Rattle.sx_sums.specs.declared.entry.Labelled.{Labelled}
use Rattle.sx_sums.specs.declared.entry.Entry.{Entry}

-- the entry of a rank; past the last rank that of a page that was never labelled
abbrev pub entry_at : List Entry → ℕ → Entry
entry_at entries rank = slice_index_or entries rank (record { last = None; shown = false })

-- no bytes
abbrev pub no_bytes : Totals
no_bytes = record { owned = 0; slack = 0; fault = 0 }

-- the bytes of what a page was labelled with, by groups of labels
abbrev pub bytes_last : Option Labelled → Totals
bytes_last None = no_bytes
bytes_last (Some labelled) = labelled.totals

-- the bytes of a page that count: none where it has no view
unfoldable pub counts_of : Entry → Totals
counts_of entry = if entry.shown then bytes_last entry.last else no_bytes

-- those of them that the database uses
abbrev pub owned_of : Entry → ℕ
owned_of entry = (counts_of entry).owned

-- those that it leaves unused
abbrev pub slack_of : Entry → ℕ
slack_of entry = (counts_of entry).slack

-- those of which nothing can be said
abbrev pub fault_of : Entry → ℕ
fault_of entry = (counts_of entry).fault

-- no more bytes than the largest page has
abbrev pub IsPage : Totals → Type 0
IsPage totals = totals.owned + totals.slack + totals.fault ≤ 65536

-- the sums over all entries by groups; each entry's bytes are those of a page, and a number of 32 bits tells how many there are
pub record AreSums (entries : List Entry) (owned slack fault : ℕ) : Type 0 where
  pub few : length entries < 2 ^ 32
  pub pages : (rank : ℕ) → rank < length entries → IsPage (bytes_last (entry_at entries rank).last)
  pub owned_is : owned ≡ sum_by owned_of entries
  pub slack_is : slack ≡ sum_by slack_of entries
  pub fault_is : fault ≡ sum_by fault_of entries
