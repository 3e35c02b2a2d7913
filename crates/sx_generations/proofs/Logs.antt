-- What the index of a log says of its frames.
use Rattle.std.proofs.Common.{◌≡◌, ℕ, ◌<◌, ◌≤◌, Bool, true, false, ◌&&◌, cond, List, length, map, Some, inl, inr, refl, sym, ap, ◌∙◌, arith, slice_get, ltb, eqb, not, if◌then◌else◌}
use Rattle.std.specs.List.{range_with_len}
use Rattle.std.proofs.lemmas.Bool.{cases_Bool, ltb-false, eqb-true}
use Rattle.std.proofs.lemmas.List.FromFn.{length-map-range_with_len, get_or-map-range_with_len}
use Rattle.std.proofs.lemmas.Option.{slice_get_within, get_or_from_slice_get}
use Rattle.sx_base.specs.Bytes.{word_at}
use Rattle.sx_bytes.specs.PageSize.{IsPageSize, is_page_size}
use Rattle.sx_base.specs.declared.moment.Class.TheVariants.{Committed, Pending, Foreign, Broken}
use Rattle.sx_wal.specs.declared.slot.Slot.{Slot}
use Rattle.sx_wal.specs.declared.state.WalState.{WalState}
use Rattle.sx_wal.specs.declared.state.WalState.TheVariants.{Short, BadMagic, BadVersion, BadPageSize, OtherPageSize, BadHeaderSum, Good}
use Rattle.sx_wal.specs.State.{state_of, has_slots, has_magic, are_same, two_words_at, header_sums}
use Rattle.sx_wal.specs.Frames.{whole_frames, slot_count, has_salts, is_valid}
use Rattle.sx_wal.specs.Wal.{Wal, commits_of, is_within, class_past, class_of, slot_of, log_of, wal_of}
use Rattle.sx_wal.proofs.LogLemmas.{slot_stands}
use Rattle.sx_generations.specs.Older.{AreSlotsOf, IsLog, AreTestedFrames, is_valid_class}

-- the tests that a state with slots passed
header_states : (short magic version possible same : Bool) (rest : WalState)
    → has_slots (if short then Short else (if not magic then BadMagic else (if not version then BadVersion else (if not possible then BadPageSize else (if not same then OtherPageSize else rest))))) ≡ true
    → (short ≡ false) × (same ≡ true)
header_states true magic version possible same rest some = cc
header_states false false version possible same rest some = cc
header_states false true false possible same rest some = cc
header_states false true true false same rest some = cc
header_states false true true true false rest some = cc
header_states false true true true true rest some = (refl, refl)

-- a log with slots has a header, which states the page size
header_of_slots : (page_size : ℕ) (bytes : List ℕ) → has_slots (state_of bytes page_size) ≡ true → (32 ≤ length bytes) × (word_at bytes 8 ≡ page_size)
unfolding state_of
header_of_slots page_size bytes some =
    let parts = header_states (ltb (length bytes) 32) (has_magic bytes) (eqb (word_at bytes 4) 3007000) (is_page_size (word_at bytes 8)) (eqb (word_at bytes 8) page_size)
    (if not (are_same (two_words_at bytes 24) (header_sums bytes)) then BadHeaderSum else Good) some in
    (ltb-false (length bytes) 32 parts.0, eqb-true (word_at bytes 8) page_size parts.1)

-- how many slots an index has
pub count_is : (page_size : ℕ) (bytes : List ℕ) (wal : Wal) → AreSlotsOf page_size bytes wal → length wal.slots ≡ slot_count page_size bytes
unfolding log_of
count_is page_size bytes wal are = ap (λ (slots : List Slot). length slots) are.slots ∙ length-map-range_with_len (slot_of page_size bytes) 0 (slot_count page_size bytes)

-- where there are slots, the header is there and states the page size
pub stated : (page_size : ℕ) (bytes : List ℕ) (wal : Wal) → AreSlotsOf page_size bytes wal → 0 < length wal.slots → (32 ≤ length bytes) × (word_at bytes 8 ≡ page_size)
unfolding slot_count
stated page_size bytes wal are some =
    elim (cases_Bool (has_slots (state_of bytes page_size))) [
      | inl there ↦ header_of_slots page_size bytes there
      | inr none ↦
          let count : slot_count page_size bytes ≡ 0 = ap (λ (b : Bool). cond b (whole_frames page_size bytes) 0) none in
          let len = count_is page_size bytes wal are in
          absurd (omega arith)
    ]

-- the class of a slot says whether it is valid
class_says : (page_size : ℕ) (bytes : List ℕ) (i : ℕ) → is_valid_class (class_of page_size bytes i) ≡ is_valid page_size bytes i
unfolding class_of class_past
class_says page_size bytes i = says (is_valid page_size bytes i) (is_within (commits_of page_size bytes) i) (has_salts page_size bytes i)
  where
    says : (valid within salts : Bool) → is_valid_class (if valid && within then Committed else (if valid then Pending else (if salts then Broken else Foreign))) ≡ valid
    says true true salts = refl
    says true false salts = refl
    says false within true = refl
    says false within false = refl

-- the slots of an index are tested frames
pub tested_frames : (page_size : ℕ) (bytes : List ℕ) (wal : Wal) → AreSlotsOf page_size bytes wal → AreTestedFrames page_size bytes wal.slots
unfolding log_of slot_of
tested_frames page_size bytes wal are = record {
  each = λ i slot found.
      let slots = map (slot_of page_size bytes) (range_with_len 0 (slot_count page_size bytes)) in
      let there : slice_get (log_of page_size bytes).slots i ≡ Some slot = ap (λ (listed : List Slot). slice_get listed i) (sym are.slots) ∙ found in
      let inside = slice_get_within slots i slot there in
      let len = length-map-range_with_len (slot_of page_size bytes) 0 (slot_count page_size bytes) in
      let is : slot ≡ slot_of page_size bytes i =
      sym (get_or_from_slice_get slots i slot slot there) ∙ get_or-map-range_with_len (slot_of page_size bytes) 0 (slot_count page_size bytes) i i slot (omega arith) (omega arith) in
      record {
        frame = slot_stands page_size bytes i slot there;
        tested = ap (λ (s : Slot). is_valid_class s.class) is ∙ class_says page_size bytes i;
      };
}

-- a log that was read is the index of its bytes
pub was_log : (page_size : ℕ) (bytes own : List ℕ) (wal : Wal) → IsPageSize page_size → wal ≡ wal_of (Some bytes) page_size → own ≡ bytes → IsLog own wal
unfolding wal_of
was_log page_size bytes own wal size read same =
    rw same (record { page_size = page_size; are = record { size = size; slots = ap (λ (w : Wal). w.slots) read } })
