-- Records read one after the other, and their classes.
use Rattle.std.proofs.Common.{◌≡◌, ℕ, ◌+◌, ◌-◌, ◌*◌, ◌/◌, ◌<◌, ◌≤◌, List, [], ◌∷◌, ◌++◌, length, map, refl, sym, ap, ◌∙◌, arith, zero-add, length-append, mul-le-mul_right, div-mul-le_self, add-mul, one-mul}
use Rattle.std.proofs.lemmas.List.{map-append}
use Rattle.std.proofs.lemmas.List.Sums.{fold-append}
use Rattle.std.proofs.lemmas.List.FromFn.{map-range_with_len_more, length-map-range_with_len}
use Rattle.sx_base.specs.declared.moment.Class.{Class}
use Rattle.sx_base.specs.declared.moment.Class.TheVariants.{Unchecked}
use Rattle.sx_journal.specs.declared.entry.Entry.{Entry}
use Rattle.sx_journal.specs.Segments.{record_len, whole_records}
use Rattle.sx_journal.specs.Entries.{Record, records_from, entries_of, record_from}
use Rattle.sx_journal.specs.Grading.{with_record, with_records}

-- the record of each number below the count of whole ones is held
pub record_held : (bytes : List ℕ) (page_size start count i : ℕ) → i < count → count ≤ whole_records bytes page_size start
    → start + i * record_len page_size + record_len page_size ≤ length bytes
unfolding whole_records
record_held bytes page_size start count i below there =
    let len = record_len page_size in
    let all : (length bytes - start) / len * len ≤ length bytes - start = div-mul-le_self _ _ in
    let more : (i + 1) * len ≤ (length bytes - start) / len * len = mul-le-mul_right len (omega arith) in
    let parts : (i + 1) * len ≡ i * len + len = add-mul i 1 len ∙ ap (λ n. i * len + n) (one-mul len) in
    omega (arith, all, more, parts)

-- one record more
pub records_more : (page_size start nonce i : ℕ)
    → records_from page_size start nonce (i + 1)
    ≡ records_from page_size start nonce i ++ record { place = start + i * record_len page_size; nonce = nonce } ∷ []
records_more page_size start nonce i =
    let item : ℕ → Record = λ k. record { place = start + k * record_len page_size; nonce = nonce } in
    map-range_with_len_more item 0 i i (zero-add i)

pub with_records_more : (bytes : List ℕ) (page_size : ℕ) (before : List Entry) (start nonce i : ℕ)
    → with_records bytes page_size before (records_from page_size start nonce (i + 1))
    ≡ with_record bytes page_size (with_records bytes page_size before (records_from page_size start nonce i))
    (record { place = start + i * record_len page_size; nonce = nonce })
with_records_more bytes page_size before start nonce i =
    ap (with_records bytes page_size before) (records_more page_size start nonce i)
    ∙ fold-append (with_record bytes page_size) before (records_from page_size start nonce i)
    (record { place = start + i * record_len page_size; nonce = nonce } ∷ [])

pub length-with_record : (bytes : List ℕ) (page_size : ℕ) (before : List Entry) (item : Record)
    → length (with_record bytes page_size before item) ≡ length before + 1
unfolding with_record
length-with_record bytes page_size before item = length-append before _

pub entries_more : (bytes : List ℕ) (page_size : ℕ) (class : Class) (start nonce i : ℕ)
    → entries_of bytes page_size class (records_from page_size start nonce (i + 1))
    ≡ entries_of bytes page_size class (records_from page_size start nonce i)
    ++ record_from bytes page_size class (start + i * record_len page_size) ∷ []
entries_more bytes page_size class start nonce i =
    let entry : Record → Entry = λ item. record_from bytes page_size class item.place in
    ap (map entry) (records_more page_size start nonce i) ∙ map-append entry (records_from page_size start nonce i) _

-- so many records of a segment were read behind `before`
pub record IsRead (bytes : List ℕ) (page_size start nonce : ℕ) (before now : List Entry) (i : ℕ) : Type 0 where
  pub entries : now ≡ with_records bytes page_size before (records_from page_size start nonce i)
  pub many : length now ≡ length before + i

pub read_none : (bytes : List ℕ) (page_size start nonce : ℕ) (before : List Entry)
    → IsRead bytes page_size start nonce before before 0
read_none bytes page_size start nonce before = record { entries = refl; many = omega arith }

pub read_more : (bytes : List ℕ) (page_size start nonce : ℕ) (before now : List Entry) (next : List Entry) (i len : ℕ)
    → IsRead bytes page_size start nonce before now i → len ≡ record_len page_size
    → next ≡ with_record bytes page_size now (record { place = start + i * len; nonce = nonce })
    → IsRead bytes page_size start nonce before next (i + 1)
read_more bytes page_size start nonce before now next i len read long is =
    let item : Record = record { place = start + i * record_len page_size; nonce = nonce } in
    let same : next ≡ with_record bytes page_size now item = rw (← long) is in
    record {
      entries = same
          ∙ ap (λ front. with_record bytes page_size front item) read.entries
          ∙ sym (with_records_more bytes page_size before start nonce i);
      many = ap length same ∙ length-with_record bytes page_size now item ∙ omega (arith, read.many);
    }

-- so many records of a zeroed journal were read
pub record AreUnchecked (bytes : List ℕ) (page_size start : ℕ) (now : List Entry) (i : ℕ) : Type 0 where
  pub entries : now ≡ entries_of bytes page_size Unchecked (records_from page_size start 0 i)
  pub many : length now ≡ i

pub unchecked_none : (bytes : List ℕ) (page_size start : ℕ) (now : List Entry) → now ≡ []
    → AreUnchecked bytes page_size start now 0
unchecked_none bytes page_size start now none = record { entries = none; many = ap length none }

pub unchecked_more : (bytes : List ℕ) (page_size start : ℕ) (now next : List Entry) (last : Entry) (i len : ℕ)
    → AreUnchecked bytes page_size start now i → len ≡ record_len page_size
    → last ≡ record_from bytes page_size Unchecked (start + i * len) → next ≡ now ++ last ∷ []
    → AreUnchecked bytes page_size start next (i + 1)
unchecked_more bytes page_size start now next last i len read long entry is =
    let same : last ≡ record_from bytes page_size Unchecked (start + i * record_len page_size) = rw (← long) entry in
    record {
      entries = is
          ∙ ap (λ front. front ++ last ∷ []) read.entries
          ∙ ap (λ end. entries_of bytes page_size Unchecked (records_from page_size start 0 i) ++ end ∷ []) same
          ∙ sym (entries_more bytes page_size Unchecked start 0 i);
      many = ap length is ∙ length-append now (last ∷ []) ∙ omega (arith, read.many);
    }

pub length-with_records : (bytes : List ℕ) (page_size : ℕ) (before : List Entry) (records : List Record)
    → length (with_records bytes page_size before records) ≡ length before + length records
length-with_records bytes page_size before [] = omega arith
length-with_records bytes page_size before (item ∷ records) =
    length-with_records bytes page_size (with_record bytes page_size before item) records
    ∙ omega (arith, length-with_record bytes page_size before item)

pub length-records_from : (page_size start nonce count : ℕ) → length (records_from page_size start nonce count) ≡ count
length-records_from page_size start nonce count =
    let item : ℕ → Record = λ k. record { place = start + k * record_len page_size; nonce = nonce } in
    length-map-range_with_len item 0 count
