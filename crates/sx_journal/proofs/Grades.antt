-- The classes that are given one after the other are those of the whole list.
use Rattle.std.proofs.Common.{◌≡◌, ℕ, ◌+◌, ◌<◌, nat_eq, Bool, true, false, cond, List, [], ◌∷◌, ◌++◌, length, if◌then◌else◌, refl, sym, ap, ◌∙◌, arith, append_assoc, append-nil, one-add, suc-add, zero-add, length-append, ne_eqb, eq-eqb}
use Rattle.std.proofs.lemmas.List.Sums.{sum_by-append}
use Rattle.sx_base.specs.declared.moment.Class.{Class}
use Rattle.sx_base.specs.declared.moment.Class.TheVariants.{Good, Bad, After}
use Rattle.sx_journal.specs.declared.entry.Entry.{Entry}
use Rattle.sx_journal.specs.Entries.{Record, record_fits, record_from, entries_of, graded, good_count, is_good_class}
use Rattle.sx_journal.specs.Grading.{with_record, with_records}

-- the classes of these records, where all before them are Good
abbrev pub grades : List ℕ → ℕ → List Record → List Entry
grades bytes page_size [] = []
grades bytes page_size (item ∷ rest) =
    if record_fits bytes page_size item then record_from bytes page_size Good item.place ∷ grades bytes page_size rest
    else record_from bytes page_size Bad item.place ∷ entries_of bytes page_size After rest

graded_case : (bytes : List ℕ) (page_size : ℕ) (item : Record) (rest : List Record) (b : Bool) → record_fits bytes page_size item ≡ b
    → grades bytes page_size rest ≡ graded bytes page_size rest
    → grades bytes page_size (item ∷ rest) ≡ graded bytes page_size (item ∷ rest)
unfolding graded
graded_case bytes page_size item rest true is same = rw (is, one-add, suc-add) (ap (λ tail. record_from bytes page_size Good item.place ∷ tail) same)
graded_case bytes page_size item rest false is same = rw is refl

pub graded_is : (bytes : List ℕ) (page_size : ℕ) (records : List Record) → grades bytes page_size records ≡ graded bytes page_size records
unfolding graded
graded_is bytes page_size [] = refl
graded_is bytes page_size (item ∷ rest) = graded_case bytes page_size item rest _ refl (graded_is bytes page_size rest)

entry-class : (bytes : List ℕ) (page_size place : ℕ) (class : Class) → (record_from bytes page_size class place).class ≡ class
unfolding record_from
entry-class bytes page_size place class = refl

-- a record more is counted where it is Good
good_count-more : (before : List Entry) (last : Entry) (class : Class) → last.class ≡ class
    → good_count (before ++ last ∷ []) ≡ good_count before + cond (is_good_class class) 1 0
good_count-more before last class is =
    sum_by-append (λ entry. cond (is_good_class entry.class) 1 0) before (last ∷ [])
    ∙ ap (λ c. good_count before + (0 + cond (is_good_class c) 1 0)) is
    ∙ ap (λ n. good_count before + n) (zero-add _)

not_all : (before : List Entry) → good_count before < length before → nat_eq (good_count before) (length before) ≡ false
not_all before bad = ne_eqb _ _ (λ same. omega arith)

bad_record : (bytes : List ℕ) (page_size : ℕ) (before : List Entry) (item : Record) → good_count before < length before
    → with_record bytes page_size before item ≡ before ++ record_from bytes page_size After item.place ∷ []
unfolding with_record
bad_record bytes page_size before item bad = rw (not_all before bad) refl

good_record : (bytes : List ℕ) (page_size : ℕ) (before : List Entry) (item : Record) (b : Bool) → record_fits bytes page_size item ≡ b
    → good_count before ≡ length before
    → with_record bytes page_size before item ≡ before ++ record_from bytes page_size (if b then Good else Bad) item.place ∷ []
unfolding with_record
good_record bytes page_size before item b is good = rw (eq-eqb _ _ good, is) refl

-- behind a record that isn't Good every record is After
behind_bad : (bytes : List ℕ) (page_size : ℕ) (records : List Record) (before : List Entry) → good_count before < length before
    → with_records bytes page_size before records ≡ before ++ entries_of bytes page_size After records
behind_bad bytes page_size [] before bad = sym (append-nil before)
behind_bad bytes page_size (item ∷ rest) before bad =
    let last = record_from bytes page_size After item.place in
    let class : with_record bytes page_size before item ≡ before ++ last ∷ [] = bad_record bytes page_size before item bad in
    let counted = good_count-more before last After (entry-class bytes page_size item.place After) in
    ap (λ front. with_records bytes page_size front rest) class
    ∙ behind_bad bytes page_size rest (before ++ last ∷ []) (omega (arith, counted, length-append before (last ∷ [])))
    ∙ append_assoc before (last ∷ []) (entries_of bytes page_size After rest)

behind_good_case : (bytes : List ℕ) (page_size : ℕ) (item : Record) (rest : List Record) (before : List Entry) (b : Bool)
    → record_fits bytes page_size item ≡ b → good_count before ≡ length before
    → ((front : List Entry) → good_count front ≡ length front
    → with_records bytes page_size front rest ≡ front ++ grades bytes page_size rest)
    → with_records bytes page_size before (item ∷ rest) ≡ before ++ grades bytes page_size (item ∷ rest)
behind_good_case bytes page_size item rest before true is good further =
    let last = record_from bytes page_size Good item.place in
    let counted = good_count-more before last Good (entry-class bytes page_size item.place Good) in
    ap (λ front. with_records bytes page_size front rest) (good_record bytes page_size before item true is good)
    ∙ further (before ++ last ∷ []) (omega (arith, counted, length-append before (last ∷ [])))
    ∙ append_assoc before (last ∷ []) (grades bytes page_size rest)
    ∙ rw is refl
behind_good_case bytes page_size item rest before false is good further =
    let last = record_from bytes page_size Bad item.place in
    let counted = good_count-more before last Bad (entry-class bytes page_size item.place Bad) in
    ap (λ front. with_records bytes page_size front rest) (good_record bytes page_size before item false is good)
    ∙ behind_bad bytes page_size rest (before ++ last ∷ []) (omega (arith, counted, length-append before (last ∷ [])))
    ∙ append_assoc before (last ∷ []) (entries_of bytes page_size After rest)
    ∙ rw is refl

behind_good : (bytes : List ℕ) (page_size : ℕ) (records : List Record) (before : List Entry) → good_count before ≡ length before
    → with_records bytes page_size before records ≡ before ++ grades bytes page_size records
behind_good bytes page_size [] before good = sym (append-nil before)
behind_good bytes page_size (item ∷ rest) before good =
    behind_good_case bytes page_size item rest before _ refl good (behind_good bytes page_size rest)

-- records that are read from the first on have the classes of the whole list
pub with_records-graded : (bytes : List ℕ) (page_size : ℕ) (records : List Record)
    → with_records bytes page_size [] records ≡ graded bytes page_size records
with_records-graded bytes page_size records =
    behind_good bytes page_size records [] refl ∙ graded_is bytes page_size records
