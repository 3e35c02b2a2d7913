-- The header of a drill's database is accepted.
use Rattle.std.proofs.Common.{◌≡◌, ℕ, ◌+◌, ◌≤◌, ◌++◌, List, length, nat_lt, true, false, Result, Ok, Err, refl, arith, append_assoc, length-append}
use Rattle.std.proofs.lemmas.Bool.Decides.{nat_tests}
use Rattle.sx_base.specs.Bytes.{word_at}
use Rattle.sx_bytes.specs.PageSize.{is_page_size}
use Rattle.sx_header.specs.Header.{header_of, fields_in, has_magic, page_size_in, usable_in}
use Rattle.sx_header.specs.declared.header.HeaderFault.{HeaderFault}
use Rattle.sx_gen.specs.Pages.{database_bytes, first_page, file_header, header_start}
use Rattle.sx_gen.specs.Made.{drilled_database}

-- bytes that pass each of the five tests
by_tests : (bytes : List ℕ) → nat_lt (length bytes) 100 ≡ false → has_magic bytes ≡ true → is_page_size (page_size_in bytes) ≡ true → nat_lt (usable_in bytes) 480 ≡ false
    → nat_lt 3 (word_at bytes 56) ≡ false → header_of bytes ≡ Ok (fields_in bytes)
unfolding header_of
by_tests bytes long named sized used coded = rw (long, named, sized, used, coded) refl

at_least : (n : ℕ) → 100 ≤ n → nat_lt n 100 ≡ false
at_least n long = grind (arith, nat_tests)

header_len : (pages : ℕ) → length (file_header pages) ≡ 100
unfolding file_header header_start
header_len pages = refl

-- there are 100 bytes and more
long_enough : (pages : ℕ) (rest : List ℕ) → nat_lt (length (file_header pages ++ rest)) 100 ≡ false
long_enough pages rest =
    let all = length-append (file_header pages) rest in
    let own = header_len pages in
    at_least (length (file_header pages ++ rest)) (omega (arith, all, own))

named : (pages : ℕ) (rest : List ℕ) → has_magic (file_header pages ++ rest) ≡ true
unfolding has_magic file_header header_start
named pages rest = refl

sized : (pages : ℕ) (rest : List ℕ) → is_page_size (page_size_in (file_header pages ++ rest)) ≡ true
unfolding file_header header_start is_page_size lib.Count.ones
sized pages rest = refl

used : (pages : ℕ) (rest : List ℕ) → nat_lt (usable_in (file_header pages ++ rest)) 480 ≡ false
unfolding file_header header_start
used pages rest = refl

coded : (pages : ℕ) (rest : List ℕ) → nat_lt 3 (word_at (file_header pages ++ rest) 56) ≡ false
unfolding file_header header_start
coded pages rest = refl

headed : (pages : ℕ) (rest bytes : List ℕ) → bytes ≡ file_header pages ++ rest → header_of bytes ≡ Ok (fields_in bytes)
headed pages rest bytes is =
    rw is (by_tests (file_header pages ++ rest) (long_enough pages rest) (named pages rest) (sized pages rest) (used pages rest) (coded pages rest))

accepted : (letters : List ℕ) (leaves : ℕ) → header_of (database_bytes letters leaves) ≡ Ok (fields_in (database_bytes letters leaves))
unfolding database_bytes first_page
accepted letters leaves = headed (2 + leaves) _ (database_bytes letters leaves) (append_assoc (file_header (2 + leaves)) _ _)

clash : {T E : Type 0} (x : T) (e : E) (r : Result T E) → r ≡ Ok x → r ≡ Err e → ⊥
clash x e r one other = absurd cc

-- so it has no fault
pub no_fault : (seed leaves : ℕ) (fault : HeaderFault) → header_of (drilled_database seed leaves) ≡ Err fault → ⊥
no_fault seed leaves fault is = clash _ fault (header_of (drilled_database seed leaves)) (accepted _ leaves) is
