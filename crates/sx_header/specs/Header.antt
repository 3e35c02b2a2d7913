-- The header of a database file: which lists of bytes begin with an accepted one, its fields, and the fault of those
-- that don't ("The Database Header"). Numbers at an offset are big-endian.
use Rattle.std.specs.Prelude.{ℕ, ◌-◌, Bool, not, if◌then◌else◌, ◌==◌, nat_eq, nat_lt, ◌≤◌, List, [], ◌∷◌, ◌++◌, length, codes, Result, Ok, Err}
use Rattle.std.specs.List.{starts_with}
use Rattle.sx_base.specs.Bytes.{byte_at, two_bytes_at, word_at}
use Rattle.sx_bytes.specs.PageSize.{is_page_size, IsPageSize}
use Rattle.sx_bytes.specs.declared.encoding.Encoding.{Encoding}
use Rattle.sx_bytes.specs.declared.encoding.Encoding.TheVariants.{Utf8, Utf16Le, Utf16Be}
use Rattle.sx_header.specs.declared.header.Header.{Header}
use Rattle.sx_header.specs.declared.header.HeaderFault.{HeaderFault}
use Rattle.sx_header.specs.declared.header.HeaderFault.TheVariants.{Short, Magic, PageSize, Usable, Encoding as BadEncoding}

-- the first 16 bytes of a database file: a text and a zero byte
abbrev pub magic : List ℕ
magic = codes "SQLite format 3" ++ 0 ∷ []

-- the bytes begin like those of a database file
unfoldable pub has_magic : List ℕ → Bool
has_magic bytes = starts_with nat_eq bytes magic

-- the page size in bytes: the number at 16 itself, but 65536 where that is 1
abbrev pub page_size_in : List ℕ → ℕ
page_size_in bytes = if two_bytes_at bytes 16 == 1 then 65536 else two_bytes_at bytes 16

-- the bytes of a page that are in use: all but as many at its end as the byte at 20 says
abbrev pub usable_in : List ℕ → ℕ
usable_in bytes = page_size_in bytes - byte_at bytes 20

-- the fields of a header
abbrev pub fields_in : List ℕ → Header
fields_in bytes = record {
  page_size = page_size_in bytes;
  usable = usable_in bytes;
  change = word_at bytes 24;
  pages = word_at bytes 28;
  free_head = word_at bytes 32;
  free_pages = word_at bytes 36;
  cookie = word_at bytes 40;
  format = word_at bytes 44;
  largest_root = word_at bytes 52;
  encoding = word_at bytes 56;
  valid_for = word_at bytes 92;
  version = word_at bytes 96;
}

-- the header that the bytes begin with, or the first of the five tests that fails
unfoldable pub header_of : List ℕ → Result Header HeaderFault
header_of bytes =
    if nat_lt (length bytes) 100 then Err Short
    else (if not (has_magic bytes) then Err Magic
    else (if not (is_page_size (page_size_in bytes)) then Err PageSize
    else (if nat_lt (usable_in bytes) 480 then Err Usable
    else (if nat_lt 3 (word_at bytes 56) then Err BadEncoding
    else Ok (fields_in bytes)))))

-- the ranges of an accepted header's fields
pub record HasRanges (header : Header) : Type 0 where
  pub page_size : IsPageSize header.page_size
  pub least : 480 ≤ header.usable
  pub within : header.usable ≤ header.page_size
  pub encoding : header.encoding ≤ 3

-- the encoding that a number stands for
abbrev pub encoding_of : ℕ → Encoding
encoding_of number = if number == 2 then Utf16Le else (if number == 3 then Utf16Be else Utf8)
