-- What `carve` prints: a line for each candidate, in their order, and how many there are.
use Rattle.std.specs.Prelude.{ℕ, ℤ, ◌+◌, Bool, true, false, List, [], ◌∷◌, ◌++◌, length, map, slice_get, codes, Option, Some, None}
use Rattle.std.specs.Fmt.{decimal, signed_decimal}
use Rattle.std.specs.List.{flat_map}
use Rattle.sx_bytes.specs.declared.encoding.Encoding.{Encoding}
use Rattle.sx_record.specs.Text.{printed_value}
use Rattle.sx_images.specs.declared.image.Image.{Image}
use Rattle.sx_grammar.specs.declared.form.Form.{Form}
use Rattle.sx_grammar.specs.declared.form.Form.TheVariants.{Full, Tail, Types, Lost}
use Rattle.sx_grammar.specs.Sightings.{Sighting, Seen, value, lost, beyond}
use Rattle.sx_carve.specs.Candidates.{Carved}
use Rattle.sx_lines.specs.Names.{part_name, class_name}

-- whether the first column is an alias of the rowid
abbrev pub alias_mark : Bool → List ℕ
alias_mark true = codes "a"
alias_mark false = []

-- a form, with the number that belongs to it
unfoldable pub form_word : Form → List ℕ
form_word Full = codes "full"
form_word (Tail e) = codes "tail" ++ decimal e
form_word (Types n) = codes "types" ++ decimal n
form_word (Lost n alias) = codes "lost" ++ decimal n ++ alias_mark alias

-- a rowid, which a whole cell alone has
abbrev pub found_rowid : Option ℤ → List ℕ
found_rowid None = codes "?"
found_rowid (Some rowid) = signed_decimal rowid

-- a column: its value, or that this is lost, or that its bytes aren't all there
abbrev pub seen_text : Encoding → Seen → List ℕ
seen_text encoding (value content) = printed_value encoding content
seen_text encoding lost = codes "?"
seen_text encoding beyond = codes "..."

-- the columns, each after a space
unfoldable pub columns_text : Encoding → List Seen → List ℕ
columns_text encoding columns = flat_map (λ column. 32 ∷ seen_text encoding column) columns

-- the first overflow page of a payload that isn't wholly there
abbrev pub first_overflow_text : Option ℕ → List ℕ
first_overflow_text None = []
first_overflow_text (Some page) = codes " overflow " ++ decimal page

-- where a candidate stands: its file, its offset in bytes from the start of that, its length in bytes
unfoldable pub place_text : Image → ℕ → ℕ → List ℕ
place_text image at len = part_name image.part ++ codes " " ++ decimal (image.offset + at) ++ codes " " ++ decimal len ++ codes " "

-- its image: the number of its page, and its class
unfoldable pub page_text : Image → List ℕ
page_text image = codes " page " ++ decimal image.page ++ codes " " ++ class_name image.class

-- what is read of it
unfoldable pub sighting_text : Encoding → Sighting → List ℕ
sighting_text encoding sighting =
    codes " rowid " ++ (found_rowid sighting.rowid ++ (columns_text encoding sighting.columns ++ first_overflow_text sighting.overflow))

-- the line of a candidate in this image
unfoldable pub found_line : Encoding → Image → Carved → List ℕ
found_line encoding image one =
    place_text image one.at one.sighting.len ++ (form_word one.sighting.form ++ (page_text image ++ sighting_text encoding one.sighting))

-- the same, where the image is found by its number; a number that no image has gives an empty line
abbrev pub line_in : Encoding → Option Image → Carved → List ℕ
line_in encoding None one = []
line_in encoding (Some image) one = found_line encoding image one

-- the line of a candidate, among all images
abbrev pub candidate_line : Encoding → List Image → Carved → List ℕ
candidate_line encoding images one = line_in encoding (slice_get images one.image) one

-- the last line
unfoldable pub count_line : ℕ → List ℕ
count_line count = codes "candidates " ++ decimal count

-- all lines over candidates among these images; texts are in this encoding
abbrev pub carve_lines : Encoding → List Image → List Carved → List (List ℕ)
carve_lines encoding images candidates = map (candidate_line encoding images) candidates ++ count_line (length candidates) ∷ []
