-- What `carve` prints where candidates are completed: the line of a completed one has each of its values whole.
use Rattle.std.specs.Prelude.{ℕ, List, [], ◌∷◌, ◌++◌, length, map, slice_get, codes, is_some, Option, Some, None, Result, Ok, Err}
use Rattle.std.specs.Fmt.{decimal}
use Rattle.std.specs.List.{flat_map, count_by}
use Rattle.sx_bytes.specs.declared.encoding.Encoding.{Encoding}
use Rattle.sx_record.specs.Content.{Content}
use Rattle.sx_record.specs.Records.{record_of}
use Rattle.sx_record.specs.Text.{printed_value}
use Rattle.sx_record.specs.declared.fault.RecordFault.{RecordFault}
use Rattle.sx_images.specs.declared.image.Image.{Image}
use Rattle.sx_grammar.specs.Sightings.{Sighting}
use Rattle.sx_carve.specs.Candidates.{Carved}
use Rattle.sx_carve_text.specs.Carve.{form_word, found_rowid, first_overflow_text, place_text, page_text, found_line}

-- values, each after a space
unfoldable pub values_text : Encoding → List Content → List ℕ
values_text encoding columns = flat_map (λ column. 32 ∷ printed_value encoding column) columns

-- the values of a record; a payload that is none has no values
abbrev pub record_text : Encoding → Result (List Content) RecordFault → List ℕ
record_text encoding (Ok columns) = values_text encoding columns
record_text encoding (Err fault) = []

-- what is read of a completed candidate with this payload
unfoldable pub whole_text : Encoding → Sighting → List ℕ → List ℕ
whole_text encoding sighting payload =
    codes " rowid "
    ++ (found_rowid sighting.rowid ++ (record_text encoding (record_of payload) ++ (first_overflow_text sighting.overflow ++ codes " complete")))

-- the line of a completed candidate in this image
unfoldable pub whole_line : Encoding → Image → Carved → List ℕ → List ℕ
whole_line encoding image one payload =
    place_text image one.at one.sighting.len
    ++ (form_word one.sighting.form ++ (page_text image ++ whole_text encoding one.sighting payload))

-- the line of a candidate in this image, completed or not
abbrev pub line_by : Encoding → Image → Carved → Option (List ℕ) → List ℕ
line_by encoding image one None = found_line encoding image one
line_by encoding image one (Some payload) = whole_line encoding image one payload

-- the same, where the image is found by its number; a number that no image has gives an empty line
abbrev pub spilled_in : Encoding → Option Image → Carved → Option (List ℕ) → List ℕ
spilled_in encoding None one payload = []
spilled_in encoding (Some image) one payload = line_by encoding image one payload

-- the line of a candidate, among all images, with what completes it
abbrev pub spilled_line : Encoding → List Image → (Sighting → Option (List ℕ)) → Carved → List ℕ
spilled_line encoding images complete one = spilled_in encoding (slice_get images one.image) one (complete one.sighting)

-- how many candidates are completed
abbrev pub completed_count : (Sighting → Option (List ℕ)) → List Carved → ℕ
completed_count complete candidates = count_by (λ one. is_some (complete one.sighting)) candidates

-- the last line
unfoldable pub completed_line : ℕ → ℕ → List ℕ
completed_line count completed = codes "candidates " ++ decimal count ++ codes " completed " ++ decimal completed

-- all lines over candidates among these images, with what completes them; texts are in this encoding
abbrev pub spilled_lines : Encoding → List Image → (Sighting → Option (List ℕ)) → List Carved → List (List ℕ)
spilled_lines encoding images complete candidates =
    map (spilled_line encoding images complete) candidates ++ completed_line (length candidates) (completed_count complete candidates) ∷ []
