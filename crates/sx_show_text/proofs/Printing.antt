-- The lines of items, one after the other, and how many rows and faults they have.
use Rattle.std.proofs.Common.{◌≡◌, ℕ, ◌+◌, Bool, true, false, not, cond, List, [], ◌∷◌, ◌++◌, map, ap, ◌∙◌, arith}
use Rattle.std.specs.List.{count_by}
use Rattle.std.proofs.lemmas.List.Sums.{sum_by-cons}
use Rattle.sx_lines.specs.Lines.{ended, IsNextLine}
use Rattle.sx_tree.specs.declared.item.RowItem.{RowItem}
use Rattle.sx_show_text.specs.Items.{Printed}
use Rattle.sx_show_text.specs.Show.{is_fault, last_line, printed_lines}
use Rattle.sx_show_text.specs.Rest.{printed_from}

-- a text that begins has all its lines to come
pub from_none : (printed : List Printed) → printed_from 0 0 printed ≡ printed_lines printed
from_none printed =
    let rows : 0 + count_by (λ one. one.is_row) printed ≡ count_by (λ one. one.is_row) printed = omega arith in
    let faults : 0 + count_by is_fault printed ≡ count_by is_fault printed = omega arith in
    ap (λ n. map (λ one. one.line) printed ++ last_line n (0 + count_by is_fault printed) ∷ []) rows
    ∙ ap (λ n. map (λ one. one.line) printed ++ last_line (count_by (λ one. one.is_row) printed) n ∷ []) faults

count_first : (test : Printed → Bool) (one : Printed) (printed : List Printed) (b : Bool) → test one ≡ b
    → count_by test (one ∷ printed) ≡ cond b 1 0 + count_by test printed
count_first test one printed b is =
    sum_by-cons (λ one. cond (test one) 1 0) one printed ∙ ap (λ b. cond b 1 0 + count_by test printed) is

-- the lines that are to come, by their numbers
abbrev lines_with : ℕ → ℕ → Printed → List Printed → List (List ℕ)
lines_with rows faults one printed = one.line ∷ (map (λ one. one.line) printed ++ last_line rows faults ∷ [])

row_step : (rows faults : ℕ) (one : Printed) (printed : List Printed) → one.is_row ≡ true
    → printed_from rows faults (one ∷ printed) ≡ one.line ∷ printed_from (rows + 1) faults printed
row_step rows faults one printed is =
    let more : rows + count_by (λ one. one.is_row) (one ∷ printed) ≡ rows + 1 + count_by (λ one. one.is_row) printed
    = omega (arith, count_first (λ one. one.is_row) one printed true is) in
    let same : faults + count_by is_fault (one ∷ printed) ≡ faults + count_by is_fault printed
    = omega (arith, count_first is_fault one printed false (ap not is)) in
    ap (λ n. lines_with n (faults + count_by is_fault (one ∷ printed)) one printed) more
    ∙ ap (λ n. lines_with (rows + 1 + count_by (λ one. one.is_row) printed) n one printed) same

fault_step : (rows faults : ℕ) (one : Printed) (printed : List Printed) → one.is_row ≡ false
    → printed_from rows faults (one ∷ printed) ≡ one.line ∷ printed_from rows (faults + 1) printed
fault_step rows faults one printed is =
    let same : rows + count_by (λ one. one.is_row) (one ∷ printed) ≡ rows + count_by (λ one. one.is_row) printed
    = omega (arith, count_first (λ one. one.is_row) one printed false is) in
    let more : faults + count_by is_fault (one ∷ printed) ≡ faults + 1 + count_by is_fault printed
    = omega (arith, count_first is_fault one printed true (ap not is)) in
    ap (λ n. lines_with n (faults + count_by is_fault (one ∷ printed)) one printed) same
    ∙ ap (λ n. lines_with (rows + count_by (λ one. one.is_row) printed) n one printed) more

-- the line of a row was taken
pub row_next : (make : RowItem → Printed) (rows faults : ℕ) (item : RowItem) (items rest : List RowItem) (line : List ℕ) → items ≡ item ∷ rest
    → (make item).is_row ≡ true → line ≡ ended (make item).line
    → IsNextLine (printed_from rows faults (map make items)) (printed_from (rows + 1) faults (map make rest)) line true
row_next make rows faults item items rest line first is written =
    ((make item).line, ap (λ l. printed_from rows faults (map make l)) first ∙ row_step rows faults (make item) (map make rest) is, written)

-- the line of a fault was taken
pub fault_next : (make : RowItem → Printed) (rows faults : ℕ) (item : RowItem) (items rest : List RowItem) (line : List ℕ) → items ≡ item ∷ rest
    → (make item).is_row ≡ false → line ≡ ended (make item).line
    → IsNextLine (printed_from rows faults (map make items)) (printed_from rows (faults + 1) (map make rest)) line true
fault_next make rows faults item items rest line first is written =
    ((make item).line, ap (λ l. printed_from rows faults (map make l)) first ∙ fault_step rows faults (make item) (map make rest) is, written)

-- the last line was taken
pub last_next : (make : RowItem → Printed) (rows faults : ℕ) (items : List RowItem) (line : List ℕ) → items ≡ [] → line ≡ ended (last_line rows faults)
    → IsNextLine (printed_from rows faults (map make items)) [] line true
last_next make rows faults items line none written =
    let no_rows : rows + count_by {X = Printed} (λ one. one.is_row) [] ≡ rows = omega arith in
    let no_faults : faults + count_by {X = Printed} is_fault [] ≡ faults = omega arith in (
      last_line rows faults,
      ap (λ l. printed_from rows faults (map make l)) none
          ∙ ap (λ n. last_line n (faults + count_by {X = Printed} is_fault []) ∷ []) no_rows ∙ ap (λ n. last_line rows n ∷ []) no_faults,
      written,
    )
