-- The lines of rows, one after the other, and how many of them are shown.
use Rattle.std.proofs.Common.{◌≡◌, ℕ, suc, ◌+◌, Bool, true, false, cond, List, [], ◌∷◌, ◌++◌, Option, Some, None, drop, map, sym, ap, ◌∙◌, arith, add-one, drop-cons, ⊎_elim}
use Rattle.std.specs.Prelude.{slice_get}
use Rattle.std.specs.List.{count_by}
use Rattle.std.proofs.lemmas.List.{drop_all}
use Rattle.std.proofs.lemmas.List.Sums.{sum_by-cons}
use Rattle.std.proofs.lemmas.Option.{slice_get_within, get_or_from_slice_get, slice_get_cases}
use Rattle.sx_base.specs.declared.moment.Moment.{Moment}
use Rattle.sx_history.specs.declared.found.Found.{Found}
use Rattle.sx_lines.specs.Lines.{ended, IsNextLine}
use Rattle.sx_show_text.specs.Items.{Printed}
use Rattle.sx_show_text.specs.Show.{last_line}
use Rattle.sx_history_text.specs.Histories.{at_moment, rows_lines}
use Rattle.sx_history_text.specs.Rest.{rows_from, lines_from}

-- the row at a place stands in front of those behind it
first_there : (items : List Found) (place : ℕ) (found : Found) → slice_get items place ≡ Some found → drop place items ≡ found ∷ drop (place + 1) items
first_there items place found is =
    drop-cons items place found (slice_get_within items place found is)
    ∙ ap (λ one. one ∷ drop (suc place) items) (get_or_from_slice_get items place found found is)
    ∙ ap (λ n. found ∷ drop n items) (sym (add-one place))

clash : (found : Found) → (let none : Option Found = None in none ≡ Some found) → ⊥
clash found is = cc

-- where there is none, none is left
none_there : (items : List Found) (place : ℕ) → slice_get items place ≡ None → drop place items ≡ []
none_there items place is =
    ⊎_elim (λ there. absurd (clash there.0 (sym is ∙ there.2))) (λ past. drop_all place items past.0) (slice_get_cases items place).1

-- a text that begins has all its lines to come
pub from_none : (moment : Moment) (faults : ℕ) (printed : List Printed) → rows_from moment 0 faults printed ≡ rows_lines moment faults printed
from_none moment faults printed =
    let rows : 0 + count_by (λ one. one.is_row) printed ≡ count_by (λ one. one.is_row) printed = omega arith in
    ap (λ n. map (λ one. at_moment moment one.line) printed ++ at_moment moment (last_line n faults) ∷ []) rows

step : (moment : Moment) (rows more faults : ℕ) (one : Printed) (printed : List Printed) → more ≡ rows + cond one.is_row 1 0
    → rows_from moment rows faults (one ∷ printed) ≡ at_moment moment one.line ∷ rows_from moment more faults printed
step moment rows more faults one printed is =
    let counted : rows + count_by (λ one. one.is_row) (one ∷ printed) ≡ more + count_by (λ one. one.is_row) printed =
    omega (arith, is, sum_by-cons (λ (one : Printed). cond one.is_row 1 0) one printed) in
    ap (λ n. at_moment moment one.line ∷ (map (λ one. at_moment moment one.line) printed ++ at_moment moment (last_line n faults) ∷ [])) counted

-- the line of a row was taken
pub row_next : (make : Found → Printed) (moment : Moment) (rows one more faults place : ℕ) (is_row : Bool) (items : List Found) (found : Found) (line : List ℕ)
    → Some found ≡ slice_get items place → is_row ≡ (make found).is_row → one ≡ cond is_row 1 0 → more ≡ rows + one
    → line ≡ ended (at_moment moment (make found).line)
    → IsNextLine (rows_from moment rows faults (map make (drop place items))) (rows_from moment more faults (map make (drop (place + 1) items))) line true
row_next make moment rows one more faults place is_row items found line is shown counts added written =
    let counted : more ≡ rows + cond (make found).is_row 1 0 = added ∙ ap (λ n. rows + n) (counts ∙ ap (λ b. cond b 1 0) shown) in (
      at_moment moment (make found).line,
      ap (λ l. rows_from moment rows faults (map make l)) (first_there items place found (sym is))
          ∙ step moment rows more faults (make found) (map make (drop (place + 1) items)) counted,
      written,
    )

-- the last line was taken
pub last_next : (make : Found → Printed) (moment : Moment) (rows faults place : ℕ) (items : List Found) (line : List ℕ)
    → None ≡ slice_get items place → line ≡ ended (at_moment moment (last_line rows faults))
    → IsNextLine (rows_from moment rows faults (map make (drop place items))) [] line true
last_next make moment rows faults place items line is written =
    let rows_left : rows + count_by {X = Printed} (λ one. one.is_row) [] ≡ rows = omega arith in (
      at_moment moment (last_line rows faults),
      ap (λ l. rows_from moment rows faults (map make l)) (none_there items place (sym is))
          ∙ ap (λ n. at_moment moment (last_line n faults) ∷ []) rows_left,
      written,
    )

-- the same, of a text that isn't at its end
pub row_of : (make : Found → Printed) (moment : Moment) (rows one more faults place : ℕ) (is_row at_end : Bool) (items : List Found) (found : Found) (line : List ℕ) (all : List (List ℕ))
    → all ≡ lines_from at_end moment rows faults (map make (drop place items)) → at_end ≡ false
    → Some found ≡ slice_get items place → is_row ≡ (make found).is_row → one ≡ cond is_row 1 0 → more ≡ rows + one
    → line ≡ ended (at_moment moment (make found).line)
    → IsNextLine all (lines_from at_end moment more faults (map make (drop (place + 1) items))) line true
row_of make moment rows one more faults place is_row at_end items found line all viewed unended is shown counts added written =
    let next = row_next make moment rows one more faults place is_row items found line is shown counts added written in (
      next.0,
      viewed
          ∙ ap (λ b. lines_from b moment rows faults (map make (drop place items))) unended
          ∙ next.1
          ∙ ap (λ b. next.0 ∷ lines_from b moment more faults (map make (drop (place + 1) items))) (sym unended),
      next.2,
    )

pub last_of : (make : Found → Printed) (moment : Moment) (rows faults place : ℕ) (at_end : Bool) (items : List Found) (line : List ℕ) (all : List (List ℕ))
    → all ≡ lines_from at_end moment rows faults (map make (drop place items)) → at_end ≡ false
    → None ≡ slice_get items place → line ≡ ended (at_moment moment (last_line rows faults))
    → IsNextLine all [] line true
last_of make moment rows faults place at_end items line all viewed unended is written =
    let next = last_next make moment rows faults place items line is written in (
      next.0,
      viewed ∙ ap (λ b. lines_from b moment rows faults (map make (drop place items))) unended ∙ next.1,
      next.2,
    )
