-- The lines of moments, one after the other.
use Rattle.std.proofs.Common.{◌≡◌, ◌≢◌, ℕ, ℤ, suc, ◌+◌, ◌≤◌, Bool, true, false, List, [], ◌∷◌, ◌++◌, Some, Result, Ok, Err, length, drop, refl, sym, ap, subst, ◌∙◌, arith, add-one, drop-cons, length-append}
use Rattle.std.specs.Prelude.{slice_get}
use Rattle.std.specs.List.{flat_map}
use Rattle.std.proofs.lemmas.List.{drop_all}
use Rattle.std.proofs.lemmas.List.Concat.{flat_map-cons}
use Rattle.std.proofs.lemmas.Option.{slice_get_within, get_or_from_slice_get}
use Rattle.sx_base.specs.declared.moment.Moment.{Moment}
use Rattle.sx_lines.specs.Lines.{IsNextLine}
use Rattle.sx_moment.specs.Gathered.{Gathered, moments_of}
use Rattle.sx_history_text.specs.Tracked.{Follows, Tracked}
use Rattle.sx_app.specs.Histories.{histories_of, history_at, history_by, table_there}
use Rattle.sx_app.specs.Owed.{Fails}
use Rattle.sx_app.specs.Tables.{Table, MayLack}
use Rattle.sx_app.specs.declared.refused.Refused.{Refused}
use Rattle.sx_app.specs.declared.refused.Refused.TheVariants.{Unreadable, NoTable, NoTree, Memory}

-- what was met is what the definition gives, where it isn't want of memory
pub lacks_it : (refused : Refused) (given : Result Table Refused) → MayLack refused → Fails refused given → refused ≢ Memory → given ≡ Err refused
lacks_it Memory given may fails other = absurd (other refl)
lacks_it (Unreadable moment) given may fails other = fails
lacks_it NoTable given may fails other = fails
lacks_it NoTree given may fails other = fails
lacks_it _ given may fails other = absurd may

some_by : (case : Gathered) (moment : Moment) (rowid : ℤ) (found : Result Table Refused) → 1 ≤ length (history_by case moment rowid found)
some_by case moment rowid (Ok table) = omega (arith, length-append {A = List ℕ})
some_by case moment rowid (Err refused) = omega arith

-- each moment has a line
history_some : (case : Gathered) (name : List ℕ) (rowid : ℤ) (moment : Moment) → 1 ≤ length (history_at case name rowid moment)
unfolding history_at
history_some case name rowid moment = some_by case moment rowid (table_there case moment name)

-- the lines of a moment stand in front of those of the moments behind it
first_there : (make : Moment → List (List ℕ)) (moments : List Moment) (place : ℕ) (moment : Moment) → slice_get moments place ≡ Some moment
    → flat_map make (drop place moments) ≡ make moment ++ flat_map make (drop (place + 1) moments)
first_there make moments place moment is =
    ap (flat_map make) (drop-cons moments place moment (slice_get_within moments place moment is)
    ∙ ap (λ one. one ∷ drop (suc place) moments) (get_or_from_slice_get moments place moment moment is)
    ∙ ap (λ n. moment ∷ drop n moments) (sym (add-one place)))
    ∙ flat_map-cons make moment (drop (place + 1) moments)

-- with the lines of the first moment all are there
all_there : (make : Moment → List (List ℕ)) (moments : List Moment) (moment : Moment) (current : List (List ℕ)) → slice_get moments 0 ≡ Some moment → current ≡ make moment
    → current ++ flat_map make (drop 1 moments) ≡ flat_map make moments
all_there make moments moment current is made = ap (λ l. l ++ flat_map make (drop 1 moments)) made ∙ sym (first_there make moments 0 moment is)

-- a line of the moment in hand was taken
pub here_next : (current now rest : List (List ℕ)) (line : List ℕ) → IsNextLine current now line true → IsNextLine (current ++ rest) (now ++ rest) line true
here_next current now rest line next = (next.0, ap (λ l. l ++ rest) next.1, next.2)

-- none is left
pub none_next : (make : Moment → List (List ℕ)) (moments : List Moment) (place : ℕ) (current : List (List ℕ)) → current ≡ [] → length moments ≤ place
    → current ++ flat_map make (drop place moments) ≡ []
none_next make moments place current none past =
    ap (λ l. l ++ flat_map make (drop place moments)) none ∙ ap (flat_map make) (drop_all place moments past)

none_some : (lines : List (List ℕ)) → 1 ≤ length lines → lines ≡ [] → ⊥
none_some lines some none = omega (arith, some, ap length none)

-- the first line of the next moment was taken
later_next : (make : Moment → List (List ℕ)) (moments : List Moment) (place : ℕ) (moment : Moment) (current first now : List (List ℕ)) (line : List ℕ) (more : Bool)
    → current ≡ [] → slice_get moments place ≡ Some moment → first ≡ make moment → 1 ≤ length (make moment) → IsNextLine first now line more
    → IsNextLine (current ++ flat_map make (drop place moments)) (now ++ flat_map make (drop (place + 1) moments)) line more
later_next make moments place moment current first now line true none is made some next =
    let rest = flat_map make (drop (place + 1) moments) in (
      next.0,
      ap (λ l. l ++ flat_map make (drop place moments)) none
          ∙ first_there make moments place moment is
          ∙ ap (λ l. l ++ rest) (sym made)
          ∙ ap (λ l. l ++ rest) next.1,
      next.2,
    )
later_next make moments place moment current first now line false none is made some next =
    absurd (none_some (make moment) some (sym made ∙ next))

-- the lines of the moments behind the one in hand
abbrev behind : List ℕ → Tracked → List (List ℕ)
behind name it = flat_map (history_at it.case name it.rowid) (drop (it.place + 1) (moments_of it.case))

-- with the lines of the first moment of a case all are there
pub first_all : (case : Gathered) (name : List ℕ) (rowid : ℤ) (first now : Tracked) (current : List (List ℕ)) → first.case ≡ case → first.place ≡ 0 → first.rowid ≡ rowid
    → now.case ≡ first.case → now.place ≡ first.place → now.rowid ≡ first.rowid
    → slice_get (moments_of first.case) first.place ≡ Some first.moment
    → current ≡ history_at first.case name first.rowid first.moment
    → current ++ behind name now ≡ histories_of case name rowid
unfolding histories_of
first_all case name rowid first now current case_is place_is rowid_is now_case now_place now_rowid there made =
    let moment = first.moment in
    let at : slice_get (moments_of case) 0 ≡ Some moment =
    ap (λ c. slice_get (moments_of c) 0) (sym case_is) ∙ ap (slice_get (moments_of first.case)) (sym place_is) ∙ there in
    let lines : current ≡ history_at case name rowid moment =
    made ∙ ap (λ c. history_at c name first.rowid moment) case_is ∙ ap (λ r. history_at case name r moment) rowid_is in
    ap (λ n. current ++ flat_map (history_at now.case name now.rowid) (drop (n + 1) (moments_of now.case))) (now_place ∙ place_is)
    ∙ ap (λ r. current ++ flat_map (history_at now.case name r) (drop 1 (moments_of now.case))) (now_rowid ∙ rowid_is)
    ∙ ap (λ c. current ++ flat_map (history_at c name rowid) (drop 1 (moments_of c))) (now_case ∙ case_is)
    ∙ all_there (history_at case name rowid) (moments_of case) moment current at lines

-- the first line of the moment that was gone to was taken
pub goes_next : (name : List ℕ) (before moved now : Tracked) (current first taken : List (List ℕ)) (line : List ℕ) (more : Bool)
    → Follows before moved → moved.rowid ≡ before.rowid
    → now.case ≡ moved.case → now.place ≡ moved.place → now.rowid ≡ moved.rowid
    → current ≡ [] → slice_get (moments_of moved.case) moved.place ≡ Some moved.moment
    → first ≡ history_at moved.case name moved.rowid moved.moment → IsNextLine first taken line more
    → IsNextLine (current ++ behind name before) (taken ++ behind name now) line more
goes_next name before moved now current first taken line more on rowid now_case now_place now_rowid none is made next =
    let make = history_at moved.case name moved.rowid in
    let moments = moments_of moved.case in
    let there = later_next make moments moved.place moved.moment current first taken line more none is made
    (history_some moved.case name moved.rowid moved.moment) next in
    let old : flat_map make (drop moved.place moments) ≡ behind name before =
    ap (λ n. flat_map make (drop n moments)) on.place
    ∙ ap (λ r. flat_map (history_at moved.case name r) (drop (before.place + 1) moments)) rowid
    ∙ ap (λ c. flat_map (history_at c name before.rowid) (drop (before.place + 1) (moments_of c))) on.case in
    let new : flat_map make (drop (moved.place + 1) moments) ≡ behind name now =
    ap (λ n. flat_map make (drop (n + 1) moments)) (sym now_place)
    ∙ ap (λ r. flat_map (history_at moved.case name r) (drop (now.place + 1) moments)) (sym now_rowid)
    ∙ ap (λ c. flat_map (history_at c name now.rowid) (drop (now.place + 1) (moments_of c))) (sym now_case) in
    subst (λ rest. IsNextLine (current ++ rest) (taken ++ behind name now) line more) old
    (subst (λ rest. IsNextLine (current ++ flat_map make (drop moved.place moments)) (taken ++ rest) line more) new there)
