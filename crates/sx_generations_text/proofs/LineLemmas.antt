-- The lines of runs and groups, one after the other.
use Rattle.std.proofs.Common.{◌≡◌, ℕ, zero, suc, ◌+◌, ◌<◌, ◌≤◌, List, [], ◌∷◌, ◌++◌, length, map, take, drop, get_or, Some, sum_by, append_assoc, zero-add, sym, ◌∙◌, ap, refl, arith, add-one, drop-cons, slice_get}
use Rattle.std.proofs.lemmas.List.{drop_all, take_more}
use Rattle.std.proofs.lemmas.List.Sums.{sum_by-append}
use Rattle.std.specs.Option.{option_map}
use Rattle.std.proofs.lemmas.Option.{get_or_from_slice_get, slice_get_within}
use Rattle.sx_wal.specs.declared.slot.Slot.{Slot}
use Rattle.sx_generations.specs.declared.runs.Run.{Run}
use Rattle.sx_generations.specs.declared.groups.Group.{Group}
use Rattle.sx_generations.specs.Listing.{commits_there, commits_at}
use Rattle.sx_lines.specs.Lines.{ended}
use Rattle.sx_generations_text.specs.declared.generations_line.GenerationsLine.{GenerationsLine}
use Rattle.sx_generations_text.specs.declared.generations_line.GenerationsLine.TheVariants.{Runs, Run as RunAt, Commit, Group as GroupAt}
use Rattle.sx_generations_text.specs.Generations.{runs_line, older_run_line, commit_line, older_run_lines, groups_line, group_line, group_lines, generations_lines}
use Rattle.sx_generations_text.specs.Rest.{lines_behind, lines_from, IsStep}

-- a list from a place on
pub drop_next : {X : Type 0} (xs : List X) (i : ℕ) (x : X) → slice_get xs i ≡ Some x → drop i xs ≡ x ∷ drop (i + 1) xs
drop_next xs i x found =
    drop-cons xs i x (slice_get_within xs i x found)
    ∙ ap (λ y. y ∷ drop (suc i) xs) (get_or_from_slice_get xs i x x found)
    ∙ ap (λ n. x ∷ drop n xs) (sym (add-one i))

-- there is an item at each place of a list
pub at_place : {X : Type 0} (xs : List X) (i : ℕ) → i < length xs → (x : X) × (slice_get xs i ≡ Some x)
at_place [] i below = absurd (omega arith)
at_place (x ∷ xs) zero below = (x, refl)
at_place (x ∷ xs) (suc i) below = at_place xs i (omega arith)

-- the commits of a run more
pub counted_more : (runs : List (Run × List ℕ)) (i commits one : ℕ) → i < length runs → commits ≡ sum_by (λ run. length run.1) (take i runs) → one ≡ length (commits_at runs i)
    → commits + one ≡ sum_by (λ run. length run.1) (take (i + 1) runs)
counted_more runs i commits one below so_far is =
    let at = at_place runs i below in
    let here : get_or runs i at.0 ≡ at.0 = get_or_from_slice_get runs i at.0 at.0 at.1 in
    let long : one ≡ length (at.0).1 = is ∙ ap (λ found. length (commits_there found)) at.1 in
    ap (λ n. n + one) so_far
    ∙ ap (λ n. sum_by (λ run. length run.1) (take i runs) + n) (long ∙ sym (zero-add (length (at.0).1)))
    ∙ sym (ap (sum_by (λ run. length run.1)) (take_more runs i at.0 below ∙ ap (λ x. take i runs ++ x ∷ []) here) ∙ sum_by-append (λ run. length run.1) (take i runs) (at.0 ∷ []))

-- ---- runs

-- a run comes next, and then its commits
run_next : (slots : List Slot) (runs : List (Run × List ℕ)) (groups : List Group) (i : ℕ) (run : Run × List ℕ) → slice_get runs i ≡ Some run
    → lines_behind slots runs groups i ≡ older_run_line i run.0 ∷ lines_from (Commit i 0) slots runs groups
unfolding older_run_lines
run_next slots runs groups i run found =
    let behind = groups_line groups ∷ group_lines 0 groups in
    let own = map (commit_line slots) run.1 in
    let others = older_run_lines slots (i + 1) (drop (i + 1) runs) in
    ap (λ rest. older_run_lines slots i rest ++ behind) (drop_next runs i run found)
    ∙ ap (λ rest. older_run_line i run.0 ∷ rest) (append_assoc own others behind)
    ∙ ap (λ there. older_run_line i run.0 ∷ map (commit_line slots) (commits_there there) ++ (others ++ behind)) (sym found)

pub run_then : (runs : List (Run × List ℕ)) (groups : List Group) (i : ℕ) (run : Run) (line : List ℕ) → i < length runs → option_map (λ listed. listed.0) (slice_get runs i) ≡ Some run
    → line ≡ ended (older_run_line i run) → (slots : List Slot) → IsStep slots runs groups (RunAt i) (Commit i 0) line
run_then runs groups i run line below is text slots =
    let at = at_place runs i below in
    let same : Some (at.0).0 ≡ Some run = ap (λ found. option_map (λ listed. listed.0) found) (sym at.1) ∙ is in
    let first : (at.0).0 ≡ run = cc in
    record {
      place = below;
      first = older_run_line i run;
      text = text;
      rest = run_next slots runs groups i at.0 at.1 ∙ ap (λ r. older_run_line i r ∷ lines_from (Commit i 0) slots runs groups) first;
    }

-- behind the last run the groups are counted
pub groups_then : (runs : List (Run × List ℕ)) (groups : List Group) (i : ℕ) (line : List ℕ) → length runs ≤ i → line ≡ ended (groups_line groups) → (slots : List Slot) → IsStep slots runs groups (RunAt i) (GroupAt 0) line
unfolding older_run_lines
groups_then runs groups i line end text slots = record {
  place = tt;
  first = groups_line groups;
  text = text;
  rest = ap (λ rest. older_run_lines slots i rest ++ groups_line groups ∷ group_lines 0 groups) (drop_all i runs end);
}

-- a commit comes next
pub commit_next : (slots : List Slot) (runs : List (Run × List ℕ)) (groups : List Group) (i k slot : ℕ) (line : List ℕ) → i < length runs → k < length (commits_at runs i)
    → slot ≡ get_or (commits_at runs i) k 0 → line ≡ ended (commit_line slots slot) → IsStep slots runs groups (Commit i k) (Commit i (k + 1)) line
commit_next slots runs groups i k slot line there below is text = record {
  place = there;
  first = commit_line slots slot;
  text = text;
  rest = ap (λ rest. map (commit_line slots) rest ++ lines_behind slots runs groups (i + 1))
      (drop-cons (commits_at runs i) k 0 below ∙ ap (λ n. get_or (commits_at runs i) k 0 ∷ drop n (commits_at runs i)) (sym (add-one k)))
      ∙ ap (λ first. commit_line slots first ∷ lines_from (Commit i (k + 1)) slots runs groups) (sym is);
}

-- behind the last commit comes what comes behind the run
pub commits_end : (slots : List Slot) (runs : List (Run × List ℕ)) (groups : List Group) (i k : ℕ) (next : GenerationsLine) (line : List ℕ) → length (commits_at runs i) ≤ k
    → IsStep slots runs groups (RunAt (i + 1)) next line → IsStep slots runs groups (Commit i k) next line
commits_end slots runs groups i k next line end behind = record {
  place = behind.place;
  first = behind.first;
  text = behind.text;
  rest = ap (λ rest. map (commit_line slots) rest ++ lines_behind slots runs groups (i + 1)) (drop_all k (commits_at runs i) end) ∙ behind.rest;
}

-- the runs are counted first
pub runs_first : (slots : List Slot) (runs : List (Run × List ℕ)) (groups : List Group) (line : List ℕ) → line ≡ ended (runs_line runs) → IsStep slots runs groups Runs (RunAt 0) line
unfolding generations_lines
runs_first slots runs groups line text = record { place = tt; first = runs_line runs; text = text; rest = refl }

-- ---- groups

pub group_next : (slots : List Slot) (runs : List (Run × List ℕ)) (groups : List Group) (i : ℕ) (group : Group) (line : List ℕ) → slice_get groups i ≡ Some group
    → line ≡ ended (group_line i group) → IsStep slots runs groups (GroupAt i) (GroupAt (i + 1)) line
unfolding group_lines
group_next slots runs groups i group line found text = record { place = tt; first = group_line i group; text = text; rest = ap (group_lines i) (drop_next groups i group found) }

pub groups_end : (slots : List Slot) (runs : List (Run × List ℕ)) (groups : List Group) (i : ℕ) → length groups ≤ i → lines_from (GroupAt i) slots runs groups ≡ []
unfolding group_lines
groups_end slots runs groups i end = ap (group_lines i) (drop_all i groups end)

-- the same, of equal first_to_last
pub next_same : (slots : List Slot) (runs : List (Run × List ℕ)) (groups : List Group) (at same next : GenerationsLine) (line : List ℕ) → at ≡ same
    → IsStep slots runs groups same next line → IsStep slots runs groups at next line
next_same slots runs groups at same next line is found = rw is found
