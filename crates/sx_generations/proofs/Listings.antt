-- How the list of runs grows.
use Rattle.std.proofs.Common.{◌≡◌, ℕ, ◌+◌, ◌-◌, ◌^◌, ◌<◌, ◌≤◌, Bool, true, false, cond, List, [], ◌∷◌, ◌++◌, length, map, take, drop, get_or, refl, sym, ap, ◌∙◌, arith, append-nil, append_assoc, All}
use Rattle.std.specs.List.{filter, range_with_len}
use Rattle.std.proofs.lemmas.List.{map-append, take_more, take-append-le, drop-append-le, length-append, length-drop, take_all, drop_all}
use Rattle.std.proofs.lemmas.List.Elements.{filter-append, All-weaker, All-push, All-head, All-tail}
use Rattle.std.proofs.lemmas.List.Sums.{length-filter, count_by-le-length}
use Rattle.std.proofs.lemmas.List.FromFn.{length-range_with_len}
use Rattle.sx_generations.specs.declared.neighbours.Streak.{Streak}
use Rattle.sx_generations.specs.declared.runs.Run.{Run}
use Rattle.sx_generations.specs.declared.runs.Listed.{Listed}
use Rattle.sx_wal.specs.declared.slot.Slot.{Slot}
use Rattle.sx_wal.specs.Frames.{slot_count}
use Rattle.sx_wal.specs.Wal.{Wal}
use Rattle.sx_generations.specs.Neighbours.{streaks_of}
use Rattle.sx_generations.specs.Older.{has_size, commits_in, older_run, continues, older_of, AreSlotsOf}
use Rattle.sx_generations.specs.Listing.{shown, IsHeld, AreListed}
use Rattle.sx_generations.proofs.Walks.{range_split}
use Rattle.sx_generations.proofs.Streaks.{few_streaks, none_of_one}
use Rattle.sx_generations.proofs.Logs.{count_is}

-- the numbers of a range that pass, up to one more
filter_next : (p : ℕ → Bool) (from i : ℕ) → from ≤ i
    → filter p (range_with_len from (i + 1 - from)) ≡ filter p (range_with_len from (i - from)) ++ cond (p i) (i ∷ []) []
filter_next p from i low =
    let long : i + 1 - from ≡ i - from + 1 = omega arith in
    let place : from + (i - from) ≡ i = omega arith in
    ap (λ n. filter p (range_with_len from n)) long
    ∙ ap (filter p) (range_split from (i - from) 1)
    ∙ filter-append p (range_with_len from (i - from)) (range_with_len (from + (i - from)) 1)
    ∙ ap (λ k. filter p (range_with_len from (i - from)) ++ filter p (k ∷ [])) place

-- a commit more, or none
pub passed_more : (p : ℕ → Bool) (from i : ℕ) (old commits new : List ℕ) → from ≤ i → commits ≡ old ++ filter p (range_with_len from (i - from)) → p i ≡ true
    → new ≡ commits ++ i ∷ [] → new ≡ old ++ filter p (range_with_len from (i + 1 - from))
passed_more p from i old commits new low so_far pass is =
    let front = filter p (range_with_len from (i - from)) in
    is
    ∙ ap (λ xs. xs ++ i ∷ []) so_far
    ∙ append_assoc old front (i ∷ [])
    ∙ ap (λ xs. old ++ xs) (sym (filter_next p from i low ∙ ap (λ b. front ++ cond b (i ∷ []) []) pass))

pub passed_none : (p : ℕ → Bool) (from i : ℕ) (old commits new : List ℕ) → from ≤ i → commits ≡ old ++ filter p (range_with_len from (i - from)) → p i ≡ false
    → new ≡ commits → new ≡ old ++ filter p (range_with_len from (i + 1 - from))
passed_none p from i old commits new low so_far fail is =
    let front = filter p (range_with_len from (i - from)) in
    is ∙ so_far ∙ ap (λ xs. old ++ xs) (sym (filter_next p from i low ∙ ap (λ b. front ++ cond b (i ∷ []) []) fail ∙ append-nil front))

-- all commits of a run
pub passed_all : (page_size : ℕ) (bytes : List ℕ) (streak : Streak) (i : ℕ) (old commits : List ℕ) → i ≡ streak.first + streak.len
    → commits ≡ old ++ filter (has_size page_size bytes) (range_with_len (streak.first + 1) (i - (streak.first + 1)))
    → commits ≡ old ++ commits_in page_size bytes streak
unfolding commits_in
passed_all page_size bytes streak i old commits end so_far =
    let long : i - (streak.first + 1) ≡ streak.len - 1 = omega arith in
    so_far ∙ ap (λ n. old ++ filter (has_size page_size bytes) (range_with_len (streak.first + 1) n)) long

-- a run has fewer commits than slots
pub few_commits : (page_size : ℕ) (bytes : List ℕ) (streak : Streak) → length (commits_in page_size bytes streak) ≤ streak.len - 1
unfolding commits_in
few_commits page_size bytes streak =
    let row = range_with_len (streak.first + 1) (streak.len - 1) in
    omega (arith, length-filter (has_size page_size bytes) row, count_by-le-length (has_size page_size bytes) row, length-range_with_len (streak.first + 1) (streak.len - 1))

-- ---- the list of runs

-- what is listed of the first so many runs
pub record Listing (run : Streak → Run × List ℕ) (streaks : List Streak) (n : ℕ) (runs : List Listed) (commits : List ℕ) : Type 0 where
  pub seen : map (shown commits) runs ≡ map run (take n streaks)
  pub held : All (IsHeld commits) runs
  pub len : length runs ≡ n

-- a run shows the same commits where more stand behind them
shown_same : (commits more : List ℕ) (listed : Listed) → IsHeld commits listed → shown (commits ++ more) listed ≡ shown commits listed
shown_same commits more listed held =
    let len = length-drop listed.before commits in
    ap (λ (xs : List ℕ). (listed.run, take listed.run.commits xs)) (drop-append-le listed.before commits more (omega arith))
    ∙ ap (λ (xs : List ℕ). (listed.run, xs)) (take-append-le listed.run.commits (drop listed.before commits) more (omega arith))

all_same : (commits more : List ℕ) (runs : List Listed) → All (IsHeld commits) runs → map (shown (commits ++ more)) runs ≡ map (shown commits) runs
all_same commits more [] held = refl
all_same commits more (listed ∷ runs) held =
    ap (λ first. first ∷ map (shown (commits ++ more)) runs) (shown_same commits more listed (All-head (IsHeld commits) listed runs held))
    ∙ ap (λ rest. shown commits listed ∷ rest) (all_same commits more runs (All-tail (IsHeld commits) listed runs held))

held_more : (commits more : List ℕ) (listed : Listed) → IsHeld commits listed → IsHeld (commits ++ more) listed
held_more commits more listed held = let len = length-append commits more in omega arith

-- a run more
pub listing_more : (run : Streak → Run × List ℕ) (streaks : List Streak) (n : ℕ) (streak other : Streak) (runs new_runs : List Listed) (commits new_commits : List ℕ) (listed : Listed)
    → Listing run streaks n runs commits → n < length streaks → streak ≡ get_or streaks n other → (run streak).0.commits ≡ length (run streak).1
    → listed.run ≡ (run streak).0 → listed.before ≡ length commits → new_commits ≡ commits ++ (run streak).1 → new_runs ≡ runs ++ listed ∷ []
    → Listing run streaks (n + 1) new_runs new_commits
listing_more run streaks n streak other runs new_runs commits new_commits listed so_far below is counted is_run is_before is_commits is_runs =
    let more = (run streak).1 in
    let long : listed.run.commits ≡ length more = ap (λ (r : Run). r.commits) is_run ∙ counted in
    let whole : take listed.run.commits (drop listed.before (commits ++ more)) ≡ more =
    ap (λ k. take listed.run.commits (drop k (commits ++ more))) is_before
    ∙ ap (take listed.run.commits) (drop-append-le (length commits) commits more (omega arith) ∙ ap (λ xs. xs ++ more) (drop_all (length commits) commits (omega arith)))
    ∙ take_all listed.run.commits more (omega arith) in
    let one : shown (commits ++ more) listed ≡ run streak = ap (λ xs. (listed.run, xs)) whole ∙ ap (λ (r : Run). (r, more)) is_run in
    let seen : map (shown (commits ++ more)) (runs ++ listed ∷ []) ≡ map run (take (n + 1) streaks) =
    map-append (shown (commits ++ more)) runs (listed ∷ [])
    ∙ ap (λ xs. xs ++ shown (commits ++ more) listed ∷ []) (all_same commits more runs so_far.held ∙ so_far.seen)
    ∙ ap (λ x. map run (take n streaks) ++ x ∷ []) (one ∙ ap run is)
    ∙ sym (ap (map run) (take_more streaks n other below) ∙ map-append run (take n streaks) (get_or streaks n other ∷ [])) in
    let held : All (IsHeld (commits ++ more)) (runs ++ listed ∷ []) =
    All-push (IsHeld (commits ++ more)) runs listed (All-weaker (IsHeld commits) (IsHeld (commits ++ more)) (λ l. held_more commits more l) runs so_far.held)
    (let len = length-append commits more in omega arith) in
    let len = length-append runs (listed ∷ []) in
    rw (is_commits, is_runs) (record { seen = seen; held = held; len = let was = so_far.len in omega arith })

-- what is listed is an index
pub listing_held : (run : Streak → Run × List ℕ) (joined : ℕ → Bool) (count n : ℕ) (streaks : List Streak) (runs : List Listed) (commits : List ℕ)
    → Listing run streaks n runs commits → streaks ≡ streaks_of joined count → n ≤ length streaks → count < 2 ^ 32 → AreListed runs commits
listing_held run joined count n streaks runs commits so_far are within few =
    let most = few_streaks joined count in
    let len = ap (λ xs. length xs) are in
    let was = so_far.len in
    record { few = omega arith; held = so_far.held }

-- all runs are listed
pub listing_all : (run : Streak → Run × List ℕ) (n : ℕ) (streaks : List Streak) (runs : List Listed) (commits : List ℕ)
    → Listing run streaks n runs commits → length streaks ≤ n → map (shown commits) runs ≡ map run streaks
listing_all run n streaks runs commits so_far end = so_far.seen ∙ ap (map run) (take_all n streaks end)

-- ---- the runs of a log

-- a log without slots has none
pub none_without_slots : (page_size : ℕ) (bytes : List ℕ) (wal : Wal) → AreSlotsOf page_size bytes wal → length wal.slots ≡ 0 → [] ≡ older_of page_size bytes
unfolding older_of
none_without_slots page_size bytes wal are none =
    let count = count_is page_size bytes wal are in
    sym (ap (map (older_run page_size bytes)) (none_of_one (continues page_size bytes) (slot_count page_size bytes) (omega arith)))

-- the runs among all frames
pub runs_are : (page_size frame_size : ℕ) (bytes frame_bytes : List ℕ) (wal : Wal) (slots : List Slot) (runs : List (Run × List ℕ)) → AreSlotsOf page_size bytes wal
    → frame_size ≡ page_size → frame_bytes ≡ bytes → slots ≡ wal.slots
    → runs ≡ map (older_run frame_size frame_bytes) (streaks_of (continues frame_size frame_bytes) (length slots)) → runs ≡ older_of page_size bytes
unfolding older_of
runs_are page_size frame_size bytes frame_bytes wal slots runs are is_size is_bytes is_slots is =
    let count : length slots ≡ slot_count page_size bytes = ap (λ (xs : List Slot). length xs) is_slots ∙ count_is page_size bytes wal are in
    is
    ∙ ap (λ n. map (older_run n frame_bytes) (streaks_of (continues n frame_bytes) (length slots))) is_size
    ∙ ap (λ b. map (older_run page_size b) (streaks_of (continues page_size b) (length slots))) is_bytes
    ∙ ap (λ n. map (older_run page_size bytes) (streaks_of (continues page_size bytes) n)) count

-- a run counts its commits
pub run_counts : (page_size : ℕ) (bytes : List ℕ) (streak : Streak) → (older_run page_size bytes streak).0.commits ≡ length (older_run page_size bytes streak).1
unfolding older_run
run_counts page_size bytes streak = refl

-- its commits
pub run_commits : (page_size : ℕ) (bytes : List ℕ) (streak : Streak) → (older_run page_size bytes streak).1 ≡ commits_in page_size bytes streak
unfolding older_run
run_commits page_size bytes streak = refl
