-- What the walk over the slots has found so far, and that it ends with the whole log.
use Rattle.std.proofs.Common.{◌≡◌, ℕ, zero, suc, ◌+◌, ◌-◌, ◌<◌, ◌≤◌, ◌^◌, Bool, true, false, ◌||◌, cond, ltb, leb, List, [], ◌∷◌, ◌++◌, length, get_or, take, drop, map, Option, inl, inr, refl, sym, ap, ◌∙◌, arith, append-nil, take_all, length-append}
use Rattle.std.specs.List.{filter, range_with_len}
use Rattle.std.proofs.Math.Bool.{or-false, and-false}
use Rattle.std.proofs.lemmas.Bool.{cases_lt, and_parts, lt-ltb, le-ltb}
use Rattle.std.proofs.lemmas.Bool.Decides.{nat_tests}
use Rattle.std.proofs.lemmas.List.{drop_all, get_or_append_left, get_or-append_right}
use Rattle.std.proofs.lemmas.List.Elements.{filter-append}
use Rattle.std.proofs.lemmas.List.Folds.{list_any-append}
use Rattle.std.proofs.lemmas.List.FromFn.{map-range_with_len_more, length-map-range_with_len}
use Rattle.sx_wal.specs.declared.slot.Slot.{Slot}
use Rattle.sx_wal.specs.declared.state.WalState.{WalState}
use Rattle.sx_wal.specs.Checksum.{Sums}
use Rattle.sx_wal.specs.State.{state_of, has_slots}
use Rattle.sx_wal.specs.Frames.{whole_frames, slot_count, is_valid}
use Rattle.sx_wal.specs.Wal.{is_commit, commits_of, is_within, class_of, slot_of, wal, bare, log_of, IsIndex}
use Rattle.sx_wal.specs.Walk.{run_of, slot_past, as_committed}
use Rattle.sx_wal.proofs.Ranges.{range_more}
use Rattle.sx_wal.proofs.RunLemmas.{fit_below}

-- the first n slots were walked over: each slot, the commits among them, and how far the last commit reaches
pub record Walked (page_size : ℕ) (bytes : List ℕ) (slots : List Slot) (commits : List ℕ) (committed : ℕ) (run : Option Sums) (n : ℕ) : Type 0 where
  pub listed : slots ≡ map (slot_past page_size bytes) (range_with_len 0 n)
  pub found : commits ≡ filter (is_commit page_size bytes) (range_with_len 0 n)
  pub reached : (k : ℕ) → is_within commits k ≡ ltb k committed
  pub valid : (k : ℕ) → k < committed → is_valid page_size bytes k ≡ true
  pub within : committed ≤ n
  pub fewer : length commits ≤ n
  pub below : (k : ℕ) → k < length commits → get_or commits k 0 < n
  pub carried : run ≡ run_of page_size bytes n

-- one number more in a filter of a range
filter_more : (p : ℕ → Bool) (n : ℕ) → filter p (range_with_len 0 (n + 1)) ≡ filter p (range_with_len 0 n) ++ cond (p n) (n ∷ []) []
filter_more p n = ap (λ (xs : List ℕ). filter p xs) (range_more n) ∙ filter-append p (range_with_len 0 n) (n ∷ [])

-- one commit more reaches up to itself
reached_more : (commits : List ℕ) (committed n k : ℕ) → committed ≤ n → is_within commits k ≡ ltb k committed → is_within (commits ++ n ∷ []) k ≡ ltb k (n + 1)
reached_more commits committed n k within so_far =
    list_any-append (leb k) commits (n ∷ [])
    ∙ ap (λ (b : Bool). b || (leb k n || false)) so_far
    ∙ ap (λ (b : Bool). ltb k committed || b) (or-false (leb k n))
    ∙ grind (arith, nat_tests)

-- one commit more, below the next bound
below_push : (commits : List ℕ) (n k : ℕ) → ((j : ℕ) → j < length commits → get_or commits j 0 < n) → k < length (commits ++ n ∷ []) → get_or (commits ++ n ∷ []) k 0 < n + 1
below_push commits n k below inside =
    elim (cases_lt k (length commits)) [
      | inl early ↦ let was = below k early in let same = get_or_append_left commits (n ∷ []) 0 k early in omega arith
      | inr late ↦
          let len = length-append commits (n ∷ []) in
          let last : k ≡ length commits = omega arith in
          let first : k - length commits ≡ 0 = omega arith in
          let same : get_or (commits ++ n ∷ []) k 0 ≡ n =
          get_or-append_right commits (n ∷ []) (length commits) k 0 refl late ∙ ap (λ (j : ℕ). get_or (n ∷ []) j 0) first in
          omega arith
    ]

-- nothing was walked over
pub walked_none : (page_size : ℕ) (bytes : List ℕ) (slots : List Slot) (commits : List ℕ) (run : Option Sums) → slots ≡ [] → commits ≡ [] → run ≡ run_of page_size bytes 0
    → Walked page_size bytes slots commits 0 run 0
walked_none page_size bytes slots commits run no_slots no_commits carried = record {
  listed = no_slots;
  found = no_commits;
  reached = λ k. ap (λ (xs : List ℕ). is_within xs k) no_commits ∙ sym (le-ltb k 0 (omega arith));
  valid = λ k below. absurd (omega arith);
  within = omega arith;
  fewer = let len = ap (λ (xs : List ℕ). length xs) no_commits in omega arith;
  below = λ k inside. let len = ap (λ (xs : List ℕ). length xs) no_commits in absurd (omega arith);
  carried = carried;
}

-- one slot more, which is a commit
pub walked_commit : (page_size : ℕ) (bytes : List ℕ) (slots new_slots : List Slot) (commits new_commits : List ℕ) (committed : ℕ) (run new_run : Option Sums) (n : ℕ)
    → Walked page_size bytes slots commits committed run n → new_run ≡ run_of page_size bytes (n + 1) → new_slots ≡ slots ++ slot_past page_size bytes n ∷ []
    → is_commit page_size bytes n ≡ true → new_commits ≡ commits ++ n ∷ [] → Walked page_size bytes new_slots new_commits (n + 1) new_run (n + 1)
walked_commit page_size bytes slots new_slots commits new_commits committed run new_run n so_far carried one commit found = record {
  listed = one ∙ ap (λ (xs : List Slot). xs ++ slot_past page_size bytes n ∷ []) so_far.listed ∙ sym (map-range_with_len_more (slot_past page_size bytes) 0 n n (omega arith));
  found = found ∙ ap (λ (xs : List ℕ). xs ++ n ∷ []) so_far.found ∙ ap (λ (b : Bool). filter (is_commit page_size bytes) (range_with_len 0 n) ++ cond b (n ∷ []) []) (sym commit)
      ∙ sym (filter_more (is_commit page_size bytes) n);
  reached = λ k. ap (λ (xs : List ℕ). is_within xs k) found ∙ reached_more commits committed n k so_far.within (so_far.reached k);
  valid = λ k below. fit_below page_size bytes (n + 1) (k + 1) (omega arith) (and_parts (is_valid page_size bytes n) _ commit).0;
  within = omega arith;
  fewer = let len = ap (λ (xs : List ℕ). length xs) found in let more = length-append commits (n ∷ []) in let was = so_far.fewer in omega arith;
  below = λ k inside.
      let len = ap (λ (xs : List ℕ). length xs) found in
      let same = ap (λ (xs : List ℕ). get_or xs k 0) found in
      let was = below_push commits n k so_far.below (omega arith) in
      omega arith;
  carried = carried;
}

-- one slot more, which is none
pub walked_other : (page_size : ℕ) (bytes : List ℕ) (slots new_slots : List Slot) (commits : List ℕ) (committed : ℕ) (run new_run : Option Sums) (n : ℕ)
    → Walked page_size bytes slots commits committed run n → new_run ≡ run_of page_size bytes (n + 1) → new_slots ≡ slots ++ slot_past page_size bytes n ∷ []
    → is_commit page_size bytes n ≡ false → Walked page_size bytes new_slots commits committed new_run (n + 1)
walked_other page_size bytes slots new_slots commits committed run new_run n so_far carried one other = record {
  listed = one ∙ ap (λ (xs : List Slot). xs ++ slot_past page_size bytes n ∷ []) so_far.listed ∙ sym (map-range_with_len_more (slot_past page_size bytes) 0 n n (omega arith));
  found = so_far.found ∙ sym (append-nil (filter (is_commit page_size bytes) (range_with_len 0 n)))
      ∙ ap (λ (b : Bool). filter (is_commit page_size bytes) (range_with_len 0 n) ++ cond b (n ∷ []) []) (sym other) ∙ sym (filter_more (is_commit page_size bytes) n);
  reached = so_far.reached;
  valid = so_far.valid;
  within = let was = so_far.within in omega arith;
  fewer = let was = so_far.fewer in omega arith;
  below = λ k inside. let was = so_far.below k inside in omega arith;
  carried = carried;
}

-- the same, of equal commits
pub walked_same : (page_size : ℕ) (bytes : List ℕ) (slots : List Slot) (commits same_commits : List ℕ) (committed same_committed : ℕ) (run : Option Sums) (n : ℕ)
    → same_commits ≡ commits → same_committed ≡ committed → Walked page_size bytes slots commits committed run n → Walked page_size bytes slots same_commits same_committed run n
walked_same page_size bytes slots commits same_commits committed same_committed run n one two so_far = rw (one, two) so_far

-- the slots at or below the last commit are Committed, the others as they were walked over
marked_range : (page_size : ℕ) (bytes : List ℕ) (from n count : ℕ)
    → ((k : ℕ) → from ≤ k → k < from + count → as_committed (slot_past page_size bytes k) ≡ slot_of page_size bytes k)
    → ((k : ℕ) → from + count ≤ k → slot_past page_size bytes k ≡ slot_of page_size bytes k)
    → map as_committed (take count (map (slot_past page_size bytes) (range_with_len from n))) ++ drop count (map (slot_past page_size bytes) (range_with_len from n))
    ≡ map (slot_of page_size bytes) (range_with_len from n)
marked_range page_size bytes from zero zero front back = refl
marked_range page_size bytes from zero (suc count) front back = refl
marked_range page_size bytes from (suc n) zero front back =
    ap (λ (slot : Slot). slot ∷ map (slot_past page_size bytes) (range_with_len (from + 1) n)) (back from (omega arith))
    ∙ ap (λ (rest : List Slot). slot_of page_size bytes from ∷ rest)
    (marked_range page_size bytes (from + 1) n zero (λ k low high. absurd (omega arith)) (λ k high. back k (omega arith)))
marked_range page_size bytes from (suc n) (suc count) front back =
    ap (λ (slot : Slot). slot ∷ (map as_committed (take count (map (slot_past page_size bytes) (range_with_len (from + 1) n))) ++ drop count (map (slot_past page_size bytes) (range_with_len (from + 1) n))))
    (front from (omega arith) (omega arith))
    ∙ ap (λ (rest : List Slot). slot_of page_size bytes from ∷ rest)
    (marked_range page_size bytes (from + 1) n count (λ k low high. front k (omega arith) (omega arith)) (λ k high. back k (omega arith)))

-- a slot at or below the last commit
slot_within : (page_size : ℕ) (bytes : List ℕ) (k : ℕ) → is_valid page_size bytes k ≡ true → is_within (commits_of page_size bytes) k ≡ true
    → as_committed (slot_past page_size bytes k) ≡ slot_of page_size bytes k
unfolding slot_past slot_of class_of
slot_within page_size bytes k valid within =
    rw (valid, within) refl

-- a slot past the last commit
slot_behind : (page_size : ℕ) (bytes : List ℕ) (k : ℕ) → is_within (commits_of page_size bytes) k ≡ false → slot_past page_size bytes k ≡ slot_of page_size bytes k
unfolding slot_past slot_of class_of
slot_behind page_size bytes k behind = rw (behind, and-false (is_valid page_size bytes k)) refl

-- all slots were walked over: with the marks they are the log's
pub walked_all : (page_size : ℕ) (bytes : List ℕ) (state : WalState) (slots marked : List Slot) (commits : List ℕ) (committed : ℕ) (run : Option Sums) (count : ℕ)
    → state ≡ state_of bytes page_size → has_slots state ≡ true → count ≡ whole_frames page_size bytes → Walked page_size bytes slots commits committed run count
    → marked ≡ map as_committed (take committed slots) ++ drop committed slots → wal state marked commits ≡ log_of page_size bytes
unfolding log_of slot_count commits_of
walked_all page_size bytes state slots marked commits committed run count is_state some is_count so_far marks =
    let total : slot_count page_size bytes ≡ count =
    ap (λ (b : Bool). cond b (whole_frames page_size bytes) 0) (ap has_slots (sym is_state) ∙ some) ∙ sym is_count in
    let found : commits ≡ commits_of page_size bytes =
    so_far.found ∙ ap (λ (n : ℕ). filter (is_commit page_size bytes) (range_with_len 0 n)) (sym total) in
    let reached = λ (k : ℕ). ap (λ (xs : List ℕ). is_within xs k) (sym found) ∙ so_far.reached k in
    let listed : marked ≡ map (slot_of page_size bytes) (range_with_len 0 (slot_count page_size bytes)) =
    marks
    ∙ ap (λ (xs : List Slot). map as_committed (take committed xs) ++ drop committed xs) so_far.listed
    ∙ marked_range page_size bytes 0 count committed
    (λ k low high. slot_within page_size bytes k (so_far.valid k (omega arith)) (reached k ∙ lt-ltb k committed (omega arith)))
    (λ k high. slot_behind page_size bytes k (reached k ∙ le-ltb k committed (omega arith)))
    ∙ ap (λ (n : ℕ). map (slot_of page_size bytes) (range_with_len 0 n)) (sym total) in
    ap (λ (s : WalState). wal s marked commits) is_state
    ∙ ap (λ (xs : List Slot). wal (state_of bytes page_size) xs commits) listed
    ∙ ap (λ (xs : List ℕ). wal (state_of bytes page_size) (map (slot_of page_size bytes) (range_with_len 0 (slot_count page_size bytes))) xs) found

-- the same, of a log that holds these bytes
pub walked_end : (page_size log_size : ℕ) (bytes log_bytes : List ℕ) (state : WalState) (slots marked : List Slot) (commits : List ℕ) (committed : ℕ) (run : Option Sums) (count : ℕ)
    → log_size ≡ page_size → log_bytes ≡ bytes → state ≡ state_of bytes page_size → has_slots state ≡ true → count ≡ whole_frames log_size log_bytes
    → Walked log_size log_bytes slots commits committed run count → marked ≡ map as_committed (take committed slots) ++ drop committed slots
    → wal state marked commits ≡ log_of page_size bytes
walked_end page_size log_size bytes log_bytes state slots marked commits committed run count is_size is_bytes is_state some is_count so_far marks =
    let same : state ≡ state_of log_bytes log_size =
    is_state ∙ sym (ap (λ (b : List ℕ). state_of b page_size) is_bytes) ∙ sym (ap (λ (n : ℕ). state_of log_bytes n) is_size) in
    walked_all log_size log_bytes state slots marked commits committed run count same some is_count so_far marks
    ∙ ap (λ (n : ℕ). log_of n log_bytes) is_size
    ∙ ap (λ (b : List ℕ). log_of page_size b) is_bytes

-- a list that was written over whole
pub written_back : (n : ℕ) (new old : List Slot) → length new ≡ n → length old ≡ n → take n (new ++ drop (length new) old) ≡ new
written_back n new old is_new is_old =
    let none : drop (length new) old ≡ [] = drop_all (length new) old (omega arith) in
    ap (λ (xs : List Slot). take n (new ++ xs)) none ∙ ap (λ (xs : List Slot). take n xs) (append-nil new) ∙ take_all n new (omega arith)

-- a log without slots
pub bare_all : (page_size : ℕ) (bytes : List ℕ) (state : WalState) → state ≡ state_of bytes page_size → has_slots state ≡ false → bare state ≡ log_of page_size bytes
unfolding log_of slot_count commits_of
bare_all page_size bytes state is_state none =
    let total : slot_count page_size bytes ≡ 0 = ap (λ (b : Bool). cond b (whole_frames page_size bytes) 0) (ap has_slots (sym is_state) ∙ none) in
    ap bare is_state
    ∙ ap (λ (n : ℕ). wal (state_of bytes page_size) (map (slot_of page_size bytes) (range_with_len 0 n)) (filter (is_commit page_size bytes) (range_with_len 0 n))) (sym total)

-- what is kept of a log is an index
pub walked_index : (page_size : ℕ) (bytes : List ℕ) (state : WalState) (slots marked : List Slot) (commits : List ℕ) (committed : ℕ) (run : Option Sums) (count : ℕ)
    → count < 2 ^ 32 → Walked page_size bytes slots commits committed run count → length marked ≡ length slots → IsIndex (wal state marked commits)
walked_index page_size bytes state slots marked commits committed run count few so_far same =
    let len : length slots ≡ count = ap (λ (xs : List Slot). length xs) so_far.listed ∙ length-map-range_with_len (slot_past page_size bytes) 0 count in
    record {
      few = omega arith;
      fewer = let was = so_far.fewer in omega arith;
      within = λ k inside. let was = so_far.below k inside in omega arith;
    }
