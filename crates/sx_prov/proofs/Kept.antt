-- Runs that are kept: one more behind them, a longer last one, the label of a byte, how many bytes pass a test.
use Rattle.std.proofs.Common.{◌≡◌, ◌≢◌, ℕ, zero, suc, ◌+◌, ◌-◌, ◌<◌, ◌≤◌, Bool, true, false, List, [], ◌∷◌, ◌++◌, length, get_or, set, replicate, refl, sym, ap, subst, ◌∙◌, arith, append_assoc, length-append, IsTrue}
use Rattle.std.proofs.lemmas.Bool.{false≢true}
use Rattle.std.proofs.lemmas.List.{append-nil, length-replicate, replicate-append-replicate, get_or-replicate, get_or_append_left, get_or-append_right}
use Rattle.sx_base.specs.declared.evidence.Span.{Span}
use Rattle.sx_base.specs.declared.label.Label.{Label}
use Rattle.sx_prov.specs.Runs.{run_of}
use Rattle.sx_prov.specs.Kept.{labels_in, NextOther, Follow, IsKept}

pub length_in : (run : Span × Label) (runs : List (Span × Label)) → length (labels_in (run ∷ runs)) ≡ run.0.len + length (labels_in runs)
unfolding labels_in
length_in run runs = length-append (replicate run.0.len run.1) (labels_in runs) ∙ ap (λ len. len + length (labels_in runs)) (length-replicate run.0.len run.1)

-- ---- one run more

-- the last of the runs has another label
abbrev pub LastOther : Label → List (Span × Label) → Type 0
LastOther label runs = (i : ℕ) (d : Span × Label) → i + 1 ≡ length runs → (get_or runs i d).1 ≢ label

last_rest : (label : Label) (run : Span × Label) (runs : List (Span × Label)) → LastOther label (run ∷ runs) → LastOther label runs
last_rest label run runs last i d is = last (suc i) d (omega arith)

next_last : (run : Span × Label) (runs : List (Span × Label)) (start len : ℕ) (label : Label) → LastOther label (run ∷ runs) → NextOther run.1 runs
    → NextOther run.1 (runs ++ run_of start len label ∷ [])
next_last run [] start len label last next = last 0 run refl
next_last run (other ∷ runs) start len label last next = next

pub follow_push : (at : ℕ) (runs : List (Span × Label)) (start len : ℕ) (label : Label) → Follow at runs → start ≡ at + length (labels_in runs) → 0 < len
    → LastOther label runs → Follow at (runs ++ run_of start len label ∷ [])
unfolding labels_in
follow_push at [] start len label follow is some last = (omega arith, some, tt, tt)
follow_push at (run ∷ runs) start len label follow is some last =
    let long = length_in run runs in
    let behind : start ≡ at + run.0.len + length (labels_in runs) = omega arith in (
      follow.0,
      follow.1,
      next_last run runs start len label last follow.2,
      follow_push (at + run.0.len) runs start len label follow.3 behind some (last_rest label run runs last),
    )

pub labels_push : (runs : List (Span × Label)) (run : Span × Label) → labels_in (runs ++ run ∷ []) ≡ labels_in runs ++ replicate run.0.len run.1
unfolding labels_in
labels_push [] run = append-nil (replicate run.0.len run.1)
labels_push (first ∷ runs) run =
    ap (λ labels. replicate first.0.len first.1 ++ labels) (labels_push runs run) ∙ sym (append_assoc (replicate first.0.len first.1) (labels_in runs) (replicate run.0.len run.1))

-- ---- a longer last run

next_longer : (label : Label) (runs : List (Span × Label)) (i : ℕ) (last longer : Span × Label) → i < length runs → last ≡ get_or runs i last → longer.1 ≡ last.1
    → NextOther label runs → NextOther label (set runs i longer)
next_longer label [] i last longer within is same next = absurd (omega arith)
next_longer label (run ∷ runs) zero last longer within is same next = λ equal. next (equal ∙ same ∙ ap (λ r. r.1) is)
next_longer label (run ∷ runs) (suc i) last longer within is same next = next

pub follow_longer : (at : ℕ) (runs : List (Span × Label)) (i : ℕ) (last longer : Span × Label) → i + 1 ≡ length runs → last ≡ get_or runs i last → longer.1 ≡ last.1
    → longer.0.start ≡ last.0.start → last.0.len ≤ longer.0.len → Follow at runs → Follow at (set runs i longer)
follow_longer at [] i last longer is there same start more follow = absurd (omega arith)
follow_longer at (run ∷ []) zero last longer is there same start more follow =
    let begins = ap (λ r. r.0.start) there in
    let long = ap (λ r. r.0.len) there in
    (start ∙ begins ∙ follow.0, let some = follow.1 in omega arith, tt, tt)
follow_longer at (run ∷ other ∷ runs) zero last longer is there same start more follow = absurd (omega arith)
follow_longer at (run ∷ runs) (suc i) last longer is there same start more follow = (
  follow.0,
  follow.1,
  next_longer run.1 runs i last longer (omega arith) there same follow.2,
  follow_longer (at + run.0.len) runs i last longer (omega arith) there same start more follow.3,
)

pub labels_longer : (runs : List (Span × Label)) (i len : ℕ) (last longer : Span × Label) → i + 1 ≡ length runs → last ≡ get_or runs i last → longer.1 ≡ last.1
    → longer.0.len ≡ last.0.len + len → labels_in (set runs i longer) ≡ labels_in runs ++ replicate len last.1
unfolding labels_in
labels_longer [] i len last longer is there same long = absurd (omega arith)
labels_longer (run ∷ []) zero len last longer is there same long =
    append-nil (replicate longer.0.len longer.1)
    ∙ ap (λ count. replicate count longer.1) long ∙ ap (replicate (last.0.len + len)) same
    ∙ sym (replicate-append-replicate last.0.len len last.1)
    ∙ ap (λ labels. labels ++ replicate len last.1) (ap (λ r. replicate r.0.len r.1) there ∙ sym (append-nil (replicate run.0.len run.1)))
labels_longer (run ∷ other ∷ runs) zero len last longer is there same long = absurd (omega arith)
labels_longer (run ∷ runs) (suc i) len last longer is there same long =
    ap (λ labels. replicate run.0.len run.1 ++ labels) (labels_longer runs i len last longer (omega arith) there same long)
    ∙ sym (append_assoc (replicate run.0.len run.1) (labels_in runs) (replicate len last.1))

-- ---- the label of a byte

abbrev pub start_at : List (Span × Label) → ℕ → (Span × Label) → ℕ
start_at runs i d = (get_or runs i d).0.start

-- where a run begins, and that the next one begins behind it
pub label_held : (at : ℕ) (runs : List (Span × Label)) (i byte : ℕ) (d : Span × Label) (e : Label) → Follow at runs → i < length runs
    → (get_or runs i d).0.start ≤ at + byte → ((j : ℕ) → j ≡ i + 1 → j < length runs → at + byte < (get_or runs j d).0.start)
    → byte < length (labels_in runs) → get_or (labels_in runs) byte e ≡ (get_or runs i d).1
unfolding labels_in
label_held at [] i byte d e follow within begins ends held = absurd (omega arith)
label_held at (run ∷ runs) zero byte d e follow within begins ends held =
    let inside : byte < run.0.len = first_holds runs follow.3 (λ some. ends 1 refl (omega arith)) held in
    get_or_append_left (replicate run.0.len run.1) (labels_in runs) e byte (let long = length-replicate run.0.len run.1 in omega arith)
    ∙ get_or-replicate run.0.len byte run.1 e inside
  where
    first_holds : (runs : List (Span × Label)) → Follow (at + run.0.len) runs → (0 < length runs → at + byte < (get_or runs 0 d).0.start) → byte < length (labels_in (run ∷ runs)) → byte < run.0.len
    first_holds [] follow next held = let long = length_in run [] in omega arith
    first_holds (other ∷ runs) follow next held = let start = follow.0 in let before = next (omega arith) in omega arith
label_held at (run ∷ runs) (suc i) byte d e follow within begins ends held =
    let past : run.0.len ≤ byte = let far = starts_behind (at + run.0.len) runs i d follow.3 (omega arith) in omega arith in
    let long = length_in run runs in
    let len = length-replicate run.0.len run.1 in
    get_or-append_right (replicate run.0.len run.1) (labels_in runs) run.0.len byte e len past
    ∙ label_held (at + run.0.len) runs i (byte - run.0.len) d e follow.3 (omega arith) (omega arith)
    (λ j is inside. let before = ends (suc j) (omega arith) (omega arith) in omega arith) (omega arith)
  where
    starts_behind : (at : ℕ) (runs : List (Span × Label)) (i : ℕ) (d : Span × Label) → Follow at runs → i < length runs → at ≤ (get_or runs i d).0.start
    starts_behind at [] i d follow within = absurd (omega arith)
    starts_behind at (run ∷ runs) zero d follow within = let is = follow.0 in omega arith
    starts_behind at (run ∷ runs) (suc i) d follow within = let far = starts_behind (at + run.0.len) runs i d follow.3 (omega arith) in omega arith

-- ---- the length of a page

pub kept_none : IsKept [] 0
unfolding labels_in
kept_none = record { follow = tt; long = refl; page = omega arith }

pub none_in : labels_in [] ≡ []
unfolding labels_in
none_in = refl

pub put_none : (labels : List Label) (end : ℕ) (label : Label) → end ≤ length labels → labels ≡ labels ++ replicate (end - length labels) label
put_none labels end label within =
    let none : end - length labels ≡ 0 = omega arith in
    sym (append-nil labels) ∙ ap (λ count. labels ++ replicate count label) (sym none)

pub put_long : (old new : List (Span × Label)) (len end : ℕ) (label : Label) → IsKept old len → len < end → Follow 0 new → labels_in new ≡ labels_in old ++ replicate (end - len) label → end ≤ 65536
    → IsKept new end
put_long old new len end label kept more follow is page = record {
  follow = follow;
  long = let long = kept.long in
      let whole : length (labels_in new) ≡ length (labels_in old) + (end - len) =
      ap length is ∙ length-append (labels_in old) (replicate (end - len) label) ∙ ap (λ count. length (labels_in old) + count) (length-replicate (end - len) label) in
      omega arith;
  page = page;
}

-- the last run ends where the labels end
pub last_ends : (at : ℕ) (runs : List (Span × Label)) (i : ℕ) (d : Span × Label) → Follow at runs → i < length runs → (get_or runs i d).0.start + (get_or runs i d).0.len ≤ at + length (labels_in runs)
last_ends at [] i d follow within = absurd (omega arith)
last_ends at (run ∷ runs) zero d follow within = let start = follow.0 in let long = length_in run runs in omega arith
last_ends at (run ∷ runs) (suc i) d follow within =
    let long = length_in run runs in
    let ends = last_ends (at + run.0.len) runs i d follow.3 (omega arith) in
    omega arith

-- ---- one run more, as the code puts it

pub push_follow : (runs seen new : List (Span × Label)) (start len : ℕ) (label : Label) (ends : Bool) → Follow 0 runs → start ≡ length (labels_in runs) → 0 < len
    → seen ≡ runs → ends ≡ false → ((index : ℕ) (last : Span × Label) → index + 1 ≡ length seen → (get_or seen index last).1 ≡ label → IsTrue ends)
    → new ≡ runs ++ run_of start len label ∷ [] → Follow 0 new
push_follow runs seen new start len label ends follow is some same unlike found new_is =
    subst (Follow 0) (sym new_is) (follow_push 0 runs start len label follow (omega arith) some
    (λ i d last equal. not_true (found i d (last ∙ ap length (sym same)) (ap (λ (l : List (Span × Label)). (get_or l i d).1) same ∙ equal))))
  where
    not_true : IsTrue ends → ⊥
    not_true told = false≢true (sym unlike ∙ told)

pub push_labels : (runs new : List (Span × Label)) (start len : ℕ) (label : Label) → new ≡ runs ++ run_of start len label ∷ []
    → labels_in new ≡ labels_in runs ++ replicate len label
push_labels runs new start len label is = ap labels_in is ∙ labels_push runs (run_of start len label)

-- ---- the last run longer, as the code makes it

yes_true : (ends : Bool) → ends ≡ true → IsTrue ends
yes_true ends is = is

pub record IsLast (runs : List (Span × Label)) (last : ℕ) (label : Label) : Type 0 where
  pub some : last + 1 ≡ length runs
  pub same : (d : Span × Label) → (get_or runs last d).1 ≡ label

pub last_is : (runs seen : List (Span × Label)) (last : ℕ) (label : Label) (ends : Bool) → seen ≡ runs → last ≡ length runs → ends ≡ true
    → (IsTrue ends → 0 < length seen) → (IsTrue ends → (d : Span × Label) → (get_or seen (length seen - 1) d).1 ≡ label) → IsLast runs (last - 1) label
last_is runs seen last label ends same is told some all =
    let long : length seen ≡ length runs = ap length same in
    let there = some (yes_true ends told) in
    let place : length seen - 1 ≡ last - 1 = omega arith in
    record {
      some = omega arith;
      same = λ d. ap (λ (l : List (Span × Label)). (get_or l (last - 1) d).1) (sym same) ∙ ap (λ i. (get_or seen i d).1) (sym place) ∙ all (yes_true ends told) d;
    }

pub longer_follow : (runs : List (Span × Label)) (i len : ℕ) (first longer : Span) (label : Label) (run : Span × Label) → IsLast runs i label → run ≡ get_or runs i run → first ≡ run.0
    → longer ≡ record { start = first.start; len = first.len + len } → Follow 0 runs → Follow 0 (set runs i (longer, label))
longer_follow runs i len first longer label run last there begins is follow =
    let same : label ≡ run.1 = sym (last.same run) ∙ ap (λ r. r.1) (sym there) in
    let start : longer.start ≡ run.0.start = ap (λ s. s.start) is ∙ ap (λ s. s.start) begins in
    let long : longer.len ≡ run.0.len + len = ap (λ s. s.len) is ∙ ap (λ s. s.len + len) begins in
    follow_longer 0 runs i run (longer, label) last.some there same start (omega arith) follow

pub longer_labels : (runs : List (Span × Label)) (i len : ℕ) (first longer : Span) (label : Label) (run : Span × Label) → IsLast runs i label → run ≡ get_or runs i run → first ≡ run.0
    → longer ≡ record { start = first.start; len = first.len + len } → labels_in (set runs i (longer, label)) ≡ labels_in runs ++ replicate len label
longer_labels runs i len first longer label run last there begins is =
    let same : label ≡ run.1 = sym (last.same run) ∙ ap (λ r. r.1) (sym there) in
    let long : longer.len ≡ run.0.len + len = ap (λ s. s.len) is ∙ ap (λ s. s.len + len) begins in
    labels_longer runs i len run (longer, label) last.some there same long ∙ ap (λ l. labels_in runs ++ replicate len l) (sym same)

pub longer_fits : (runs : List (Span × Label)) (i start len : ℕ) (run : Span × Label) (label : Label) → IsLast runs i label → run ≡ get_or runs i run → Follow 0 runs → start ≡ length (labels_in runs)
    → start + len ≤ 65536 → run.0.len + len ≤ 65536
longer_fits runs i start len run label last there follow is fits =
    let some = last.some in
    let ends = last_ends 0 runs i run follow (omega arith) in
    let long : run.0.len ≡ (get_or runs i run).0.len = ap (λ r. r.0.len) there in
    omega arith
