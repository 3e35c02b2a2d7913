-- A run that holds a byte is looked for by halves.
use Rattle.std.proofs.Common.{◌≡◌, ℕ, ◌+◌, ◌<◌, ◌≤◌, List, [], ◌∷◌, length, get_or, Some, slice_get, sym, ap, subst, ◌∙◌, arith}
use Rattle.std.proofs.lemmas.Option.{slice_get-get_or}
use Rattle.sx_base.specs.declared.evidence.Span.{Span}
use Rattle.sx_base.specs.declared.label.Label.{Label}
use Rattle.sx_prov.specs.Kept.{labels_in, Follow}
use Rattle.sx_prov.proofs.Kept.{none_in, label_held}

-- the run is from one index on and before another
pub record IsNear (runs : List (Span × Label)) (byte low high : ℕ) : Type 0 where
  pub some : low < high
  pub within : high ≤ length runs
  pub begins : (d : Span × Label) → (get_or runs low d).0.start ≤ byte
  pub ends : (d : Span × Label) → high < length runs → byte < (get_or runs high d).0.start

start_near : (runs : List (Span × Label)) (byte high : ℕ) → Follow 0 runs → byte < length (labels_in runs) → high ≡ length runs → IsNear runs byte 0 high
start_near [] byte high follow held is = absurd (let none = ap length none_in in omega arith)
start_near (run ∷ runs) byte high follow held is = record {
  some = omega arith;
  within = omega arith;
  begins = λ d. let start = follow.0 in omega arith;
  ends = λ d inside. absurd (omega arith);
}

pub near_start : (labels : List Label) (runs : List (Span × Label)) (byte high : ℕ) → labels_in runs ≡ labels → Follow 0 runs → byte < length labels → high ≡ length runs → IsNear runs byte 0 high
near_start labels runs byte high is follow held long = start_near runs byte high follow (subst (λ (l : List Label). byte < length l) (sym is) held) long

pub near_found : (labels : List Label) (runs : List (Span × Label)) (byte low high : ℕ) (run : Span × Label) → labels_in runs ≡ labels → Follow 0 runs → byte < length labels
    → IsNear runs byte low high → high ≤ low + 1 → run ≡ get_or runs low run → slice_get labels byte ≡ Some run.1
near_found labels runs byte low high run is follow held near close there =
    let some = near.some in
    let inside = near.within in
    let begins = near.begins run in
    let held_in : byte < length (labels_in runs) = subst (λ (l : List Label). byte < length l) (sym is) held in
    let label : get_or (labels_in runs) byte run.1 ≡ (get_or runs low run).1 =
    label_held 0 runs low byte run run.1 follow (omega arith) (omega arith)
    (λ j next within. let same : j ≡ high = omega arith in let far = near.ends run (omega arith) in
    let here : byte < (get_or runs j run).0.start = subst (λ k. byte < (get_or runs k run).0.start) (sym same) far in omega arith) held_in in
    ap (λ (l : List Label). slice_get l byte) (sym is) ∙ slice_get-get_or (labels_in runs) byte run.1 held_in ∙ ap Some (label ∙ ap (λ r. r.1) (sym there))
