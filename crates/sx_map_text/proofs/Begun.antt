-- A page that has bytes has a line.
use Rattle.std.proofs.Common.{◌≡◌, ℕ, ◌+◌, ◌<◌, Bool, true, false, cond, List, [], ◌∷◌, length, map, arith}
use Rattle.sx_base.specs.declared.evidence.Span.{Span}
use Rattle.sx_base.specs.declared.label.Label.{Label}
use Rattle.sx_prov.specs.Runs.{is_same, joined, run_of, runs_from}
use Rattle.sx_map_text.specs.Map.{run_line, page_lines}

joined_case : (one two : Span × Label) (runs rest : List (Span × Label)) (page : ℕ) (b : Bool) → map (run_line page) (cond b (one ∷ runs) (two ∷ rest)) ≡ [] → ⊥
joined_case one two runs rest page true none = absurd cc
joined_case one two runs rest page false none = absurd cc

joined_some : (at page : ℕ) (label : Label) (runs : List (Span × Label)) → map (run_line page) (joined at label runs) ≡ [] → ⊥
joined_some at page label [] none = absurd cc
joined_some at page label (run ∷ runs) none =
    joined_case (run_of at (run.0.len + 1) label) (run_of at 1 label) runs (run ∷ runs) page (is_same label run.1) none

pub some_line : (page : ℕ) (labels : List Label) → 0 < length labels → page_lines page labels ≡ [] → ⊥
unfolding runs_from
some_line page [] long none = absurd (omega arith)
some_line page (label ∷ labels) long none = joined_some 0 page label (runs_from 1 labels) none
