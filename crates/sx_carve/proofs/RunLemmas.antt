-- A run searched place by place.
use Rattle.std.proofs.Common.{◌≡◌, ℕ, zero, suc, ◌+◌, ◌-◌, ◌<◌, ◌≤◌, List, [], ◌∷◌, ◌++◌, length, drop, Some, None, refl, ap, ◌∙◌, arith, length-drop}
use Rattle.std.proofs.lemmas.List.{drop-drop}
use Rattle.sx_owned.specs.Owned.{Owned, block_at}
use Rattle.sx_grammar.specs.declared.shape.ShapeKey.{ShapeKey}
use Rattle.sx_grammar.specs.Sightings.{Sighting}
use Rattle.sx_grammar.specs.Clips.{Setting}
use Rattle.sx_grammar.specs.Choice.{setting_of, accepted_at}
use Rattle.sx_carve.specs.Candidates.{carved}
use Rattle.sx_carve.specs.Scan.{scanned_from, run_rest}

step : (usable : ℕ) (shapes : List ShapeKey) (table : Owned) (image at : ℕ) (bytes : List ℕ) → 0 < length bytes
    → scanned_from usable shapes table image at bytes
    ≡ carved image at (accepted_at usable shapes (setting_of at (block_at table image at) usable) bytes) ++ scanned_from usable shapes table image (at + 1) (drop 1 bytes)
unfolding scanned_from
step usable shapes table image at [] some = absurd (omega arith)
step usable shapes table image at (byte ∷ bytes) some = refl

behind : (run : List ℕ) (at : ℕ) → drop 1 (drop at run) ≡ drop (at + 1) run
behind run at = drop-drop 1 at run

-- a place at which nothing is accepted
pub none_here : (usable : ℕ) (shapes : List ShapeKey) (table : Owned) (image at : ℕ) (run : List ℕ)
    → accepted_at usable shapes (setting_of at (block_at table image at) usable) (drop at run) ≡ None → at < length run
    → scanned_from usable shapes table image at (drop at run) ≡ scanned_from usable shapes table image (at + 1) (drop (at + 1) run)
none_here usable shapes table image at run none within =
    step usable shapes table image at (drop at run) (omega (arith, length-drop at run))
    ∙ ap (λ found. carved image at found ++ scanned_from usable shapes table image (at + 1) (drop 1 (drop at run))) none
    ∙ ap (scanned_from usable shapes table image (at + 1)) (behind run at)

-- a place with a candidate
pub one_here : (usable : ℕ) (shapes : List ShapeKey) (table : Owned) (image at : ℕ) (run : List ℕ) (sighting : Sighting)
    → accepted_at usable shapes (setting_of at (block_at table image at) usable) (drop at run) ≡ Some sighting → at < length run
    → scanned_from usable shapes table image at (drop at run) ≡ record { image = image; at = at; sighting = sighting } ∷ scanned_from usable shapes table image (at + 1) (drop (at + 1) run)
one_here usable shapes table image at run sighting is within =
    step usable shapes table image at (drop at run) (omega (arith, length-drop at run))
    ∙ ap (λ found. carved image at found ++ scanned_from usable shapes table image (at + 1) (drop 1 (drop at run))) is
    ∙ ap (λ tail. record { image = image; at = at; sighting = sighting } ∷ scanned_from usable shapes table image (at + 1) tail) (behind run at)

nothing_left : (usable : ℕ) (shapes : List ShapeKey) (table : Owned) (image at : ℕ) (bytes : List ℕ) → length bytes ≡ 0 → scanned_from usable shapes table image at bytes ≡ []
unfolding scanned_from
nothing_left usable shapes table image at [] none = refl
nothing_left usable shapes table image at (byte ∷ bytes) none = absurd (omega arith)

-- the end of the run
pub run_end : (usable : ℕ) (shapes : List ShapeKey) (table : Owned) (image at : ℕ) (run : List ℕ) → length run ≤ at → scanned_from usable shapes table image at (drop at run) ≡ []
run_end usable shapes table image at run past = nothing_left usable shapes table image at (drop at run) (omega (arith, length-drop at run))

passed : (n usable : ℕ) (shapes : List ShapeKey) (table : Owned) (image at : ℕ) (run : List ℕ) → at + n ≤ length run
    → ((setting : Setting) (place : ℕ) → at ≤ place → place < at + n → accepted_at usable shapes setting (drop place run) ≡ None)
    → scanned_from usable shapes table image at (drop at run) ≡ scanned_from usable shapes table image (at + n) (drop (at + n) run)
passed zero usable shapes table image at run within none =
    let same : at ≡ at + 0 = omega arith in
    ap (run_rest usable shapes table image run) same
passed (suc n) usable shapes table image at run within none =
    let count : at + 1 + n ≡ at + suc n = omega arith in
    none_here usable shapes table image at run (none (setting_of at (block_at table image at) usable) at (omega arith) (omega arith)) (omega arith)
    ∙ passed n usable shapes table image (at + 1) run (omega arith) (λ setting place past below. none setting place (omega arith) (omega arith))
    ∙ ap (run_rest usable shapes table image run) count

-- places at which nothing is accepted
pub places_passed : (usable : ℕ) (shapes : List ShapeKey) (table : Owned) (image at end : ℕ) (run : List ℕ) → at ≤ end → end ≤ length run
    → ((setting : Setting) (place : ℕ) → at ≤ place → place < end → accepted_at usable shapes setting (drop place run) ≡ None)
    → scanned_from usable shapes table image at (drop at run) ≡ scanned_from usable shapes table image end (drop end run)
places_passed usable shapes table image at end run rises within none =
    let count : at + (end - at) ≡ end = omega arith in
    passed (end - at) usable shapes table image at run (omega arith) (λ setting place past below. none setting place past (omega arith))
    ∙ ap (run_rest usable shapes table image run) count
