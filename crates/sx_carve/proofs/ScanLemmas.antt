-- An image searched run by run.
use Rattle.std.proofs.Common.{◌≡◌, ℕ, ◌+◌, ◌-◌, ◌<◌, ◌≤◌, Bool, true, false, not, ◌||◌, nat_le, List, [], ◌∷◌, ◌++◌, length, take, drop, refl, sym, ap, ◌∙◌, subst, arith, length-drop, length-take}
use Rattle.std.proofs.lemmas.Bool.Decides.{nat_tests}
use Rattle.std.proofs.lemmas.List.{drop-drop, drop-take}
use Rattle.std.proofs.lemmas.List.Elements.{All-head, All-tail}
use Rattle.sx_base.specs.declared.evidence.Span.{Span}
use Rattle.sx_owned.specs.Owned.{Owned, owned_at}
use Rattle.sx_owned.specs.Spans.{IsMaximal, AreMaximal, Rise, in_span, in_spans}
use Rattle.sx_grammar.specs.declared.shape.ShapeKey.{ShapeKey}
use Rattle.sx_carve.specs.Candidates.{told_by, Carved, carved_from}
use Rattle.sx_carve.specs.Scan.{scanned_from, run_rest, image_rest, AreLeft, is_free, IsScan, IsNextInRun, IsNextInImage}
use Rattle.sx_carve.proofs.FrontLemmas.{owned_passed, run_split}

-- ---- the spans still to come

true_owned : (owned : Bool) → false ≡ not owned → owned ≡ true
true_owned true is = refl
true_owned false is = is

false_owned : (owned : Bool) → not owned ≡ true → owned ≡ false
false_owned true is = sym is
false_owned false is = refl

true_free : (owned : Bool) → not owned ≡ false → owned ≡ true
true_free true is = refl
true_free false is = sym is

before_span : (span : Span) (rest : Bool) (k : ℕ) → k < span.start → (in_span k span || rest) ≡ rest
before_span span rest k before = let no_place : nat_le span.start k ≡ false = grind (arith, nat_tests) in rw no_place refl

behind_span : (span : Span) (rest : Bool) (k : ℕ) → span.start + span.len ≤ k → (in_span k span || rest) ≡ rest
behind_span span rest k behind = grind (arith, nat_tests)

below_none : (spans : List Span) (least k : ℕ) → Rise least spans → k < least → in_spans spans k ≡ false
unfolding in_spans
below_none [] least k rise below = refl
below_none (span ∷ spans) least k rise below =
    before_span span (in_spans spans k) k (omega (arith, rise.0))
    ∙ below_none spans (span.start + span.len) k rise.1 (omega (arith, rise.0))

in_first : (span : Span) (spans : List Span) (k : ℕ) → in_spans (span ∷ spans) k ≡ (in_span k span || in_spans spans k)
unfolding in_spans
in_first span spans k = refl

in_none : (k : ℕ) → in_spans [] k ≡ false
unfolding in_spans
in_none k = refl

-- no place before the first span passes
gap_owned : (table : Owned) (image size from : ℕ) (span : Span) (spans : List Span) → AreLeft size (is_free table image) from (span ∷ spans)
    → (k : ℕ) → from ≤ k → k < span.start → owned_at table image k ≡ true
gap_owned table image size from span spans left k past before =
    let one = All-head (IsMaximal size (is_free table image)) span spans left.maximal in
    let told = left.all k past (omega (arith, one.within, one.some)) in
    let none = in_first span spans k ∙ before_span span (in_spans spans k) k before ∙ below_none spans (span.start + span.len) k left.order.1 (omega (arith, one.some)) in
    true_owned (owned_at table image k) (sym none ∙ told)

left_behind : (table : Owned) (image size from : ℕ) (span : Span) (spans : List Span) → AreLeft size (is_free table image) from (span ∷ spans)
    → AreLeft size (is_free table image) (span.start + span.len) spans
left_behind table image size from span spans left = record {
  maximal = All-tail (IsMaximal size (is_free table image)) span spans left.maximal;
  all = λ k past within.
      sym (behind_span span (in_spans spans k) k past) ∙ sym (in_first span spans k) ∙ left.all k (omega (arith, left.order.0, past)) within;
  order = left.order.1;
}

-- ---- where the search stands

pub scan_begins : (table : Owned) (image size : ℕ) (spans : List Span) → AreMaximal size (is_free table image) spans → size ≤ 65536 → IsScan table image size 0 0 spans
scan_begins table image size spans are small = record {
  small = small;
  rises = omega arith;
  within = omega arith;
  run = λ k past before. absurd (omega arith);
  stop = λ some below. absurd (omega arith);
  left = record { maximal = are.maximal; all = λ k past within. are.all k within; order = are.order };
}

pub scan_on : (table : Owned) (image size at end place : ℕ) (spans : List Span) → IsScan table image size at end spans → at ≤ place → place < end → IsScan table image size (place + 1) end spans
scan_on table image size at end place spans scan past within = record {
  small = scan.small;
  rises = omega arith;
  within = scan.within;
  run = λ k behind before. scan.run k (omega arith) before;
  stop = λ some below. scan.stop (omega arith) below;
  left = scan.left;
}

pub scan_next : (table : Owned) (image size at end : ℕ) (span : Span) (old spans : List Span) → IsScan table image size at end old → old ≡ span ∷ spans
    → IsScan table image size span.start (span.start + span.len) spans
scan_next table image size at end span old spans scan is =
    let left = subst (AreLeft size (is_free table image) end) is scan.left in
    let one = All-head (IsMaximal size (is_free table image)) span spans left.maximal in
    record {
      small = scan.small;
      rises = omega arith;
      within = one.within;
      run = λ k past before. false_owned (owned_at table image k) (one.each k past before);
      stop = λ some below. true_free (owned_at table image (span.start + span.len)) (one.behind below);
      left = left_behind table image size end span spans left;
    }

pub scan_done : (table : Owned) (image size : ℕ) → size ≤ 65536 → IsScan table image size size size []
scan_done table image size small = record {
  small = small;
  rises = omega arith;
  within = omega arith;
  run = λ k past before. absurd (omega arith);
  stop = λ some below. absurd (omega arith);
  left = record { maximal = λ k d below. absurd (omega arith); all = λ k past within. absurd (omega arith); order = tt };
}

-- ---- what is found

long_take : (end : ℕ) (bytes : List ℕ) → end ≤ length bytes → length (take end bytes) ≡ end
long_take end bytes within = simp length-take (omega arith)

in_run : (usable : ℕ) (shapes : List ShapeKey) (table : Owned) (image at end : ℕ) (bytes : List ℕ) (spans : List Span) → IsScan table image (length bytes) at end spans
    → image_rest usable shapes table image bytes at ≡ run_rest usable shapes table image (take end bytes) at ++ image_rest usable shapes table image bytes end
in_run usable shapes table image at end bytes spans scan =
    let n = end - at in
    let back : at + n ≡ end = omega (arith, scan.rises) in
    let long = length-drop at bytes in
    let split = run_split n usable shapes table image at (drop at bytes) (omega (arith, long, scan.within))
    (λ k below. scan.run (at + k) (omega arith) (omega (arith, below, back)))
    (λ some below. subst (λ place. owned_at table image place ≡ true) (sym back) (scan.stop (omega arith) (omega (arith, long, below)))) in
    let front : take n (drop at bytes) ≡ drop at (take end bytes) = sym (drop-take at n bytes) ∙ ap (λ (k : ℕ). drop at (take k bytes)) back in
    let rest : drop n (drop at bytes) ≡ drop end bytes = drop-drop n at bytes ∙ ap (λ (k : ℕ). drop k bytes) back in
    split
    ∙ ap (λ run. scanned_from usable shapes table image at run ++ carved_from usable shapes (told_by table) image (at + n) (drop n (drop at bytes))) front
    ∙ ap (λ tail. run_rest usable shapes table image (take end bytes) at ++ carved_from usable shapes (told_by table) image (at + n) tail) rest
    ∙ ap (λ k. run_rest usable shapes table image (take end bytes) at ++ carved_from usable shapes (told_by table) image k (drop end bytes)) back

-- a candidate of the run is the image's
pub found_in_run : (usable : ℕ) (shapes : List ShapeKey) (table : Owned) (image from at end : ℕ) (bytes run : List ℕ) (spans : List Span) (found : Carved) → run ≡ take end bytes
    → IsScan table image (length bytes) at end spans → image_rest usable shapes table image bytes from ≡ image_rest usable shapes table image bytes at
    → IsNextInRun usable shapes table image run at found → IsNextInImage usable shapes table image bytes from found
found_in_run usable shapes table image from at end bytes run spans found is scan same next =
    let long = ap length is ∙ long_take end bytes scan.within in
    let inside : found.at < end = omega (arith, long, next.inside) in
    let on = scan_on table image (length bytes) at end found.at spans scan next.behind inside in
    record {
      first =
          same
          ∙ in_run usable shapes table image at end bytes spans scan
          ∙ ap (λ front. run_rest usable shapes table image front at ++ image_rest usable shapes table image bytes end) (sym is)
          ∙ ap (λ rest. rest ++ image_rest usable shapes table image bytes end) next.first
          ∙ ap (λ front. found ∷ (run_rest usable shapes table image front (found.at + 1) ++ image_rest usable shapes table image bytes end)) is
          ∙ ap (λ rest. found ∷ rest) (sym (in_run usable shapes table image (found.at + 1) end bytes spans on));
      inside = omega (arith, inside, scan.within);
    }

-- and where it stands behind that
pub scan_behind : (usable : ℕ) (shapes : List ShapeKey) (table : Owned) (image at end : ℕ) (bytes run : List ℕ) (spans : List Span) (found : Carved) → run ≡ take end bytes
    → IsScan table image (length bytes) at end spans → IsNextInRun usable shapes table image run at found → IsScan table image (length bytes) (found.at + 1) end spans
scan_behind usable shapes table image at end bytes run spans found is scan next =
    let long = ap length is ∙ long_take end bytes scan.within in
    scan_on table image (length bytes) at end found.at spans scan next.behind (omega (arith, long, next.inside))

-- nothing in the run
run_passed : (usable : ℕ) (shapes : List ShapeKey) (table : Owned) (image at end : ℕ) (bytes run : List ℕ) (spans : List Span) → run ≡ take end bytes → IsScan table image (length bytes) at end spans
    → run_rest usable shapes table image run at ≡ [] → image_rest usable shapes table image bytes at ≡ image_rest usable shapes table image bytes end
run_passed usable shapes table image at end bytes run spans is scan none =
    in_run usable shapes table image at end bytes spans scan
    ∙ ap (λ front. run_rest usable shapes table image front at ++ image_rest usable shapes table image bytes end) (sym is)
    ∙ ap (λ rest. rest ++ image_rest usable shapes table image bytes end) none

owned_between : (usable : ℕ) (shapes : List ShapeKey) (table : Owned) (image from to : ℕ) (bytes : List ℕ) → from ≤ to → to ≤ length bytes
    → ((k : ℕ) → from ≤ k → k < to → owned_at table image k ≡ true) → image_rest usable shapes table image bytes from ≡ image_rest usable shapes table image bytes to
owned_between usable shapes table image from to bytes rises within owned =
    let n = to - from in
    let back : from + n ≡ to = omega arith in
    let long = length-drop from bytes in
    owned_passed n usable shapes table image from (drop from bytes) (omega (arith, long)) (λ k below. owned (from + k) (omega arith) (omega arith))
    ∙ ap (carved_from usable shapes (told_by table) image (from + n)) (drop-drop n from bytes)
    ∙ ap (image_rest usable shapes table image bytes) back

-- nothing in the run, and the next one
pub next_run : (usable : ℕ) (shapes : List ShapeKey) (table : Owned) (image at end : ℕ) (bytes run : List ℕ) (span : Span) (old spans : List Span) → run ≡ take end bytes
    → IsScan table image (length bytes) at end old → old ≡ span ∷ spans → run_rest usable shapes table image run at ≡ []
    → image_rest usable shapes table image bytes at ≡ image_rest usable shapes table image bytes span.start
next_run usable shapes table image at end bytes run span old spans front scan is none =
    let left = subst (AreLeft (length bytes) (is_free table image) end) is scan.left in
    let one = All-head (IsMaximal (length bytes) (is_free table image)) span spans left.maximal in
    run_passed usable shapes table image at end bytes run old front scan none
    ∙ owned_between usable shapes table image end span.start bytes left.order.0 (omega (arith, one.within)) (gap_owned table image (length bytes) end span spans left)

pub image_end : (usable : ℕ) (shapes : List ShapeKey) (table : Owned) (image at : ℕ) (bytes : List ℕ) → length bytes ≡ 0 → carved_from usable shapes (told_by table) image at bytes ≡ []
unfolding carved_from
image_end usable shapes table image at [] none = refl
image_end usable shapes table image at (byte ∷ bytes) none = absurd (omega arith)

pub nothing_behind : (usable : ℕ) (shapes : List ShapeKey) (table : Owned) (image : ℕ) (bytes : List ℕ) → image_rest usable shapes table image bytes (length bytes) ≡ []
nothing_behind usable shapes table image bytes = image_end usable shapes table image (length bytes) (drop (length bytes) bytes) (omega (arith, length-drop (length bytes) bytes))

-- nothing in the run, and no other
pub no_run : (usable : ℕ) (shapes : List ShapeKey) (table : Owned) (image at end : ℕ) (bytes run : List ℕ) (old : List Span) → run ≡ take end bytes → IsScan table image (length bytes) at end old → old ≡ []
    → run_rest usable shapes table image run at ≡ [] → image_rest usable shapes table image bytes at ≡ []
no_run usable shapes table image at end bytes run old front scan is none =
    let left = subst (AreLeft (length bytes) (is_free table image) end) is scan.left in
    run_passed usable shapes table image at end bytes run old front scan none
    ∙ owned_between usable shapes table image end (length bytes) bytes scan.within (omega arith) (λ k past within. true_owned (owned_at table image k) (sym (in_none k) ∙ left.all k past within))
    ∙ nothing_behind usable shapes table image bytes
