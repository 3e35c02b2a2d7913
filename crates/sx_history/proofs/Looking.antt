-- The views that are kept of pages, taken anew where they may have changed.
use Rattle.std.proofs.Common.{◌≡◌, ℕ, ◌+◌, ◌<◌, List, [], ◌∷◌, length, map, fold, set, take, get_or, Option, None, sym, ap, ◌∙◌, arith, inl, inr, ◌⊎◌, Contains}
use Rattle.std.specs.List.{All}
use Rattle.std.proofs.lemmas.List.{get_or-set_same, get_or-set_other, length-map, length-set, map-set, ext_get_or}
use Rattle.std.proofs.lemmas.Bool.{cases_eq}
use Rattle.std.proofs.lemmas.List.Elements.{All-head, All-tail}
use Rattle.std.proofs.lemmas.List.Sums.{fold_more}
use Rattle.sx_history.proofs.Keeping.{first_or, map_at, none_there}

-- the views, with that of one rank taken anew
abbrev pub looked : (ℕ → Option (List ℕ)) → List ℕ → List (Option (List ℕ)) → ℕ → List (Option (List ℕ))
looked view numbers views rank = set views rank (view (get_or numbers rank 0))

-- a rank that isn't listed has the view that is kept
abbrev pub Stand : (ℕ → Option (List ℕ)) → List ℕ → List ℕ → List (Option (List ℕ)) → Type 0
Stand view numbers changed views = (rank : ℕ) → rank < length numbers → (Contains changed rank → ⊥) → get_or views rank None ≡ view (get_or numbers rank 0)

-- one rank less is listed once its view is taken
stand_case : (view : ℕ → Option (List ℕ)) (numbers changed : List ℕ) (views : List (Option (List ℕ))) (one rank : ℕ) → length views ≡ length numbers → one < length numbers
    → Stand view numbers (one ∷ changed) views → rank < length numbers → (Contains changed rank → ⊥) → (rank ≡ one) ⊎ (rank ≡ one → ⊥)
    → get_or (looked view numbers views one) rank None ≡ view (get_or numbers rank 0)
stand_case view numbers changed views one rank long within stand below other (inl same) =
    ap (λ r. get_or (looked view numbers views one) r None) same
    ∙ get_or-set_same views one (view (get_or numbers one 0)) None (omega (arith, long, within))
    ∙ ap (λ r. view (get_or numbers r 0)) (sym same)
stand_case view numbers changed views one rank long within stand below other (inr differ) =
    get_or-set_other views one rank (view (get_or numbers one 0)) None differ
    ∙ stand rank below (λ there. first_or one changed rank differ other there)

pub looked_all : (view : ℕ → Option (List ℕ)) (numbers changed : List ℕ) (views : List (Option (List ℕ))) → length views ≡ length numbers
    → All (λ rank. rank < length numbers) changed → Stand view numbers changed views → fold (looked view numbers) views changed ≡ map view numbers
looked_all view numbers [] views long ranks stand =
    ext_get_or None views (map view numbers) (long ∙ sym (length-map numbers view)) (λ i within.
    stand i (omega (arith, long, within)) (λ there. none_there i there)
    ∙ sym (map_at view numbers i (omega (arith, long, within))))
looked_all view numbers (one ∷ changed) views long ranks stand =
    let within = All-head (λ rank. rank < length numbers) one changed ranks in
    looked_all view numbers changed (looked view numbers views one) (length-set views one (view (get_or numbers one 0)) ∙ long)
    (All-tail (λ rank. rank < length numbers) one changed ranks)
    (λ rank below other. stand_case view numbers changed views one rank long within stand below other (cases_eq rank one))

-- one more listed rank
pub look_more : {A : Type 0} (copied : A → Option (List ℕ)) (view : ℕ → Option (List ℕ)) (numbers changed : List ℕ) (first views : List A) (i : ℕ) (found : A)
    → i < length changed → copied found ≡ view (get_or numbers (get_or changed i 0) 0)
    → map copied views ≡ fold (looked view numbers) (map copied first) (take i changed)
    → map copied (set views (get_or changed i 0) found) ≡ fold (looked view numbers) (map copied first) (take (i + 1) changed)
look_more copied view numbers changed first views i found within is before =
    let rank = get_or changed i 0 in
    map-set copied views rank found
    ∙ ap (set (map copied views) rank) is
    ∙ ap (λ vs. looked view numbers vs rank) before
    ∙ sym (fold_more (looked view numbers) (map copied first) changed i 0 within)
