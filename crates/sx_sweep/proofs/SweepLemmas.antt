-- Moments, one after the other.
use Rattle.std.proofs.Common.{◌≡◌, ℕ, zero, suc, ◌+◌, ◌<◌, Bool, false, ◌||◌, List, [], ◌∷◌, length, drop, get_or, refl, ap, ◌∙◌, arith}
use Rattle.sx_base.specs.declared.moment.Moment.{Moment}
use Rattle.sx_moment.specs.Gathered.{Gathered}
use Rattle.sx_images.specs.declared.image.Image.{Image}
use Rattle.sx_owned.specs.Owned.{Owned, owned_at, block_at, IsFresh}
use Rattle.sx_sweep.specs.Growth.{Grows, Growing}
use Rattle.sx_sweep.specs.Owning.{moment_owns, moment_begins, owned_under, block_under}
use Rattle.sx_sweep.proofs.GrowthLemmas.{growing_step, growing_end}

owned_more : (case : Gathered) (images : List Image) (moment : Moment) (moments : List Moment) (image at : ℕ)
    → owned_under case images (moment ∷ moments) image at ≡ (moment_owns case images image at moment || owned_under case images moments image at)
unfolding owned_under
owned_more case images moment moments image at = refl

block_more : (case : Gathered) (images : List Image) (moment : Moment) (moments : List Moment) (image at : ℕ)
    → block_under case images (moment ∷ moments) image at ≡ (moment_begins case images image at moment || block_under case images moments image at)
unfolding block_under
block_more case images moment moments image at = refl

owned_none : (case : Gathered) (images : List Image) (moments : List Moment) (image at : ℕ) → length moments ≡ 0 → owned_under case images moments image at ≡ false
unfolding owned_under
owned_none case images [] image at none = refl
owned_none case images (moment ∷ moments) image at none = absurd (omega arith)

block_none : (case : Gathered) (images : List Image) (moments : List Moment) (image at : ℕ) → length moments ≡ 0 → block_under case images moments image at ≡ false
unfolding block_under
block_none case images [] image at none = refl
block_none case images (moment ∷ moments) image at none = absurd (omega arith)

pub drop_at : (moments : List Moment) (i : ℕ) (d : Moment) → i < length moments → drop i moments ≡ get_or moments i d ∷ drop (i + 1) moments
drop_at [] i d within = absurd (omega arith)
drop_at (first ∷ moments) zero d within = refl
drop_at (first ∷ moments) (suc i) d within =
    let count : suc (i + 1) ≡ suc i + 1 = omega arith in
    drop_at moments i d (omega arith) ∙ ap (λ (k : ℕ). get_or moments i d ∷ drop k (first ∷ moments)) count

-- a moment more
pub sweep_step : (case : Gathered) (images : List Image) (moments : List Moment) (old now new : Owned) (i : ℕ) (d : Moment) → i < length moments
    → Growing old now (owned_under case images moments) (block_under case images moments) (owned_under case images (drop i moments)) (block_under case images (drop i moments))
    → Grows now new (λ image at. moment_owns case images image at (get_or moments i d)) (λ image at. moment_begins case images image at (get_or moments i d))
    → Growing old new (owned_under case images moments) (block_under case images moments) (owned_under case images (drop (i + 1) moments)) (block_under case images (drop (i + 1) moments))
sweep_step case images moments old now new i d within growing grows =
    let moment = get_or moments i d in
    let rest = drop (i + 1) moments in
    let first = drop_at moments i d within in
    growing_step old now new (owned_under case images moments) (block_under case images moments) (owned_under case images (drop i moments)) (block_under case images (drop i moments))
    (λ image at. moment_owns case images image at moment) (λ image at. moment_begins case images image at moment) (owned_under case images rest) (block_under case images rest)
    growing grows
    (λ image at. ap (λ list. owned_under case images list image at) first ∙ owned_more case images moment rest image at)
    (λ image at. ap (λ list. block_under case images list image at) first ∙ block_more case images moment rest image at)

-- all of them
pub sweep_end : (case : Gathered) (images : List Image) (moments : List Moment) (old now : Owned) (i : ℕ) → length (drop i moments) ≡ 0
    → Growing old now (owned_under case images moments) (block_under case images moments) (owned_under case images (drop i moments)) (block_under case images (drop i moments))
    → Grows old now (owned_under case images moments) (block_under case images moments)
sweep_end case images moments old now i none growing =
    growing_end old now (owned_under case images moments) (block_under case images moments) (owned_under case images (drop i moments)) (block_under case images (drop i moments)) growing
    (λ image at. owned_none case images (drop i moments) image at none)
    (λ image at. block_none case images (drop i moments) image at none)

-- where nothing was owned before
pub all_owned : (old now : Owned) (owns begins : ℕ → ℕ → Bool) (images size : ℕ) → IsFresh old images size → Grows old now owns begins → (image at : ℕ) → owned_at now image at ≡ owns image at
all_owned old now owns begins images size fresh grows image at = grows.owned image at ∙ ap (λ b. b || owns image at) (fresh.owned image at)

pub all_begun : (old now : Owned) (owns begins : ℕ → ℕ → Bool) (images size : ℕ) → IsFresh old images size → Grows old now owns begins → (image at : ℕ) → block_at now image at ≡ begins image at
all_begun old now owns begins images size fresh grows image at = grows.block image at ∙ ap (λ b. b || begins image at) (fresh.block image at)
