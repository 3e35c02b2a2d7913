-- How owned bytes and freeblocks of images are added up.
use Rattle.std.specs.Prelude.{◌≡◌, ℕ, Bool, false, ◌||◌}
use Rattle.sx_owned.specs.Owned.{Owned, images_of, owned_at, block_at}

-- at no place of any image
abbrev pub nowhere : ℕ → ℕ → Bool
nowhere image at = false

-- the same images; owned besides are the bytes that pass one test, and freeblocks begin besides where another one passes
pub record Grows (old new : Owned) (owns begins : ℕ → ℕ → Bool) : Type 0 where
  pub count : images_of new ≡ images_of old
  pub size : new.page_size ≡ old.page_size
  pub owned : (image at : ℕ) → owned_at new image at ≡ (owned_at old image at || owns image at)
  pub block : (image at : ℕ) → block_at new image at ≡ (block_at old image at || begins image at)

-- on the way there: what is known now, with what is still to come, is what was known before, with all
pub record Growing (old now : Owned) (owns begins owns_left begins_left : ℕ → ℕ → Bool) : Type 0 where
  pub count : images_of now ≡ images_of old
  pub size : now.page_size ≡ old.page_size
  pub owned : (image at : ℕ) → (owned_at now image at || owns_left image at) ≡ (owned_at old image at || owns image at)
  pub block : (image at : ℕ) → (block_at now image at || begins_left image at) ≡ (block_at old image at || begins image at)
