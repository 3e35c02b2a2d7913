-- Owned bytes and freeblocks, added up.
use Rattle.std.proofs.Common.{◌≡◌, ℕ, Bool, true, false, ◌||◌, ◌&&◌, ◌==◌, refl, sym, ap, ◌∙◌}
use Rattle.sx_base.specs.Labels.{is_owning}
use Rattle.sx_base.specs.declared.evidence.Span.{Span}
use Rattle.sx_base.specs.declared.label.Label.{Label}
use Rattle.sx_owned.specs.Owned.{Owned, owned_at, block_at, Owns, Begins}
use Rattle.sx_owned.specs.Spans.{in_span}
use Rattle.sx_sweep.specs.Growth.{nowhere, Grows, Growing}
use Rattle.sx_sweep.specs.Told.{run_owns, only_in}

pub or_false : (b : Bool) → (b || false) ≡ b
or_false true = refl
or_false false = refl

or_assoc : (a b c : Bool) → ((a || b) || c) ≡ (a || (b || c))
or_assoc true b c = refl
or_assoc false b c = refl

and_false : (b : Bool) → (b && false) ≡ false
and_false true = refl
and_false false = refl

-- ---- one change

-- nothing was added
pub grows_none : (table : Owned) (owns begins : ℕ → ℕ → Bool) → ((image at : ℕ) → owns image at ≡ false) → ((image at : ℕ) → begins image at ≡ false) → Grows table table owns begins
grows_none table owns begins none neither = record {
  count = refl;
  size = refl;
  owned = λ image at. sym (ap (λ b. owned_at table image at || b) (none image at) ∙ or_false (owned_at table image at));
  block = λ image at. sym (ap (λ b. block_at table image at || b) (neither image at) ∙ or_false (block_at table image at));
}

-- a run of a label of what the database uses
pub run_grows : (old new : Owned) (image : ℕ) (span : Span) (label : Label) → Owns old new image span → is_owning label ≡ true → Grows old new (only_in image (run_owns (span, label))) nowhere
run_grows old new image span label owns is = record {
  count = owns.count;
  size = owns.size;
  owned = λ other at. owns.owned other at ∙ ap (λ b. owned_at old other at || ((other == image) && (b && in_span at span))) (sym is);
  block = λ other at. owns.block other at ∙ sym (or_false (block_at old other at));
}

-- a run of another label
pub no_run_grows : (table : Owned) (image : ℕ) (span : Span) (label : Label) → is_owning label ≡ false → Grows table table (only_in image (run_owns (span, label))) nowhere
no_run_grows table image span label is =
    grows_none table (only_in image (run_owns (span, label))) nowhere
    (λ other at. ap (λ b. (other == image) && (b && in_span at span)) is ∙ and_false (other == image))
    (λ other at. refl)

-- a block
pub block_grows : (old new : Owned) (image : ℕ) (block : Span) → Begins old new image block.start → Grows old new nowhere (only_in image (λ at. at == block.start))
block_grows old new image block begins = record {
  count = begins.count;
  size = begins.size;
  owned = λ other at. begins.owned other at ∙ sym (or_false (owned_at old other at));
  block = λ other at. begins.block other at;
}

pub grows_same : (old new : Owned) (owns begins other others : ℕ → ℕ → Bool) → Grows old new owns begins → ((image at : ℕ) → owns image at ≡ other image at) → ((image at : ℕ) → begins image at ≡ others image at)
    → Grows old new other others
grows_same old new owns begins other others grows same alike = record {
  count = grows.count;
  size = grows.size;
  owned = λ image at. grows.owned image at ∙ ap (λ b. owned_at old image at || b) (same image at);
  block = λ image at. grows.block image at ∙ ap (λ b. block_at old image at || b) (alike image at);
}

-- one change and another
pub grows_both : (old now new : Owned) (owns begins other others : ℕ → ℕ → Bool) → Grows old now owns begins → Grows now new other others
    → Grows old new (λ image at. owns image at || other image at) (λ image at. begins image at || others image at)
grows_both old now new owns begins other others first second = record {
  count = second.count ∙ first.count;
  size = second.size ∙ first.size;
  owned = λ image at. second.owned image at ∙ ap (λ b. b || other image at) (first.owned image at) ∙ or_assoc (owned_at old image at) (owns image at) (other image at);
  block = λ image at. second.block image at ∙ ap (λ b. b || others image at) (first.block image at) ∙ or_assoc (block_at old image at) (begins image at) (others image at);
}

-- ---- on the way

pub growing_start : (table : Owned) (owns begins owns_left begins_left : ℕ → ℕ → Bool) → ((image at : ℕ) → owns_left image at ≡ owns image at) → ((image at : ℕ) → begins_left image at ≡ begins image at)
    → Growing table table owns begins owns_left begins_left
growing_start table owns begins owns_left begins_left same alike = record {
  count = refl;
  size = refl;
  owned = λ image at. ap (λ b. owned_at table image at || b) (same image at);
  block = λ image at. ap (λ b. block_at table image at || b) (alike image at);
}

pub growing_step : (old now new : Owned) (owns begins left behind first firsts rest rests : ℕ → ℕ → Bool) → Growing old now owns begins left behind → Grows now new first firsts
    → ((image at : ℕ) → left image at ≡ (first image at || rest image at)) → ((image at : ℕ) → behind image at ≡ (firsts image at || rests image at))
    → Growing old new owns begins rest rests
growing_step old now new owns begins left behind first firsts rest rests growing grows split splits = record {
  count = grows.count ∙ growing.count;
  size = grows.size ∙ growing.size;
  owned = λ image at.
      ap (λ b. b || rest image at) (grows.owned image at)
      ∙ or_assoc (owned_at now image at) (first image at) (rest image at)
      ∙ ap (λ b. owned_at now image at || b) (sym (split image at))
      ∙ growing.owned image at;
  block = λ image at.
      ap (λ b. b || rests image at) (grows.block image at)
      ∙ or_assoc (block_at now image at) (firsts image at) (rests image at)
      ∙ ap (λ b. block_at now image at || b) (sym (splits image at))
      ∙ growing.block image at;
}

pub growing_end : (old now : Owned) (owns begins left behind : ℕ → ℕ → Bool) → Growing old now owns begins left behind → ((image at : ℕ) → left image at ≡ false) → ((image at : ℕ) → behind image at ≡ false)
    → Grows old now owns begins
growing_end old now owns begins left behind growing none neither = record {
  count = growing.count;
  size = growing.size;
  owned = λ image at. sym (ap (λ b. owned_at now image at || b) (none image at) ∙ or_false (owned_at now image at)) ∙ growing.owned image at;
  block = λ image at. sym (ap (λ b. block_at now image at || b) (neither image at) ∙ or_false (block_at now image at)) ∙ growing.block image at;
}
