-- The root targets, one more at a time.
use Rattle.std.proofs.Common.{◌≡◌, ℕ, ◌+◌, ◌<◌, Bool, false, ℤ, List, [], ◌∷◌, ◌++◌, map, filter, length, get_or, take, refl, ap, ◌∙◌}
use Rattle.std.specs.List.{flat_map}
use Rattle.std.proofs.lemmas.List.{append-nil, map-append, take_more}
use Rattle.std.proofs.lemmas.List.Concat.{flat_map-append}
use Rattle.std.proofs.lemmas.List.Elements.{filter-append}
use Rattle.sx_base.specs.declared.layout.Layout.{Layout}
use Rattle.sx_base.specs.declared.role.Role.TheVariants.{PointerMap}
use Rattle.sx_closure.specs.declared.pair.Source.TheVariants.{Root}
use Rattle.sx_refs.specs.Targets.{target}
use Rattle.sx_refs.specs.Pages.{root_targets, roots_targets, is_map_in, maps_targets}

pub roots_none : roots_targets [] ≡ []
unfolding roots_targets
roots_none = refl

pub roots_more : (roots : List ℤ) (i : ℕ) (d : ℤ) → i < length roots
    → roots_targets (take (i + 1) roots) ≡ roots_targets (take i roots) ++ root_targets (get_or roots i d)
unfolding roots_targets
roots_more roots i d below =
    ap (flat_map root_targets) (take_more roots i d below) ∙ flat_map-append root_targets (take i roots) (get_or roots i d ∷ [])
    ∙ ap (λ last. flat_map root_targets (take i roots) ++ last) (append-nil (root_targets (get_or roots i d)))

pub maps_none : (layout : Layout) → maps_targets layout [] ≡ []
unfolding maps_targets
maps_none layout = refl

pub maps_more : (layout : Layout) (some others : List ℕ) → maps_targets layout (some ++ others) ≡ maps_targets layout some ++ maps_targets layout others
unfolding maps_targets
maps_more layout some others =
    ap (map (λ page. target page PointerMap Root 0)) (filter-append (is_map_in layout) some others)
    ∙ map-append (λ page. target page PointerMap Root 0) (filter (is_map_in layout) some) (filter (is_map_in layout) others)

kept_none : (test : ℕ → Bool) (xs : List ℕ) → ((x : ℕ) → test x ≡ false) → filter test xs ≡ []
kept_none test [] none = refl
kept_none test (x ∷ xs) none = rw (none x) (kept_none test xs none)

pub maps_off : (layout : Layout) (held : List ℕ) → layout.pointer_maps ≡ false → maps_targets layout held ≡ []
unfolding maps_targets
maps_off layout held off =
    ap (map (λ page. target page PointerMap Root 0)) (kept_none (is_map_in layout) held (λ page. rw off refl))
