-- From one place of a pointer-map page to the next no page is one.
use Rattle.std.proofs.Common.{◌≡◌, ℕ, zero, suc, ◌+◌, ◌-◌, ◌*◌, ◌/◌, ◌%◌, ◌<◌, ◌≤◌, ◌==◌, ◌&&◌, nat_le, Bool, true, false, cond, is_some, map, List, [], ◌∷◌, ◌++◌, filter, refl, sym, ap, ◌∙◌, arith, add-mul, one-mul, append-nil, Option}
use Rattle.std.specs.List.{range_with_len}
use Rattle.std.proofs.Math.Nat.{lt_of_mul-lt-mul_right, mod-lt}
use Rattle.std.proofs.lemmas.Nat.{div-add-mod'}
use Rattle.std.proofs.lemmas.Bool.{ne_eqb, lt-leb}
use Rattle.std.proofs.lemmas.List.Elements.{filter-append}
use Rattle.sx_base.specs.declared.layout.Layout.{Layout}
use Rattle.sx_base.specs.Held.{held_pages}
use Rattle.sx_base.specs.Maps.{lock_page_of, is_map_place, is_map_page}
use Rattle.sx_base.proofs.Ranges.{range_append}
use Rattle.sx_base.specs.declared.role.Role.TheVariants.{PointerMap}
use Rattle.sx_closure.specs.declared.pair.Source.TheVariants.{Root}
use Rattle.sx_refs.specs.Targets.{target}
use Rattle.sx_refs.proofs.RootLists.{maps_more}
use Rattle.sx_refs.specs.Pages.{is_map_in, maps_targets}

and_none : (a : Bool) → (a && false) ≡ false
and_none true = refl
and_none false = refl

-- between two neighbouring multiples of a step lies none
no_multiple : (step few number : ℕ) → few * step < number → number < (few + 1) * step → number % step ≡ 0 → ⊥
no_multiple step few number above below none =
    let parts = div-add-mod' number step in
    let is : number ≡ number / step * step = omega (arith, parts, none) in
    let more : few < number / step = lt_of_mul-lt-mul_right step (omega (arith, above, is)) in
    let fewer : number / step < few + 1 = lt_of_mul-lt-mul_right step (omega (arith, below, is)) in
    omega (arith, more, fewer)

-- so between two places of pointer-map pages
no_place : (usable number page : ℕ) → 2 ≤ number → number < page → page < ((number - 2) / (usable / 5 + 1) + 1) * (usable / 5 + 1) + 2
    → is_map_place usable page ≡ false
no_place usable number page least above below =
    let step = usable / 5 + 1 in
    let few = (number - 2) / step in
    let parts = div-add-mod' (number - 2) step in
    let none : ((page - 2) % step == 0) ≡ false = ne_eqb ((page - 2) % step) 0
    (no_multiple step few (page - 2) (omega (arith, parts, least, above)) (omega (arith, below, least, above))) in
    rw none (and_none (nat_le 2 page))

-- one that isn't the page behind the lock-byte page is a map only at a place
place_alone : (lock usable page : ℕ) → is_map_place usable page ≡ false → ((page == lock + 1) && is_map_place usable lock) ≡ false
    → is_map_page lock usable page ≡ false
unfolding is_map_page
place_alone lock usable page none other = rw (none, other) refl

-- neither page 1 nor page 0 is one
pub none_at_first : (layout : Layout) (page : ℕ) → page ≤ 1 → is_map_in layout page ≡ false
none_at_first layout page low =
    let lock = lock_page_of layout.page_size in
    let place : nat_le 2 page ≡ false = lt-leb 2 page (omega (arith, low)) in
    let behind : (page == lock + 1) ≡ false = ne_eqb page (lock + 1) (λ e. omega (arith, e, low)) in
    ap (λ is. layout.pointer_maps && is) (place_alone lock layout.usable page (rw place refl) (rw behind refl)) ∙ and_none layout.pointer_maps

-- nor is one before the next place, but that behind the lock-byte page
pub none_before : (layout : Layout) (number page : ℕ) → 2 ≤ number → number < page
    → page < ((number - 2) / (layout.usable / 5 + 1) + 1) * (layout.usable / 5 + 1) + 2 → (page ≡ lock_page_of layout.page_size + 1 → ⊥) → is_map_in layout page ≡ false
none_before layout number page least above below other =
    let lock = lock_page_of layout.page_size in
    let behind : (page == lock + 1) ≡ false = ne_eqb page (lock + 1) other in
    ap (λ is. layout.pointer_maps && is) (place_alone lock layout.usable page (no_place layout.usable number page least above below) (rw behind refl))
    ∙ and_none layout.pointer_maps

kept_case : (test other : ℕ → Bool) (first : ℕ) (kept : List ℕ) (b : Bool) → other first ≡ b → test first ≡ false → filter test kept ≡ []
    → filter test (cond (other first) (first ∷ kept) kept) ≡ []
kept_case test other first kept true is none rest = rw (is, none) rest
kept_case test other first kept false is none rest = rw is rest

no_maps : (layout : Layout) (pages : List ℕ) → filter (is_map_in layout) pages ≡ [] → maps_targets layout pages ≡ []
unfolding maps_targets
no_maps layout pages none = ap (map (λ page. target page PointerMap Root 0)) none

-- the same, as the code has the parts of the next place in hand
pub none_from : (layout : Layout) (number page from step last : ℕ) → 2 ≤ number → from ≡ number - 2 → step ≡ layout.usable / 5 + 1 → number < page → page ≤ last
    → last < (from / step + 1) * step + 2 → (page ≡ lock_page_of layout.page_size + 1 → ⊥) → is_map_in layout page ≡ false
none_from layout number page from step last least is_from is_step above within below other =
    let same : (from / step + 1) * step + 2 ≡ ((number - 2) / (layout.usable / 5 + 1) + 1) * (layout.usable / 5 + 1) + 2 =
    ap (λ n. (n / step + 1) * step + 2) is_from ∙ ap (λ k. ((number - 2) / k + 1) * k + 2) is_step in
    none_before layout number page least above (omega (arith, within, below, same)) other

pub below_place : (number from step : ℕ) → 2 ≤ number → from ≡ number - 2 → 0 < step → number < (from / step + 1) * step + 2
below_place number from step least is some =
    let parts = div-add-mod' from step in
    let rest = mod-lt from some in
    let whole : (from / step + 1) * step ≡ from / step * step + step = grind (arith, add-mul, one-mul) in
    omega (arith, least, is, parts, rest, whole)

none_kept : (test other : ℕ → Bool) (first many : ℕ) → ((page : ℕ) → first ≤ page → page < first + many → test page ≡ false)
    → filter test (filter other (range_with_len first many)) ≡ []
none_kept test other first zero none = refl
none_kept test other first (suc many) none =
    kept_case test other first (filter other (range_with_len (first + 1) many)) (other first) refl (none first (omega arith) (omega arith))
    (none_kept test other (first + 1) many (λ page low high. none page (omega (arith, low)) (omega (arith, high))))

-- pages that are no maps add none
pub maps_past : (layout : Layout) (view : ℕ → Option (List ℕ)) (number last : ℕ) → number ≤ last
    → ((page : ℕ) → number < page → page ≤ last → is_map_in layout page ≡ false)
    → maps_targets layout (held_pages last view) ≡ maps_targets layout (held_pages number view)
unfolding held_pages
maps_past layout view number last within none =
    let held : ℕ → Bool = λ page. is_some (view page) in
    let whole : number + (last - number) ≡ last = omega (arith, within) in
    let split : range_with_len 1 last ≡ range_with_len 1 number ++ range_with_len (1 + number) (last - number) =
    ap (range_with_len 1) (sym whole) ∙ range_append 1 number (last - number) in
    ap (λ pages. maps_targets layout (filter held pages)) split
    ∙ ap (maps_targets layout) (filter-append held (range_with_len 1 number) (range_with_len (1 + number) (last - number)))
    ∙ maps_more layout (filter held (range_with_len 1 number)) (filter held (range_with_len (1 + number) (last - number)))
    ∙ ap (λ more. maps_targets layout (filter held (range_with_len 1 number)) ++ more)
    (no_maps layout (filter held (range_with_len (1 + number) (last - number)))
    (none_kept (is_map_in layout) held (1 + number) (last - number) (λ page low high. none page (omega (arith, low)) (omega (arith, high, within)))))
    ∙ append-nil (maps_targets layout (filter held (range_with_len 1 number)))
