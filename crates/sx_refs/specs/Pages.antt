-- The graph of the pages of a moment: what the roots name, and what each held page names in each role.
use Rattle.std.specs.Prelude.{ℕ, ◌^◌, ◌&&◌, nat_lt, if◌then◌else◌, ℤ, pos, negsuc, List, [], ◌∷◌, ◌++◌, map, filter, Bool, Option, Some, None}
use Rattle.std.specs.List.{flat_map}
use Rattle.std.specs.Ordering.{int_eq}
use Rattle.sx_base.specs.declared.layout.Layout.{Layout}
use Rattle.sx_base.specs.Held.{held_pages}
use Rattle.sx_base.specs.Maps.{lock_page_of, is_map_page}
use Rattle.sx_base.specs.declared.role.Role.TheVariants.{Node, Trunk, PointerMap}
use Rattle.sx_closure.specs.declared.pair.Pair.{Pair}
use Rattle.sx_closure.specs.declared.pair.Source.TheVariants.{Root}
use Rattle.sx_closure.specs.declared.pair.Target.{Target}
use Rattle.sx_closure.specs.Graph.{Graph}
use Rattle.sx_refs.specs.Targets.{target, linked, targets_of}

-- the page of a root: one that is no number of 32 bits can't be held, and page 0 stands for it, which never is
unfoldable pub root_page : ℤ → ℕ
root_page (pos number) = if nat_lt number (2 ^ 32) then number else 0
root_page (negsuc number) = 0

-- what one root of the schema names: a root of 0 is none
unfoldable pub root_targets : ℤ → List Target
root_targets root = if int_eq root (pos 0) then [] else target (root_page root) Node Root 0 ∷ []

-- what the roots of the schema name
unfoldable pub roots_targets : List ℤ → List Target
roots_targets roots = flat_map root_targets roots

-- a pointer-map page
abbrev pub is_map_in : Layout → ℕ → Bool
is_map_in layout page = layout.pointer_maps && is_map_page (lock_page_of layout.page_size) layout.usable page

-- the pointer-map pages among some pages
unfoldable pub maps_targets : Layout → List ℕ → List Target
maps_targets layout held = map (λ page. target page PointerMap Root 0) (filter (is_map_in layout) held)

-- the root targets: page 1, the first freelist trunk page, the roots of the schema, the held pointer-map pages
unfoldable pub all_roots : List ℕ → Layout → List ℤ → List Target
all_roots held layout roots =
    (target 1 Node Root 0 ∷ [])
    ++ (linked layout.free_head Trunk Root
    ++ (roots_targets roots
    ++ maps_targets layout held))

-- what a pair names, if its page is held
abbrev pub if_held : Option (List ℕ) → Pair → ℕ → List Target
if_held None pair usable = []
if_held (Some bytes) pair usable = targets_of bytes pair usable

-- the pages of that size, with these views and this layout, and the schema's roots
unfoldable pub graph_of : ℕ → (ℕ → Option (List ℕ)) → Layout → List ℤ → Graph
graph_of size view layout roots = record {
  held = held_pages size view;
  roots = all_roots (held_pages size view) layout roots;
  targets = λ pair. if_held (view pair.page) pair layout.usable;
}
