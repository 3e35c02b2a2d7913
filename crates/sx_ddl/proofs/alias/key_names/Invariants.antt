use Rattle.std.proofs.Common.{◌≡◌, ◌||◌, ℕ, List, drop}
use Rattle.std.specs.List.{list_any}
use Rattle.sx_ddl.specs.Sets.{contains_name}
use Rattle.sx_ddl.specs.Shapes.{spells}
use Rattle.sx_ddl.proofs.alias.key_names.Given as goal

-- a name that a key spells is in the set, or the key comes later
abbrev pub invariant-loop-place : goal.invariant-loop-place
invariant-loop-place l =
    (name : List ℕ) → list_any (spells l.text name) l.keys ≡ (contains_name l.names name || list_any (spells l.text name) (drop l.place l.keys))
