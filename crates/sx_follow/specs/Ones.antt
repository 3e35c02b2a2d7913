-- The one reference to a page, as its sums tell it.
use Rattle.std.specs.Prelude.{ℕ, ◌==◌, if◌then◌else◌, Option, Some, None}
use Rattle.sx_base.specs.declared.role.Role.{Role}
use Rattle.sx_base.specs.declared.role.Role.TheVariants.{Node, Overflow, Trunk, FreeLeaf, PointerMap}
use Rattle.sx_closure.specs.declared.pair.Source.{Source}
use Rattle.sx_closure.specs.declared.pair.Source.TheVariants.{Root, Cell, Page}
use Rattle.sx_closure.specs.declared.pair.Target.{Target}
use Rattle.sx_closure.specs.Tallying.{rank_of}
use Rattle.sx_follow.specs.declared.sums.Sum.{Sum}
use Rattle.sx_follow.specs.Sums.{Sums, sum_at}
use Rattle.sx_follow.specs.Climbing.{all_of}

-- of which role it is
abbrev pub role_in : Sum → Role
role_in sum = if sum.node == 1 then Node else (if sum.overflow == 1 then Overflow else (if sum.trunk == 1 then Trunk else (if sum.free_leaf == 1 then FreeLeaf else PointerMap)))

-- where it stands
abbrev pub source_in : Sum → Source
source_in sum = if sum.kind == 0 then Root else (if sum.kind == 1 then Cell sum.page sum.cell else Page sum.page)

abbrev pub one_in : ℕ → Sum → Option Target
one_in page sum = if all_of sum == 1 then Some (record { pair = record { page = page; role = role_in sum }; source = source_in sum; rest = sum.rest }) else None

-- the one reference to a page, where it has no other
abbrev pub the_one : Sums → ℕ → Option Target
the_one all page = one_in page (sum_at all (rank_of all.held page))
