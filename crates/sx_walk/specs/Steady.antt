-- When a page that changed leaves the table of the references as it is: it is held as before, and names what it named in
-- each role in which it may be reached.
use Rattle.std.specs.Prelude.{◌≡◌, ℕ, ◌-◌, ◌<◌, ℤ, Bool, true, false, List, map, slice_index, slice_index_or, Option, Some, None, is_some, ⊤}
use Rattle.std.specs.List.{Contains}
use Rattle.sx_base.specs.declared.layout.Layout.{Layout}
use Rattle.sx_base.specs.declared.role.Role.{Role}
use Rattle.sx_closure.specs.declared.pair.Target.{Target}
use Rattle.sx_closure.specs.Tallying.{Table, count_at, one_at, IsTableOf}
use Rattle.sx_refs.specs.Targets.{targets_of}
use Rattle.sx_refs.specs.Pages.{if_held, graph_of}
use Rattle.sx_walk.specs.Turning.{in_the_role, HasUsable}
use Rattle.sx_refs.specs.Covering.{Covers}

-- as far as the table tells, the page may be reached in the role: it has references, and where it has one, of that role
pub record MayBe (table : Table) (page : ℕ) (role : Role) : Type 0 where
  pub some : 0 < count_at table page
  pub one : (target : Target) → one_at table page ≡ Some target → target.pair.role ≡ role

-- by the bytes of two views the page names the same in the role, where the table lets it be reached in that
abbrev pub NamesSame : Table → ℕ → ℕ → List ℕ → List ℕ → Role → Type 0
NamesSame table usable page before after role =
    MayBe table page role → targets_of after (in_the_role page role) usable ≡ targets_of before (in_the_role page role) usable

-- a page with one view and then another is held as before, and names the same in each role in which it may be reached
pub record IsSteady (table : Table) (usable page : ℕ) (before now : Option (List ℕ)) : Type 0 where
  pub held : is_some now ≡ is_some before
  pub names : (role : Role) → MayBe table page role → if_held now (in_the_role page role) usable ≡ if_held before (in_the_role page role) usable

-- so are all pages whose ranks are listed
abbrev pub AreSteady : Table → ℕ → List ℕ → List (Option (List ℕ)) → (ℕ → Option (List ℕ)) → List ℕ → Type 0
AreSteady table usable numbers views view changed =
    (rank : ℕ) → Contains changed rank → IsSteady table usable (slice_index numbers rank) (slice_index_or views rank None) (view (slice_index numbers rank))

-- the table is that of the pages of a moment with these views by rank, this size, layout and roots
pub record IsStanding (numbers : List ℕ) (views : List (Option (List ℕ))) (size : ℕ) (layout : Layout) (roots : List ℤ) (table : Table) : Type 0 where
  pub view : ℕ → Option (List ℕ)
  pub covered : Covers numbers view
  pub views_are : views ≡ map view numbers
  pub usable : (number : ℕ) → HasUsable layout.usable (view number)
  pub table_is : IsTableOf (graph_of size view layout roots) (layout.usable - 4) table

-- so it is, where it is said to
abbrev pub IfStanding : Bool → List ℕ → List (Option (List ℕ)) → ℕ → Layout → List ℤ → Table → Type 0
IfStanding false numbers views size layout roots table = ⊤
IfStanding true numbers views size layout roots table = IsStanding numbers views size layout roots table
