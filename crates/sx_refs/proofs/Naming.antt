-- What the leaves of a freelist trunk page are, one more at a time; and which roles name nothing.
use Rattle.std.proofs.Common.{◌≡◌, ℕ, ◌+◌, false, Option, Some, None, List, [], ◌∷◌, ◌++◌, refl, zero-add}
use Rattle.std.proofs.lemmas.List.FromFn.{map-range_with_len_more}
use Rattle.sx_free.specs.Trunks.{TrunkPage, leaf_at}
use Rattle.sx_base.specs.declared.role.Role.TheVariants.{Node, Overflow, Trunk, FreeLeaf, PointerMap}
use Rattle.sx_closure.specs.declared.pair.Source.TheVariants.{Page as PageSource}
use Rattle.std.proofs.lemmas.Bool.{true≢false}
use Rattle.sx_base.specs.declared.role.Role.{Role}
use Rattle.sx_closure.specs.declared.pair.Pair.{Pair}
use Rattle.sx_refs.specs.Targets.{target, leaves_targets, may_name, in_role, targets_of}
use Rattle.sx_refs.specs.Pages.{if_held}

pub leaves_none : (page : ℕ) (trunk : TrunkPage) → leaves_targets page trunk 0 ≡ []
unfolding leaves_targets
leaves_none page trunk = refl

pub leaves_more : (page : ℕ) (trunk : TrunkPage) (count : ℕ)
    → leaves_targets page trunk (count + 1) ≡ leaves_targets page trunk count ++ target (leaf_at trunk count) FreeLeaf (PageSource page) 0 ∷ []
unfolding leaves_targets
leaves_more page trunk count =
    map-range_with_len_more (λ index. target (leaf_at trunk index) FreeLeaf (PageSource page) 0) 0 count count (zero-add count)

-- a page in a role that names no others names nothing, held or not
role_case : (bytes : List ℕ) (page usable : ℕ) (role : Role) → may_name role ≡ false → in_role bytes page usable role ≡ []
role_case bytes page usable Node none = absurd (true≢false none)
role_case bytes page usable Overflow none = absurd (true≢false none)
role_case bytes page usable Trunk none = absurd (true≢false none)
role_case bytes page usable FreeLeaf none = refl
role_case bytes page usable PointerMap none = refl

pub names_nothing : (found : Option (List ℕ)) (pair : Pair) (usable : ℕ) → may_name pair.role ≡ false → if_held found pair usable ≡ []
unfolding targets_of
names_nothing None pair usable none = refl
names_nothing (Some bytes) pair usable none = role_case bytes pair.page usable pair.role none
