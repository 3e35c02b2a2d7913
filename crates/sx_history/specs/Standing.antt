-- What a tree says of a rowid at one moment after the other, over one list of page numbers.
use Rattle.std.specs.Prelude.{◌≡◌, ◌⊎◌, ℕ, ℤ, ◌<◌, ◌≤◌, Bool, true, false, List, length, map, slice_index, Option, is_some, ⊤}
use Rattle.std.specs.List.{Contains}
use Rattle.sx_history.specs.declared.found.Found.{Found}
use Rattle.sx_history.specs.declared.listing.History.{History}
use Rattle.sx_history.specs.Given.{faults_by, items_by}
use Rattle.sx_history.specs.History.{faults_of, found_of}
use Rattle.sx_history.specs.Leaves.{StaysLeaf}
use Rattle.sx_history.specs.Marks.{AreMarked, IsWhole, is_marked, view_at}

-- the numbers of the pages that any of the moments may hold, the view of each at the moment, the rowid that is looked for, and
-- what the tree says of it. The rank of a page is its place in the list of numbers
pub record Walk : Type 0 where
  pub numbers : List ℕ
  pub views : List (Option (List ℕ))
  pub rowid : ℤ
  pub found : List Found
  pub faults : ℕ

-- each page that has a view is among the numbers
abbrev pub Covers : List ℕ → (ℕ → Option (List ℕ)) → Type 0
Covers numbers view = (number : ℕ) → is_some (view number) ≡ true → Contains numbers number

-- a page whose rank isn't listed has the view that is kept of it
abbrev pub StandBut : List ℕ → List ℕ → List (Option (List ℕ)) → (ℕ → Option (List ℕ)) → Type 0
StandBut changed numbers views view =
    (rank : ℕ) → rank < length numbers → (Contains changed rank → ⊥) → view_at views rank ≡ view (slice_index numbers rank)

-- the walk stands at the moment with these views, at the tree of this root with so many usable bytes
pub record StandsAt (size : ℕ) (view : ℕ → Option (List ℕ)) (usable root : ℕ) (walk : Walk) : Type 0 where
  pub views : walk.views ≡ map view walk.numbers
  pub found : walk.found ≡ found_of size view usable root walk.rowid
  pub faults : walk.faults ≡ faults_of size view usable root

-- a page with one view and then another is held as before; it has the same view where it may be an overflow page of the tree; and
-- so it has where it may be a b-tree page of it, unless it is a leaf that says the same of the rowid
pub record IsSteadyPage (usable number : ℕ) (rowid : ℤ) (before now : Option (List ℕ)) (node chain : Bool) : Type 0 where
  pub held : is_some now ≡ is_some before
  pub leaf : node ≡ true → (now ≡ before) ⊎ StaysLeaf usable number rowid before now
  pub same : chain ≡ true → now ≡ before

-- so is the page of a rank
abbrev pub IsSteadyAt : ℕ → ℤ → List ℕ → List (Option (List ℕ)) → (ℕ → Option (List ℕ)) → List Bool → List Bool → ℕ → Type 0
IsSteadyAt usable rowid numbers views view nodes chains rank =
    IsSteadyPage usable (slice_index numbers rank) rowid (view_at views rank) (view (slice_index numbers rank)) (is_marked nodes rank) (is_marked chains rank)

-- so are all pages whose ranks are listed
abbrev pub AreSteady : ℕ → ℤ → List ℕ → List (Option (List ℕ)) → (ℕ → Option (List ℕ)) → List Bool → List Bool → List ℕ → Type 0
AreSteady usable rowid numbers views view nodes chains changed = (rank : ℕ) → Contains changed rank → IsSteadyAt usable rowid numbers views view nodes chains rank

-- what is kept of the pages of a moment: the view of each by rank, and marks on those that a walk over the tree of a root may go to
pub record IsWatched (numbers : List ℕ) (views : List (Option (List ℕ))) (usable root : ℕ) (nodes chains : List Bool) : Type 0 where
  pub view : ℕ → Option (List ℕ)
  pub covered : Covers numbers view
  pub views_are : views ≡ map view numbers
  pub least : 480 ≤ usable
  pub whole : (number : ℕ) → IsWhole usable (view number)
  pub marked : AreMarked numbers views usable root nodes chains

-- and what the tree says of the rowid, where the moment has so many pages
pub record IsStanding (numbers : List ℕ) (views : List (Option (List ℕ))) (size usable root : ℕ) (rowid : ℤ) (history : History) (nodes chains : List Bool) : Type 0 where
  pub watched : IsWatched numbers views usable root nodes chains
  pub found_is : items_by history ≡ found_of size watched.view usable root rowid
  pub faults_are : faults_by history ≡ faults_of size watched.view usable root

-- so it is, where it is said to
abbrev pub IfStanding : Bool → List ℕ → List (Option (List ℕ)) → ℕ → ℕ → ℕ → ℤ → History → List Bool → List Bool → Type 0
IfStanding false numbers views size usable root rowid history nodes chains = ⊤
IfStanding true numbers views size usable root rowid history nodes chains = IsStanding numbers views size usable root rowid history nodes chains
