-- The maximal runs of bytes of a page with one label. Bytes count from 0.
use Rattle.std.specs.Prelude.{◌≡◌, ◌≢◌, ℕ, ◌+◌, ◌<◌, ◌==◌, ◌&&◌, Bool, if◌then◌else◌, List, [], ◌∷◌, ◌++◌, replicate}
use Rattle.sx_base.specs.declared.evidence.Span.{Span}
use Rattle.sx_base.specs.declared.label.Label.{Label}
use Rattle.sx_base.specs.declared.label.Label.TheVariants.{DbHeader, LockPage, Reserved, NodeHeader, Pointers, Cell, Entries, TrunkHead, Link, Body, Freeblock, Gap, Fragment, MapRest, TrunkRest, FreeLeaf, Unreached, Tail, BadHead, Absent, DoubleClaim, BadNode, BadArray, BadTrunk, Behind, LongChain, Overlap}

-- the labels, numbered to tell them apart
abbrev pub label_number : Label → ℕ
label_number DbHeader = 0
label_number LockPage = 1
label_number Reserved = 2
label_number NodeHeader = 3
label_number Pointers = 4
label_number (Cell index) = 5
label_number Entries = 6
label_number TrunkHead = 7
label_number Link = 8
label_number Body = 9
label_number (Freeblock index) = 10
label_number Gap = 11
label_number Fragment = 12
label_number MapRest = 13
label_number TrunkRest = 14
label_number FreeLeaf = 15
label_number Unreached = 16
label_number Tail = 17
label_number BadHead = 18
label_number Absent = 19
label_number DoubleClaim = 20
label_number BadNode = 21
label_number BadArray = 22
label_number BadTrunk = 23
label_number Behind = 24
label_number LongChain = 25
label_number Overlap = 26

-- the number of a cell or of a freeblock
abbrev pub label_index : Label → ℕ
label_index (Cell index) = index
label_index (Freeblock index) = index
label_index _ = 0

-- the same label
unfoldable pub is_same : Label → Label → Bool
is_same one other = (label_number one == label_number other) && (label_index one == label_index other)

-- so many bytes from a place on have a label
abbrev pub run_of : ℕ → ℕ → Label → Span × Label
run_of start len label = (record { start = start; len = len }, label)

-- a byte with a label in front of runs: it joins the first of them where that has the same label
abbrev pub joined : ℕ → Label → List (Span × Label) → List (Span × Label)
joined at label [] = run_of at 1 label ∷ []
joined at label (run ∷ runs) = if is_same label run.1 then run_of at (run.0.len + 1) label ∷ runs else run_of at 1 label ∷ run ∷ runs

-- the runs of labels of which the first is that of a place
unfoldable pub runs_from : ℕ → List Label → List (Span × Label)
runs_from at [] = []
runs_from at (label ∷ labels) = joined at label (runs_from (at + 1) labels)

-- the runs of the labels of a page
abbrev pub runs_of : List Label → List (Span × Label)
runs_of labels = runs_from 0 labels

-- labels don't begin with this one
abbrev pub BeginOther : Label → List Label → Type 0
BeginOther label [] = Unit {0}
BeginOther label (other ∷ labels) = label ≢ other

-- they are the maximal runs of labels of which the first is that of a place: a run has a byte, begins where the one before
-- it ends, its label is that of each of its bytes, and the byte behind it has another one
abbrev pub AreRuns : ℕ → List Label → List (Span × Label) → Type 0
AreRuns at labels [] = labels ≡ []
AreRuns at labels (run ∷ runs) =
    (rest : List Label) × ((run.0.start ≡ at) × (0 < run.0.len) × (labels ≡ replicate run.0.len run.1 ++ rest) × BeginOther run.1 rest × AreRuns (at + run.0.len) rest runs)
