-- The words of labels.
use Rattle.std.specs.Prelude.{ℕ, List, [], ◌++◌, codes}
use Rattle.std.specs.Fmt.{decimal}
use Rattle.sx_base.specs.declared.label.Label.{Label}
use Rattle.sx_base.specs.declared.label.Label.TheVariants.{DbHeader, LockPage, Reserved, NodeHeader, Pointers, Cell, Entries, TrunkHead, Link, Body, Freeblock, Gap, Fragment, MapRest, TrunkRest, FreeLeaf, Unreached, Tail, BadHead, Absent, DoubleClaim, BadNode, BadArray, BadTrunk, Behind, LongChain, Overlap}

-- a label's name
abbrev pub label_name : Label → List ℕ
label_name DbHeader = codes "dbheader"
label_name LockPage = codes "lockpage"
label_name Reserved = codes "reserved"
label_name NodeHeader = codes "nodeheader"
label_name Pointers = codes "pointers"
label_name (Cell index) = codes "cell"
label_name Entries = codes "entries"
label_name TrunkHead = codes "trunkhead"
label_name Link = codes "link"
label_name Body = codes "body"
label_name (Freeblock number) = codes "freeblock"
label_name Gap = codes "gap"
label_name Fragment = codes "fragment"
label_name MapRest = codes "maprest"
label_name TrunkRest = codes "trunkrest"
label_name FreeLeaf = codes "freeleaf"
label_name Unreached = codes "unreached"
label_name Tail = codes "tail"
label_name BadHead = codes "badhead"
label_name Absent = codes "absent"
label_name DoubleClaim = codes "doubleclaim"
label_name BadNode = codes "badnode"
label_name BadArray = codes "badarray"
label_name BadTrunk = codes "badtrunk"
label_name Behind = codes "behind"
label_name LongChain = codes "longchain"
label_name Overlap = codes "overlap"

-- the number behind the name of a cell or of a freeblock
abbrev pub label_number : Label → List ℕ
label_number (Cell index) = codes " " ++ decimal index
label_number (Freeblock number) = codes " " ++ decimal number
label_number label = []

-- a label's word
abbrev pub label_word : Label → List ℕ
label_word label = label_name label ++ label_number label
