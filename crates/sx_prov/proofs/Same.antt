-- Labels are told apart by their numbers.
use Rattle.std.proofs.Common.{◌≡◌, ◌≢◌, ℕ, ◌==◌, ◌&&◌, Bool, true, false, cond, refl, sym, ap, ◌∙◌}
use Rattle.std.proofs.lemmas.Bool.{and_parts, eqb-true, eq-eqb}
use Rattle.sx_base.specs.declared.label.Label.{Label}
use Rattle.sx_base.specs.declared.label.Label.TheVariants.{DbHeader, LockPage, Reserved, NodeHeader, Pointers, Cell, Entries, TrunkHead, Link, Body, Freeblock, Gap, Fragment, MapRest, TrunkRest, FreeLeaf, Unreached, Tail, BadHead, Absent, DoubleClaim, BadNode, BadArray, BadTrunk, Behind, LongChain, Overlap}
use Rattle.sx_prov.specs.Runs.{label_number, label_index, is_same}

-- the label of a number and an index
abbrev pub label_with : ℕ → ℕ → Label
label_with number index =
    cond (number == 0) DbHeader (cond (number == 1) LockPage (cond (number == 2) Reserved (cond (number == 3) NodeHeader (cond (number == 4) Pointers (cond (number == 5) (Cell index) (cond (number == 6) Entries (cond (number == 7) TrunkHead (cond (number == 8) Link (cond (number == 9) Body (cond (number == 10) (Freeblock index) (cond (number == 11) Gap (cond (number == 12) Fragment (cond (number == 13) MapRest (cond (number == 14) TrunkRest (cond (number == 15) FreeLeaf (cond (number == 16) Unreached (cond (number == 17) Tail (cond (number == 18) BadHead (cond (number == 19) Absent (cond (number == 20) DoubleClaim (cond (number == 21) BadNode (cond (number == 22) BadArray (cond (number == 23) BadTrunk (cond (number == 24) Behind (cond (number == 25) LongChain (Overlap))))))))))))))))))))))))))

pub with_is : (label : Label) → label_with (label_number label) (label_index label) ≡ label
with_is DbHeader = refl
with_is LockPage = refl
with_is Reserved = refl
with_is NodeHeader = refl
with_is Pointers = refl
with_is (Cell index) = refl
with_is Entries = refl
with_is TrunkHead = refl
with_is Link = refl
with_is Body = refl
with_is (Freeblock index) = refl
with_is Gap = refl
with_is Fragment = refl
with_is MapRest = refl
with_is TrunkRest = refl
with_is FreeLeaf = refl
with_is Unreached = refl
with_is Tail = refl
with_is BadHead = refl
with_is Absent = refl
with_is DoubleClaim = refl
with_is BadNode = refl
with_is BadArray = refl
with_is BadTrunk = refl
with_is Behind = refl
with_is LongChain = refl
with_is Overlap = refl

pub same_is : (one other : Label) → is_same one other ≡ true → one ≡ other
unfolding is_same
same_is one other same =
    let parts = and_parts (label_number one == label_number other) (label_index one == label_index other) same in
    sym (with_is one)
    ∙ ap (λ number. label_with number (label_index one)) (eqb-true (label_number one) (label_number other) parts.0)
    ∙ ap (label_with (label_number other)) (eqb-true (label_index one) (label_index other) parts.1)
    ∙ with_is other

both_true : (a b : Bool) → a ≡ true → b ≡ true → (a && b) ≡ true
both_true a b one other = rw one other

pub same_self : (label : Label) → is_same label label ≡ true
unfolding is_same
same_self label =
    both_true (label_number label == label_number label) (label_index label == label_index label)
    (eq-eqb (label_number label) (label_number label) refl) (eq-eqb (label_index label) (label_index label) refl)

by_test : (one other : Label) → one ≢ other → (b : Bool) → is_same one other ≡ b → is_same one other ≡ false
by_test one other differ true same = absurd (differ (same_is one other same))
by_test one other differ false same = same

pub other_is : (one other : Label) → one ≢ other → is_same one other ≡ false
other_is one other differ = by_test one other differ (is_same one other) refl
