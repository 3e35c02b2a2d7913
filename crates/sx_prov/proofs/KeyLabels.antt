-- The labels that a key gives.
use Rattle.std.proofs.Common.{◌≡◌, ℕ, ◌-◌, ◌/◌, ◌<◌, ◌≤◌, Bool, true, false, cond, nat_le, nat_lt, List, ◌++◌, length, replicate, Ok, Err, refl, sym, ap, ◌∙◌, arith}
use Rattle.std.proofs.lemmas.List.FromFn.{length-map-range_with_len}
use Rattle.sx_base.specs.declared.label.Label.{Label}
use Rattle.sx_base.specs.declared.label.Label.TheVariants.{Reserved}
use Rattle.sx_free.specs.declared.trunk.TrunkFault.TheVariants.{BadCount}
use Rattle.sx_free.specs.Trunks.{TrunkPage, leaf_count, trunk_of}
use Rattle.sx_prov.specs.declared.key.PageKey.{PageKey}
use Rattle.sx_prov.specs.Keys.{standing_label, key_label, keyed_labels}
use Rattle.sx_prov.specs.Filling.{up_to}
use Rattle.sx_prov.proofs.Filling.{up_to_same, put_more}
use borrow.Author.Tests.{le-leb, leb-true}

not_le : (a b : ℕ) → b < a → (t : Bool) → nat_le a b ≡ t → nat_le a b ≡ false
not_le a b below true is = absurd (let past = leb-true a b is in omega arith)
not_le a b below false is = is

pub used_is : (key : PageKey) (bytes : List ℕ) (at : ℕ) → at < key.usable → standing_label key.standing bytes key.usable at ≡ key_label key bytes at
unfolding key_label
used_is key bytes at below =
    ap (λ b. cond b Reserved (standing_label key.standing bytes key.usable at)) (sym (not_le key.usable at below (nat_le key.usable at) refl))

pub rest_is : (key : PageKey) (bytes : List ℕ) (at : ℕ) → key.usable ≤ at → key_label key bytes at ≡ Reserved
unfolding key_label
rest_is key bytes at past = ap (λ b. cond b Reserved (standing_label key.standing bytes key.usable at)) (le-leb key.usable at past)

pub keyed_whole : (key : PageKey) (bytes : List ℕ) (old new : List Label) (len : ℕ) → old ≡ up_to (standing_label key.standing bytes key.usable) key.usable
    → new ≡ old ++ replicate (len - length old) Reserved → len ≡ length bytes → key.usable ≤ length bytes → new ≡ keyed_labels key bytes
unfolding keyed_labels up_to
keyed_whole key bytes old new len used is long within =
    let front : old ≡ up_to (key_label key bytes) key.usable =
    used ∙ up_to_same (standing_label key.standing bytes key.usable) (key_label key bytes) key.usable (λ at below. used_is key bytes at below) in
    is ∙ put_more (key_label key bytes) old key.usable len Reserved front (λ at low high. rest_is key bytes at low) ∙ ap (up_to (key_label key bytes)) (omega arith)

trunk_case : (usable : ℕ) (trunk found : TrunkPage) (b : Bool) → found.usable ≡ usable → cond b (Err BadCount) (Ok found) ≡ Ok trunk → trunk.usable ≡ usable
trunk_case usable trunk found true same is = let never : Err BadCount ≡ Ok trunk = is in cc
trunk_case usable trunk found false same is = let both : Ok found ≡ Ok trunk = is in let equal : found ≡ trunk = cc in ap (λ t. t.usable) (sym equal) ∙ same

pub trunk_usable : (bytes : List ℕ) (usable : ℕ) (trunk : TrunkPage) → trunk_of bytes usable ≡ Ok trunk → trunk.usable ≡ usable
unfolding trunk_of
trunk_usable bytes usable trunk is =
    trunk_case usable trunk (record { page = bytes; usable = usable }) (nat_lt (usable / 4 - 2) (leaf_count (record { page = bytes; usable = usable }))) refl is

pub keyed_long : (key : PageKey) (bytes : List ℕ) (made : List Label) → made ≡ keyed_labels key bytes → length made ≡ length bytes
unfolding keyed_labels
keyed_long key bytes made is = ap length is ∙ length-map-range_with_len (key_label key bytes) 0 (length bytes)
