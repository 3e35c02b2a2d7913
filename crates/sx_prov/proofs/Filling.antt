-- Labels that are put one behind the other.
use Rattle.std.proofs.Common.{◌≡◌, ℕ, zero, suc, ◌+◌, ◌-◌, ◌<◌, ◌≤◌, List, [], ◌∷◌, ◌++◌, length, replicate, map, min, nat_lt, if◌then◌else◌, refl, sym, ap, subst, ◌∙◌, arith, append_assoc}
use Rattle.std.specs.List.{range_with_len}
use Rattle.std.proofs.lemmas.List.{append-nil, replicate_more}
use Rattle.std.proofs.lemmas.List.FromFn.{length-map-range_with_len, map-range_with_len_more, get_or-map-range_with_len, fill_by_all}
use borrow.Author.Tests.{lt-ltb, le-ltb}
use Rattle.sx_base.specs.declared.label.Label.{Label}
use Rattle.sx_base.specs.declared.label.Label.TheVariants.{Link, Body, Tail, Gap, Fragment}
use Rattle.sx_seglist.specs.declared.claimed.Claimed.TheVariants.{None}
use Rattle.sx_prov.specs.Labels.{body_label}
use Rattle.sx_prov.specs.Filling.{up_to, state_label, Fills}

pub length_up_to : (whole : ℕ → Label) (count : ℕ) → length (up_to whole count) ≡ count
unfolding up_to
length_up_to whole count = length-map-range_with_len whole 0 count

up_to_more : (whole : ℕ → Label) (count : ℕ) (label : Label) → whole count ≡ label → up_to whole count ++ label ∷ [] ≡ up_to whole (count + 1)
unfolding up_to
up_to_more whole count label is =
    ap (λ one. map whole (range_with_len 0 count) ++ one ∷ []) (sym is) ∙ sym (map-range_with_len_more whole 0 count count (omega arith))

repeat_up_to : (more : ℕ) (whole : ℕ → Label) (from : ℕ) (label : Label) → ((at : ℕ) → from ≤ at → at < from + more → whole at ≡ label)
    → up_to whole from ++ replicate more label ≡ up_to whole (from + more)
repeat_up_to zero whole from label is = append-nil (up_to whole from) ∙ ap (up_to whole) (omega arith)
repeat_up_to (suc more) whole from label is =
    let next : more + 1 ≡ suc more = omega arith in
    let far : from + more + 1 ≡ from + suc more = omega arith in
    ap (λ labels. up_to whole from ++ labels) (ap (λ count. replicate count label) (sym next) ∙ sym (replicate_more more label))
    ∙ sym (append_assoc (up_to whole from) (replicate more label) (label ∷ []))
    ∙ ap (λ labels. labels ++ label ∷ []) (repeat_up_to more whole from label (λ at low high. is at low (omega arith)))
    ∙ up_to_more whole (from + more) label (is (from + more) (omega arith) (omega arith))
    ∙ ap (up_to whole) far

-- up to an end that may lie before the place that was reached
pub put_more : (whole : ℕ → Label) (old : List Label) (from end : ℕ) (label : Label) → old ≡ up_to whole from → ((at : ℕ) → from ≤ at → at < end → whole at ≡ label)
    → old ++ replicate (end - length old) label ≡ up_to whole (from + (end - from))
put_more whole old from end label is same =
    let long : length old ≡ from = ap length is ∙ length_up_to whole from in
    ap (λ labels. labels ++ replicate (end - length old) label) is
    ∙ ap (λ len. up_to whole from ++ replicate (end - len) label) long
    ∙ repeat_up_to (end - from) whole from label (λ at low high. same at low (omega arith))

pub put_all : (whole : ℕ → Label) (old : List Label) (end : ℕ) (label : Label) → old ≡ [] → ((at : ℕ) → at < end → whole at ≡ label) → old ++ replicate (end - length old) label ≡ up_to whole end
unfolding up_to
put_all whole old end label is same = put_more whole old 0 end label is (λ at low high. same at high) ∙ ap (up_to whole) (omega arith)

pub put_fills : (labels : ℕ → Label) (old : List Label) (end : ℕ) (label : Label) → length old ≤ end → ((at : ℕ) → labels at ≡ label)
    → Fills labels (length old) end old (old ++ replicate (end - length old) label)
put_fills labels old end label behind same whole is agree =
    put_more whole old (length old) end label is (λ at low high. agree at low high ∙ same at) ∙ ap (up_to whole) (omega arith)

-- ---- the labels of one page after the other

front_is : (middle at : ℕ) (front back : Label) → at < middle → (if nat_lt at middle then front else back) ≡ front
front_is middle at front back below = rw (lt-ltb at middle below) refl

back_is : (middle at : ℕ) (front back : Label) → middle ≤ at → (if nat_lt at middle then front else back) ≡ back
back_is middle at front back past = rw (le-ltb at middle past) refl

pub two_labels : (old some new : List Label) (middle usable : ℕ) (front back : Label) → old ≡ [] → middle ≤ usable
    → some ≡ old ++ replicate (middle - length old) front → new ≡ some ++ replicate (usable - length some) back
    → new ≡ up_to (λ at. if nat_lt at middle then front else back) usable
two_labels old some new middle usable front back none below first second =
    let whole : ℕ → Label = λ at. if nat_lt at middle then front else back in
    let one : some ≡ up_to whole middle = first ∙ put_all whole old middle front none (λ at high. front_is middle at front back high) in
    second ∙ put_more whole some middle usable back one (λ at low high. back_is middle at front back low) ∙ ap (up_to whole) (omega arith)

pub body_labels : (old first second third : List Label) (count usable held : ℕ) → held ≡ min count (usable - 4) → old ≡ [] → 480 ≤ usable
    → first ≡ old ++ replicate (4 - length old) Link
    → second ≡ first ++ replicate (4 + held - length first) Body
    → third ≡ second ++ replicate (usable - length second) Tail
    → third ≡ up_to (body_label count) usable
body_labels old first second third count usable held is none least one two three =
    let end = 4 + held in
    let linked : first ≡ up_to (body_label count) 4 = one ∙ put_all (body_label count) old 4 Link none (λ at high. front_is 4 at Link (if nat_lt at (4 + count) then Body else Tail) high) in
    let bodied : second ≡ up_to (body_label count) end =
    two ∙ put_more (body_label count) first 4 end Body linked
    (λ at low high. back_is 4 at Link (if nat_lt at (4 + count) then Body else Tail) low ∙ front_is (4 + count) at Body Tail (omega arith))
    ∙ ap (up_to (body_label count)) (omega arith) in
    three ∙ put_more (body_label count) second end usable Tail bodied
    (λ at low high. back_is 4 at Link (if nat_lt at (4 + count) then Body else Tail) (omega arith) ∙ back_is (4 + count) at Body Tail (omega arith))
    ∙ ap (up_to (body_label count)) (omega arith)

pub gap_labels : (old some new : List Label) (end content gap : ℕ) → gap ≡ min end content → length old ≤ end
    → some ≡ old ++ replicate (gap - length old) Gap → new ≡ some ++ replicate (end - length some) Fragment
    → Fills (state_label content None) (length old) end old new
gap_labels old some new end content gap least behind first second whole is agree =
    let from = length old in
    let middle = from + (gap - from) in
    let one : some ≡ up_to whole middle =
    first ∙ put_more whole old from gap Gap is (λ at low high. agree at low (omega arith) ∙ front_is content at Gap Fragment (omega arith)) in
    second ∙ put_more whole some middle end Fragment one (λ at low high. agree at (omega arith) high ∙ back_is content at Gap Fragment (omega arith))
    ∙ ap (up_to whole) (omega arith)

pub up_to_same : (one other : ℕ → Label) (count : ℕ) → ((at : ℕ) → at < count → one at ≡ other at) → up_to one count ≡ up_to other count
unfolding up_to
up_to_same one other count same =
    fill_by_all other (map one (range_with_len 0 count)) count Gap (length-map-range_with_len one 0 count)
    (λ at within. get_or-map-range_with_len one 0 count at at Gap within (omega arith) ∙ same at within)

pub one_fills : (old new : List Label) (end : ℕ) (label : Label) → length old ≤ end → new ≡ old ++ replicate (end - length old) label → Fills (λ at. label) (length old) end old new
one_fills old new end label behind is = subst (Fills (λ at. label) (length old) end old) (sym is) (put_fills (λ at. label) old end label behind (λ at. refl))

pub one_map : (old new : List Label) (len : ℕ) (label : Label) → old ≡ [] → new ≡ old ++ replicate (len - length old) label → new ≡ map (λ at. label) (range_with_len 0 len)
unfolding up_to
one_map old new len label none is = is ∙ put_all (λ at. label) old len label none (λ at below. refl)

pub one_long : (old new : List Label) (len : ℕ) (label : Label) → old ≡ [] → new ≡ old ++ replicate (len - length old) label → length new ≡ len
one_long old new len label none is = ap length (one_map old new len label none is) ∙ length-map-range_with_len (λ at. label) 0 len
