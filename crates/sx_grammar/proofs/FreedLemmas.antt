-- A freed cell has one of the forms.
use Rattle.std.proofs.Common.{◌≡◌, ◌⊎◌, inl, inr, ℕ, zero, suc, ◌+◌, ◌-◌, ◌*◌, ◌%◌, ◌<◌, ◌≤◌, ◌==◌, Bool, true, false, List, [], ◌∷◌, ◌++◌, length, take, drop, map, Option, Some, None, is_some, IsSome, rules, refl, sym, ap, subst, ◌∙◌, arith, length-append, length-drop, append_assoc}
use Rattle.std.proofs.lemmas.List.{drop_at, take-append-drop, length-take-le, drop-append-le}
use Rattle.std.proofs.Math.Seq.{drop-append-add}
use Rattle.std.proofs.lemmas.Bool.Decides.{nat_tests}
use Rattle.sx_base.specs.Bytes.{two_bytes_at}
use Rattle.sx_bytes.specs.Varints.{IsRest, IsVarint, shortest}
use Rattle.sx_record.specs.SerialTypes.{body_len}
use Rattle.sx_record.specs.Records.{bodies_len}
use Rattle.sx_grammar.specs.declared.form.Form.{Form}
use Rattle.sx_grammar.specs.declared.form.Form.TheVariants.{Full, Tail, Types, Lost}
use Rattle.sx_grammar.specs.declared.shape.ShapeKey.{ShapeKey}
use Rattle.sx_grammar.specs.Shorts.{AreTypes, Finds}
use Rattle.sx_grammar.specs.Sightings.{Sighting, sighted, seen, lost}
use Rattle.sx_grammar.specs.Records.{IsHeader}
use Rattle.sx_grammar.specs.Clips.{Setting, Fits, EndsRowid, IsTail}
use Rattle.sx_grammar.specs.Fronts.{IsTyped, IsFirst, IsLost}
use Rattle.std.specs.List.{range_with_len}
use Rattle.sx_grammar.specs.Choice.{Among, HasForm, or_else, first_of, typed_form, lost_form, forms_of, sighting_at, accepted_at}
use Rattle.sx_grammar.specs.Freed.{IsCell, shape_of, IsCase, IsHidden, IsKnown, IsFreed}
use Rattle.sx_grammar.proofs.FullLemmas.{full_again}
use Rattle.sx_grammar.proofs.ClipLemmas.{tail_again}
use Rattle.sx_grammar.proofs.FrontLemmas.{short_is, types_back, lost_back}

-- ---- the end of a rowid

ends_last : (nine : Bool) (byte : ℕ) → (nine ≡ false → byte < 128) → EndsRowid nine (byte ∷ [])
ends_last true byte low = tt
ends_last false byte low = low refl

ends_rest : (bytes : List ℕ) (read high value : ℕ) → IsRest read high bytes value → EndsRowid (read + length bytes == 9) bytes
ends_rest [] read high value is = absurd is
ends_rest (b ∷ []) read high value (inl is) =
    ends_last (read + 1 == 9) b (λ free. let same : (read + 1 == 9) ≡ true = (let at = is.0 in grind (arith, nat_tests)) in absurd (cc))
ends_rest (b ∷ []) read high value (inr is) = ends_last (read + 1 == 9) b (λ free. is.1)
ends_rest (b ∷ c ∷ bs) read high value is =
    let count : read + 1 + length (c ∷ bs) ≡ read + length (b ∷ c ∷ bs) = omega arith in
    (is.1, subst (λ n. EndsRowid (n == 9) (c ∷ bs)) count (ends_rest (c ∷ bs) (read + 1) (high * 128 + b % 128) value is.2))

ends_drop : (k : ℕ) (nine : Bool) (bytes : List ℕ) → EndsRowid nine bytes → EndsRowid nine (drop k bytes)
ends_drop zero nine bytes ends = ends
ends_drop (suc k) nine [] ends = tt
ends_drop (suc k) nine (byte ∷ []) ends = ends_drop k nine [] tt
ends_drop (suc k) nine (byte ∷ next ∷ bytes) ends = ends_drop k nine (next ∷ bytes) ends.1

pub rowid_ends : (text : List ℕ) (value k : ℕ) → IsVarint text value → EndsRowid (length text == 9) (drop k text)
rowid_ends text value k spells =
    let count : 0 + length text ≡ length text = omega arith in
    ends_drop k (length text == 9) text (subst (λ n. EndsRowid (n == 9) text) count (ends_rest text 0 0 value spells))

-- ---- lengths

pub some_bytes : (text : List ℕ) (value : ℕ) → IsVarint text value → 0 < length text
some_bytes [] value spells = absurd spells
some_bytes (byte ∷ text) value spells = omega arith

shortest_nine : (value : ℕ) → shortest value ≤ 9
unfolding shortest
shortest_nine value = grind (arith, nat_tests)

shortest_three : (value : ℕ) → value ≤ 65536 → shortest value ≤ 3
unfolding shortest
shortest_three value small = grind (arith, nat_tests)

shortest_one : (value : ℕ) → shortest value ≡ 1 → value ≤ 127
unfolding shortest
shortest_one value one = grind (arith, nat_tests)

body_small : (type : ℕ) → type ≤ 127 → body_len type ≤ 57
unfolding body_len
body_small type small = grind (arith, nat_tests)

-- ---- what is behind the four bytes

behind_four : (a b c : List ℕ) (k : ℕ) → length a + (length b + k) ≡ 4 → drop 4 (a ++ (b ++ c)) ≡ drop k c
behind_four a b c k count = ap (λ n. drop n (a ++ (b ++ c))) (sym count) ∙ drop-append-add a (b ++ c) (length b + k) ∙ drop-append-add b c k

behind_two : (a b c : List ℕ) → length a ≡ 1 → length b ≡ 1 → drop 2 (a ++ (b ++ c)) ≡ c
behind_two a b c one other =
    let count : 2 ≡ length a + (length b + 0) = omega arith in
    ap (λ n. drop n (a ++ (b ++ c))) count ∙ drop-append-add a (b ++ c) (length b + 0) ∙ drop-append-add b c 0

inside_second : (a b c : List ℕ) (k : ℕ) → length a + k ≡ 4 → k ≤ length b → drop 4 (a ++ (b ++ c)) ≡ drop k b ++ c
inside_second a b c k count within = ap (λ n. drop n (a ++ (b ++ c))) (sym count) ∙ drop-append-add a (b ++ c) k ∙ drop-append-le k b c within

split_span : (span back : List ℕ) → drop 4 span ≡ back → span ≡ take 4 span ++ back
split_span span back is = sym (take-append-drop 4 span) ∙ ap (λ tail. take 4 span ++ tail) is

pub types_some : (types text : List ℕ) → AreTypes types text → 0 < length types → 0 < length text
types_some [] text spelled some = absurd (omega arith)
types_some (type ∷ types) text spelled some =
    omega (arith, some_bytes spelled.0 type spelled.3.spells, ap length spelled.2, length-append spelled.0 spelled.1)

-- what freed cells share: the span, cut behind its first four bytes
record Cut (shapes : List ShapeKey) (setting : Setting) (span : List ℕ) (cell : List ℕ) : Type 0 where
  pub is : IsCell setting.longest cell
  pub long : length cell ≡ length span
  pub same : drop 4 cell ≡ drop 4 span
  pub next : (two_bytes_at (take 4 span) 0 ≡ 0) ⊎ (setting.offset + two_bytes_at (take 4 span) 2 ≤ two_bytes_at (take 4 span) 0)

-- four bytes or more: a tail
tail_case : (shapes : List ShapeKey) (setting : Setting) (span cell : List ℕ) (cut : Cut shapes setting span cell) → setting.longest ≤ 65536
    → 4 ≤ length cut.is.payload_text + length cut.is.rowid_text → Fits setting.block (length span) (two_bytes_at (take 4 span) 2)
    → (sighting : Sighting) × IsTail (length cut.is.payload_text + length cut.is.rowid_text - 4) setting span sighting
tail_case shapes setting span cell cut small enough fits =
    let c = cut.is in
    let e = length c.payload_text + length c.rowid_text - 4 in
    let k = 4 - length c.payload_text in
    let end = drop k c.rowid_text in
    let least = c.size.least in
    let few_bytes = shortest_three c.payload (omega (arith, c.local)) in
    let back : drop 4 span ≡ end ++ (c.header ++ c.bodies)
    = sym cut.same ∙ ap (drop 4) c.parts ∙ inside_second c.payload_text c.rowid_text (c.header ++ c.bodies) k (omega arith) (omega arith) in
    let parts = split_span span (end ++ (c.header ++ c.bodies)) back in
    let end_long : length end ≡ length c.rowid_text - k = length-drop k c.rowid_text in
    let all : length cell ≡ length c.payload_text + (length c.rowid_text + length (c.header ++ c.bodies))
    = omega (arith, ap length c.parts, length-append c.payload_text (c.rowid_text ++ (c.header ++ c.bodies)), length-append c.rowid_text (c.header ++ c.bodies)) in
    let four_long : length (take 4 span) ≡ 4 = length-take-le 4 span (omega (arith, cut.long)) in
    let payload = c.whole in (
      sighted (Tail e) (length span) None None (seen c.types c.bodies),
      record {
        four = take 4 span;
        end = end;
        header = c.header;
        types_text = c.types_text;
        types = c.types;
        bodies = c.bodies;
        rowid_len = length c.rowid_text;
        parts = parts;
        cut = record { long = four_long; next = cut.next; fits = fits };
        long = omega arith;
        typed = c.typed;
        few = c.few;
        filled = c.filled;
        local = omega (arith, c.local);
        lengths = record {
          least = some_bytes c.rowid_text c.rowid c.key.spells;
          most = omega (arith, c.key.least, shortest_nine c.rowid);
          sum = omega (arith, ap shortest c.whole);
        };
        ends = rowid_ends c.rowid_text c.rowid k c.key.spells;
        is = refl;
      },
    )

-- a header of at most 127 bytes begins with one byte for its size
pub size_one : (header types_text types : List ℕ) (typed : IsHeader header types_text types) → length header ≤ 127 → length typed.size_text ≡ 1
size_one header types_text types typed few = typed.size.least ∙ short_is (length header) few

header_long : (header types_text types : List ℕ) (typed : IsHeader header types_text types) → length header ≤ 127 → length header ≡ 1 + length types_text
header_long header types_text types typed few =
    omega (arith, ap length typed.parts, length-append typed.size_text types_text, size_one header types_text types typed few)

-- three bytes: the header's size is the fourth
types_case : (shapes : List ShapeKey) (setting : Setting) (span cell : List ℕ) (cut : Cut shapes setting span cell) → setting.longest ≤ 65536
    → length cut.is.payload_text + length cut.is.rowid_text ≡ 3 → Fits setting.block (length span) (two_bytes_at (take 4 span) 2)
    → (sighting : Sighting) × IsTyped (length cut.is.types) setting span sighting
types_case shapes setting span cell cut small three fits =
    let c = cut.is in
    let one = size_one c.header c.types_text c.types c.typed c.few in
    let header = header_long c.header c.types_text c.types c.typed c.few in
    let least = c.size.least in
    let body = c.typed.size_text ++ (c.types_text ++ c.bodies) in
    let joined : c.header ++ c.bodies ≡ body = ap (λ h. h ++ c.bodies) c.typed.parts ∙ append_assoc c.typed.size_text c.types_text c.bodies in
    let back : drop 4 span ≡ c.types_text ++ c.bodies
    = sym cut.same ∙ ap (drop 4) (c.parts ∙ ap (λ r. c.payload_text ++ (c.rowid_text ++ r)) joined)
    ∙ behind_four c.payload_text c.rowid_text body 1 (omega arith) ∙ drop_at c.typed.size_text (c.types_text ++ c.bodies) 1 one in
    let parts = split_span span (c.types_text ++ c.bodies) back in
    let all : length cell ≡ length c.payload_text + (length c.rowid_text + length (c.header ++ c.bodies))
    = omega (arith, ap length c.parts, length-append c.payload_text (c.rowid_text ++ (c.header ++ c.bodies)), length-append c.rowid_text (c.header ++ c.bodies)) in
    let inner : length (c.header ++ c.bodies) ≡ 1 + length (c.types_text ++ c.bodies) = omega (arith, length-append c.header c.bodies, length-append c.types_text c.bodies) in
    let four_long : length (take 4 span) ≡ 4 = length-take-le 4 span (omega (arith, cut.long)) in
    let payload : c.payload ≡ 1 + length (c.types_text ++ c.bodies) = c.whole ∙ inner in (
      sighted (Types (length c.types)) (length span) None None (seen c.types c.bodies),
      record {
        four = take 4 span;
        types_text = c.types_text;
        types = c.types;
        bodies = c.bodies;
        rowid_len = length c.rowid_text;
        parts = parts;
        cut = record { long = four_long; next = cut.next; fits = fits };
        spelled = c.typed.spelled;
        count = refl;
        some = c.typed.some;
        few = omega (arith, c.few);
        filled = c.filled;
        local = omega (arith, c.local);
        lengths = record {
          least = some_bytes c.rowid_text c.rowid c.key.spells;
          most = omega arith;
          sum = omega (arith, ap shortest payload);
        };
        is = refl;
      },
    )

-- the first body, by its case
case_first : (shapes : List ShapeKey) (alias : Bool) (columns type : ℕ) (block : Bool) (len size : ℕ) (body : List ℕ) → IsCase shapes alias columns type block len size
    → length body ≡ body_len type → type ≤ 127 → IsFirst alias body len size
case_first shapes true columns type block len size body is long small = long ∙ is.1
case_first shapes false columns type block len size body is long small = (omega (arith, long, body_small type small), is.1)

fits_exact : (block : Bool) (len size : ℕ) → len ≡ size → Fits block len size
fits_exact true len size same = omega arith
fits_exact false len size same = same

case_fits : (shapes : List ShapeKey) (alias : Bool) (columns type : ℕ) (block : Bool) (len size : ℕ) → IsCase shapes alias columns type block len size → Fits block len size
case_fits shapes true columns type block len size is = is.2
case_fits shapes false columns type block len size is = fits_exact block len size is.1

case_among : (shapes : List ShapeKey) (alias : Bool) (columns type : ℕ) (block : Bool) (len size : ℕ) → IsCase shapes alias columns type block len size → Among (shape_of columns alias) shapes
case_among shapes true columns type block len size is = is.0
case_among shapes false columns type block len size is = is.0

-- two bytes: the header's size and the first type are the others
lost_case : (shapes : List ShapeKey) (setting : Setting) (span cell : List ℕ) (cut : Cut shapes setting span cell)
    → length cut.is.payload_text + length cut.is.rowid_text ≡ 2
    → (hidden : IsHidden shapes cut.is.types_text cut.is.types setting.block (length span) (two_bytes_at (take 4 span) 2))
    → (sighting : Sighting) × IsLost (length cut.is.types) hidden.alias setting span sighting
lost_case shapes setting span cell cut two hidden =
    let c = cut.is in
    let h = hidden.first in
    let type = hidden.type in
    let others = hidden.others in
    let one = size_one c.header c.types_text c.types c.typed c.few in
    let header = header_long c.header c.types_text c.types c.typed c.few in
    let size_least = c.size.least in
    let payload_some = some_bytes c.payload_text c.payload c.size.spells in
    let rowid_some = some_bytes c.rowid_text c.rowid c.key.spells in
    let type_small : type ≤ 127 = shortest_one type (sym h.is.least ∙ h.one) in
    let payload_small : c.payload ≤ 127 = shortest_one c.payload (omega arith) in
    let types_long : length c.types_text ≡ 1 + length h.rest = omega (arith, ap length h.parts, length-append h.text h.rest, h.one) in
    let types_sum : bodies_len c.types ≡ body_len type + bodies_len others = ap bodies_len h.first in
    let n = body_len type in
    let first = take n c.bodies in
    let bodies = drop n c.bodies in
    let filled = c.filled in
    let first_long : length first ≡ n = length-take-le n c.bodies (omega arith) in
    let bodies_long : length bodies ≡ length c.bodies - n = length-drop n c.bodies in
    let cut_bodies : first ++ bodies ≡ c.bodies = take-append-drop n c.bodies in
    let inner = h.rest ++ (first ++ bodies) in
    let joined : c.header ++ c.bodies ≡ c.typed.size_text ++ (h.text ++ inner)
    = ap (λ k. k ++ c.bodies) (c.typed.parts ∙ ap (λ t. c.typed.size_text ++ t) h.parts) ∙ ap (λ b. (c.typed.size_text ++ (h.text ++ h.rest)) ++ b) (sym cut_bodies) ∙ simp append_assoc in
    let back : drop 4 span ≡ inner
    = sym cut.same ∙ ap (drop 4) (c.parts ∙ ap (λ r. c.payload_text ++ (c.rowid_text ++ r)) joined)
    ∙ behind_four c.payload_text c.rowid_text (c.typed.size_text ++ (h.text ++ inner)) 2 (omega arith)
    ∙ behind_two c.typed.size_text h.text inner one h.one in
    let parts = split_span span inner back in
    let all : length cell ≡ length c.payload_text + (length c.rowid_text + length (c.header ++ c.bodies))
    = omega (arith, ap length c.parts, length-append c.payload_text (c.rowid_text ++ (c.header ++ c.bodies)), length-append c.rowid_text (c.header ++ c.bodies)) in
    let inner_long : length inner ≡ length h.rest + length c.bodies = omega (arith, length-append h.rest (first ++ bodies), ap length cut_bodies) in
    let body_long : length (c.header ++ c.bodies) ≡ 2 + length inner = omega (arith, length-append c.header c.bodies) in
    let four_long : length (take 4 span) ≡ 4 = length-take-le 4 span (omega (arith, cut.long)) in
    let payload : c.payload ≡ 2 + length inner = c.whole ∙ body_long in
    let size = two_bytes_at (take 4 span) 2 in (
      sighted (Lost (length c.types) hidden.alias) (length span) None None (lost ∷ seen others bodies),
      record {
        four = take 4 span;
        types_text = h.rest;
        types = others;
        first = first;
        bodies = bodies;
        rowid_len = length c.rowid_text;
        parts = parts;
        cut = record { long = four_long; next = cut.next; fits = case_fits shapes hidden.alias (length c.types) type setting.block (length span) size hidden.case };
        spelled = h.spelled;
        count = sym (ap length h.first);
        few = omega (arith, c.few);
        first_is = case_first shapes hidden.alias (length c.types) type setting.block (length span) size first hidden.case first_long type_small;
        filled = omega arith;
        small = omega arith;
        local = omega (arith, c.local);
        lengths = record { least = rowid_some; most = omega arith; sum = omega (arith, ap shortest payload) };
        is = refl;
      },
    )

-- ---- one of the forms

-- a form of the list whose span this is
pub record Found (shapes : List ShapeKey) (usable : ℕ) (setting : Setting) (span : List ℕ) : Type 0 where
  pub form : Form
  pub sighting : Sighting
  pub among : Among form (forms_of shapes)
  pub is : HasForm usable setting form span sighting

among_right : {A : Type 0} (x : A) (xs ys : List A) → Among x ys → Among x (xs ++ ys)
among_right x [] ys is = is
among_right x (y ∷ xs) ys is = inr (among_right x xs ys is)

among_left : {A : Type 0} (x : A) (xs ys : List A) → Among x xs → Among x (xs ++ ys)
among_left x [] ys is = absurd is
among_left x (y ∷ xs) ys (inl is) = inl is
among_left x (y ∷ xs) ys (inr is) = inr (among_left x xs ys is)

among_map : {A B : Type 0} (f : A → B) (x : A) (xs : List A) → Among x xs → Among (f x) (map f xs)
among_map f x [] is = absurd is
among_map f x (y ∷ xs) (inl is) = inl (ap f is)
among_map f x (y ∷ xs) (inr is) = inr (among_map f x xs is)

among_range : (first n k : ℕ) → k < n → Among (first + k) (range_with_len first n)
among_range first zero k less = absurd (omega arith)
among_range first (suc n) zero less = inl (omega arith)
among_range first (suc n) (suc k) less = inr (subst (λ m. Among m (range_with_len (first + 1) n)) (omega arith) (among_range (first + 1) n k (omega arith)))

tail_among : (shapes : List ShapeKey) (e : ℕ) → e ≤ 8 → Among (Tail e) (forms_of shapes)
unfolding forms_of
tail_among shapes e few =
    let there : Among e (range_with_len 0 9) = subst (λ m. Among m (range_with_len 0 9)) (omega arith) (among_range 0 9 e (omega arith)) in
    inr (among_left (Tail e) (map Tail (range_with_len 0 9)) (map typed_form shapes ++ map lost_form shapes) (among_map Tail e (range_with_len 0 9) there))

types_among : (shapes : List ShapeKey) (n : ℕ) (alias : Bool) → Among (shape_of n alias) shapes → Among (Types n) (forms_of shapes)
unfolding forms_of
types_among shapes n alias is =
    inr (among_right (Types n) (map Tail (range_with_len 0 9)) (map typed_form shapes ++ map lost_form shapes)
    (among_left (Types n) (map typed_form shapes) (map lost_form shapes) (among_map typed_form (shape_of n alias) shapes is)))

lost_among : (shapes : List ShapeKey) (n : ℕ) (alias : Bool) → Among (shape_of n alias) shapes → Among (Lost n alias) (forms_of shapes)
unfolding forms_of
lost_among shapes n alias is =
    inr (among_right (Lost n alias) (map Tail (range_with_len 0 9)) (map typed_form shapes ++ map lost_form shapes)
    (among_right (Lost n alias) (map typed_form shapes) (map lost_form shapes) (among_map lost_form (shape_of n alias) shapes is)))

few_tails : (setting : Setting) (cell : List ℕ) (c : IsCell setting.longest cell) → setting.longest ≤ 65536 → length c.payload_text + length c.rowid_text - 4 ≤ 8
few_tails setting cell c small = omega (arith, c.size.least, shortest_three c.payload (omega (arith, c.local)), c.key.least, shortest_nine c.rowid)

by_known : (shapes : List ShapeKey) (usable : ℕ) (setting : Setting) (span cell : List ℕ) (cut : Cut shapes setting span cell) → setting.longest ≤ 65536
    → IsKnown shapes cut.is.types_text cut.is.types (length cut.is.payload_text + length cut.is.rowid_text) setting.block (length span) (two_bytes_at (take 4 span) 2)
    → Found shapes usable setting span
by_known shapes usable setting span cell cut small (inl tail) =
    let there = tail_case shapes setting span cell cut small tail.0 tail.1 in
    let e = length cut.is.payload_text + length cut.is.rowid_text - 4 in
    record { form = Tail e; sighting = there.0; among = tail_among shapes e (few_tails setting cell cut.is small); is = there.1 }
by_known shapes usable setting span cell cut small (inr (inl types)) =
    let there = types_case shapes setting span cell cut small types.0.0 types.1 in
    let n = length cut.is.types in
    record { form = Types n; sighting = there.0; among = types_among shapes n types.0.1.alias types.0.1.is; is = there.1 }
by_known shapes usable setting span cell cut small (inr (inr both)) =
    let hidden = both.1 in
    let there = lost_case shapes setting span cell cut both.0 hidden in
    let n = length cut.is.types in
    record {
      form = Lost n hidden.alias;
      sighting = there.0;
      among = lost_among shapes n hidden.alias (case_among shapes hidden.alias n hidden.type setting.block (length span) (two_bytes_at (take 4 span) 2) hidden.case);
      is = there.1;
    }

pub freed_is : (shapes : List ShapeKey) (usable : ℕ) (setting : Setting) (span : List ℕ) → setting.longest ≤ 65536 → IsFreed shapes setting span → Found shapes usable setting span
freed_is shapes usable setting span small freed =
    by_known shapes usable setting span freed.cell (record { is = freed.is; long = freed.long; same = freed.same; next = freed.next }) small freed.known

-- ---- and the first of them is found

or_some : {A : Type 0} (o other : Option A) → is_some other ≡ true → is_some (or_else o other) ≡ true
or_some None other is = is
or_some (Some x) other is = refl

first_some : {A B : Type 0} (find : A → Option B) (x : A) (xs : List A) (y : B) → Among x xs → find x ≡ Some y → is_some (first_of find xs) ≡ true
unfolding first_of
first_some find x [] y is found = absurd is
first_some find x (z ∷ xs) y (inl is) found = rw (is, found) refl
first_some find x (z ∷ xs) y (inr is) found = or_some (find z) (first_of find xs) (first_some find x xs y is found)

at_form : (usable : ℕ) (setting : Setting) (span rest : List ℕ) (form : Form) (sighting : Sighting) → HasForm usable setting form span sighting
    → sighting_at usable setting (span ++ rest) form ≡ Some sighting
unfolding sighting_at
at_form usable setting span rest Full sighting is = full_again usable (span ++ rest) sighting (record { span = span; rest = rest; parts = refl; accepts = is })
at_form usable setting span rest (Tail e) sighting is = tail_again e setting (span ++ rest) sighting (record { span = span; rest = rest; parts = refl; accepts = is })
at_form usable setting span rest (Types n) sighting is = types_back n setting (span ++ rest) sighting (record { span = span; rest = rest; parts = refl; accepts = is })
at_form usable setting span rest (Lost n alias) sighting is = lost_back n alias setting (span ++ rest) sighting (record { span = span; rest = rest; parts = refl; accepts = is })

-- where a freed cell begins, some form is accepted
pub freed_accepted : (shapes : List ShapeKey) (usable : ℕ) (setting : Setting) (span rest : List ℕ) → setting.longest ≤ 65536 → IsFreed shapes setting span
    → is_some (accepted_at usable shapes setting (span ++ rest)) ≡ true
unfolding accepted_at
freed_accepted shapes usable setting span rest small freed =
    let found = freed_is shapes usable setting span small freed in
    first_some (sighting_at usable setting (span ++ rest)) found.form (forms_of shapes) found.sighting found.among
    (at_form usable setting span rest found.form found.sighting found.is)

pub finds_some : {X Y : Type 0} (view : X → Y) (result : Option X) (found : Option Y) → Finds view result found → is_some found ≡ true → IsSome result
finds_some view None found finds some = absurd (let none = ap is_some finds in cc)
finds_some view (Some x) found finds some = search rules
