-- Where a field, or what a cell owns, ends past the usable bytes.
use Rattle.std.proofs.Common.{◌≡◌, inl, inr, ℕ, ℤ, ◌+◌, ◌<◌, ◌≤◌, nat_lt, Bool, true, false, cond, List, [], ◌++◌, length, take, drop, Option, Some, None, Result, Ok, Err, refl, sym, ap, subst, ◌∙◌, arith}
use Rattle.std.specs.Prelude.{IsNone}
use Rattle.std.proofs.lemmas.Bool.{ltb-true, ltb-false, lt-ltb}
use Rattle.std.proofs.lemmas.List.{length-take, length-drop, drop_all}
use Rattle.std.proofs.lemmas.List.Elements.{All-nil}
use Rattle.sx_bytes.specs.Varints.{EndsInside, varint_at}
use Rattle.sx_bytes.proofs.VarintLemmas.{none_ends}
use Rattle.sx_cell.specs.declared.cell.Kind.{Kind}
use Rattle.sx_cell.specs.declared.cell.Kind.TheVariants.{TableLeaf, TableInner, IndexLeaf, IndexInner}
use Rattle.sx_cell.specs.declared.cell.Cell.{Cell}
use Rattle.sx_cell.specs.declared.cell.CellFault.{CellFault}
use Rattle.sx_cell.specs.declared.cell.CellFault.TheVariants.{Outside, TooLong}
use Rattle.sx_cell.specs.Kinds.{has_child}
use Rattle.sx_cell.specs.Local.{longest_payload, local_of}
use Rattle.sx_cell.specs.Fields.{◌>>=◌, word_field, found_field, varint_field, word_if, limited, size_field, signed_field, key_field}
use Rattle.sx_cell.specs.Reading.{Head, head_at, body_at, owned, cell_at, cell_of}
use Rattle.sx_cell.specs.Cells.{IsCutWord, IsCutWordIf, IsCutSize, IsCutKey, EndsInSize, EndsInKey, body_len, EndsInBody, OwnsPast, IsOutside, in_child, in_size, in_key, in_body, owns_past}
use Rattle.sx_cell.proofs.FieldLemmas.{bind_err, field_done, word_if_is_field, size_is_field}
use Rattle.sx_cell.proofs.HeadLemmas.{HeadTexts, head_taken, head_again}
use Rattle.sx_cell.proofs.CellLemmas.{HasFields, cell_made, made_fields, cell_again, used_len}

-- ---- a field isn't read for want of bytes exactly where they end inside it
record IsCut {A : Type 0} (read : List ℕ → Result (A × List ℕ) CellFault) (inside : List ℕ → Type 0) : Type 0 where
  ends : (bytes : List ℕ) → read bytes ≡ Err Outside → inside bytes
  again : (bytes : List ℕ) → inside bytes → read bytes ≡ Err Outside

test_true : {A : Type 0} (b : Bool) (x : A) (rest : List ℕ) → cond b (Err Outside) (field_done x rest) ≡ Err Outside → b ≡ true
test_true true x rest e = refl
test_true false x rest e = absurd cc

word_cut : IsCut word_field IsCutWord
unfolding word_field
word_cut = record {
  ends = λ bytes e. ltb-true (length bytes) 4 (test_true (nat_lt (length bytes) 4) _ (drop 4 bytes) e);
  again = λ bytes inside. let short : nat_lt (length bytes) 4 ≡ true = lt-ltb _ _ inside in rw short refl;
}

none_found : (bytes : List ℕ) (there : Option (ℕ × ℕ)) → found_field bytes there ≡ Err Outside → IsNone there
none_found bytes None e = refl
none_found bytes (Some found) e = absurd cc

found_none : (bytes : List ℕ) (there : Option (ℕ × ℕ)) → IsNone there → found_field bytes there ≡ Err Outside
found_none bytes None none = refl
found_none bytes (Some found) none = let never : true ≡ false = none in absurd cc

varint_cut : IsCut varint_field EndsInside
unfolding varint_field
varint_cut = record {
  ends = λ bytes e. (none_ends bytes).0 (none_found bytes (varint_at bytes) e);
  again = λ bytes inside. found_none bytes (varint_at bytes) ((none_ends bytes).1 inside);
}

mapped_cut : {A B : Type 0} (read : List ℕ → Result (A × List ℕ) CellFault) (inside : List ℕ → Type 0) (f : A → B)
    → IsCut read inside → IsCut (λ bytes. read bytes >>= λ x. field_done (f x.0) x.1) inside
mapped_cut read inside f cut = record {
  ends = λ bytes e. elim (bind_err (read bytes) (λ x. field_done (f x.0) x.1) Outside e) [
    | inl here ↦ cut.ends bytes here
    | inr later ↦ let never = later.2 in absurd cc
  ];
  again = λ bytes is. rw (cut.again bytes is) refl;
}

word_if_cut : (there : Bool) → IsCut (word_if there) (IsCutWordIf there)
unfolding word_if
word_if_cut false = record { ends = λ bytes e. absurd cc; again = λ bytes inside. let never : false ≡ true = inside.0 in absurd cc }
word_if_cut true =
    let cut = mapped_cut word_field IsCutWord (λ word. Some word) word_cut in
    record { ends = λ bytes e. (refl, cut.ends bytes e); again = λ bytes inside. cut.again bytes inside.1 }

not_limited : (b : Bool) (size : ℕ × List ℕ) → cond b (Err TooLong) (Ok size) ≡ Err Outside → ⊥
not_limited true size e = cc
not_limited false size e = cc

limited_cut : IsCut (λ bytes. varint_field bytes >>= limited) EndsInside
limited_cut = record {
  ends = λ bytes e. elim (bind_err (varint_field bytes) limited Outside e) [
    | inl here ↦ varint_cut.ends bytes here
    | inr later ↦ absurd (not_limited (nat_lt longest_payload later.0.0) later.0 later.2)
  ];
  again = λ bytes is. rw (varint_cut.again bytes is) refl;
}

no_cut : {A : Type 0} (x : A) → IsCut (λ bytes. field_done x bytes) (λ bytes. ⊥)
no_cut x = record { ends = λ bytes e. absurd cc; again = λ bytes never. absurd never }

size_cut : (kind : Kind) → IsCut (size_field kind) (IsCutSize kind)
unfolding size_field
size_cut TableLeaf = limited_cut
size_cut TableInner = no_cut 0
size_cut IndexLeaf = limited_cut
size_cut IndexInner = limited_cut

signed_cut : IsCut signed_field EndsInside
unfolding signed_field
signed_cut = mapped_cut varint_field EndsInside _ varint_cut

key_cut : (kind : Kind) → IsCut (key_field kind) (IsCutKey kind)
unfolding key_field
key_cut TableLeaf = signed_cut
key_cut TableInner = signed_cut
key_cut IndexLeaf = no_cut None
key_cut IndexInner = no_cut None

-- ---- what stands in front of the payload
data HeadCut (kind : Kind) (bytes : List ℕ) : Type 0 where
  at_child : IsCutWordIf (has_child kind) bytes → HeadCut kind bytes
  at_size : EndsInSize kind bytes → HeadCut kind bytes
  at_key : EndsInKey kind bytes → HeadCut kind bytes

abbrev head_done : Option ℕ → ℕ → Option ℤ → List ℕ → Result Head CellFault
head_done child payload key rest = Ok (record { child = child; payload = payload; key = key; rest = rest })

head_cut : (kind : Kind) (bytes : List ℕ) → head_at kind bytes ≡ Err Outside → HeadCut kind bytes
unfolding head_at
head_cut kind bytes e =
    let made = λ (child : Option ℕ × List ℕ) (size : ℕ × List ℕ) (key : Option ℤ × List ℕ).
    head_done child.0 size.0 key.0 key.1 in
    elim (bind_err (word_if (has_child kind) bytes) (λ child. size_field kind child.1 >>= λ size. key_field kind size.1 >>= made child size) Outside e) [
      | inl here ↦ at_child ((word_if_cut (has_child kind)).ends bytes here)
      | inr later ↦
          let child = (word_if_is_field (has_child kind)).takes bytes later.0.0 later.0.1 later.1 in
          elim (bind_err (size_field kind later.0.1) (λ size. key_field kind size.1 >>= made later.0 size) Outside later.2) [
            | inl here ↦ at_size (record {
              child_text = child.text;
              rest = later.0.1;
              parts = child.parts;
              child = later.0.0;
              is_child = child.is;
              inside = (size_cut kind).ends later.0.1 here;
            })
            | inr last ↦
                let size = (size_is_field kind).takes later.0.1 last.0.0 last.0.1 last.1 in
                elim (bind_err (key_field kind last.0.1) (made later.0 last.0) Outside last.2) [
                  | inl here ↦ at_key (record {
                    child_text = child.text;
                    size_text = size.text;
                    rest = last.0.1;
                    parts = child.parts ∙ ap (λ behind. child.text ++ behind) size.parts;
                    child = later.0.0;
                    is_child = child.is;
                    payload = last.0.0;
                    is_size = size.is.0;
                    limit = size.is.1;
                    inside = (key_cut kind).ends last.0.1 here;
                  })
                  | inr over ↦ let never = over.2 in absurd cc
                ]
          ]
    ]

child_cut_again : (kind : Kind) (bytes : List ℕ) → IsCutWordIf (has_child kind) bytes → head_at kind bytes ≡ Err Outside
unfolding head_at
child_cut_again kind bytes inside = rw ((word_if_cut (has_child kind)).again bytes inside) refl

size_cut_again : (kind : Kind) (bytes : List ℕ) → EndsInSize kind bytes → head_at kind bytes ≡ Err Outside
unfolding head_at
size_cut_again kind bytes h =
    let child = (word_if_is_field (has_child kind)).again h.child_text h.rest h.child h.is_child in
    let size = (size_cut kind).again h.rest h.inside in
    rw (h.parts, child, size) refl

key_cut_again : (kind : Kind) (bytes : List ℕ) → EndsInKey kind bytes → head_at kind bytes ≡ Err Outside
unfolding head_at
key_cut_again kind bytes h =
    let child = (word_if_is_field (has_child kind)).again h.child_text (h.size_text ++ h.rest) h.child h.is_child in
    let size = (size_is_field kind).again h.size_text h.rest h.payload (h.is_size, h.limit) in
    let key = (key_cut kind).again h.rest h.inside in
    rw (h.parts, child, size, key) refl

-- ---- the payload
body_case : (local payload : ℕ) (bytes : List ℕ) (short spills : Bool) → nat_lt (length bytes) local ≡ short → nat_lt local payload ≡ spills
    → cond short (Err Outside) (word_if spills (drop local bytes)) ≡ Err Outside → length bytes < local + cond spills 4 0
body_case local payload bytes true spills short is e = omega (arith, ltb-true (length bytes) local short)
body_case local payload bytes false true short is e =
    let inside = ((word_if_cut true).ends (drop local bytes) e).1 in
    omega (arith, inside, length-drop local bytes, ltb-false (length bytes) local short)
body_case local payload bytes false false short is e = absurd (let inside : false ≡ true = ((word_if_cut false).ends (drop local bytes) e).0 in cc)

body_cut : (local payload : ℕ) (bytes : List ℕ) → body_at local payload bytes ≡ Err Outside → length bytes < body_len local payload
unfolding body_at
body_cut local payload bytes e = body_case local payload bytes (nat_lt (length bytes) local) (nat_lt local payload) refl refl e

body_case_again : (local payload : ℕ) (bytes : List ℕ) (short spills : Bool) → nat_lt (length bytes) local ≡ short → nat_lt local payload ≡ spills
    → length bytes < local + cond spills 4 0 → cond short (Err Outside) (word_if spills (drop local bytes)) ≡ Err Outside
body_case_again local payload bytes true spills short is inside = refl
body_case_again local payload bytes false true short is inside =
    (word_if_cut true).again (drop local bytes) (refl, omega (arith, length-drop local bytes, ltb-false (length bytes) local short))
body_case_again local payload bytes false false short is inside = absurd (omega (arith, ltb-false (length bytes) local short))

body_cut_again : (local payload : ℕ) (bytes : List ℕ) → length bytes < body_len local payload → body_at local payload bytes ≡ Err Outside
unfolding body_at
body_cut_again local payload bytes inside = body_case_again local payload bytes (nat_lt (length bytes) local) (nat_lt local payload) refl refl inside

-- ---- the whole cell
data CellCut (kind : Kind) (at usable : ℕ) (bytes : List ℕ) : Type 0 where
  at_head : HeadCut kind bytes → CellCut kind at usable bytes
  at_body : EndsInBody kind usable bytes → CellCut kind at usable bytes
  at_end : OwnsPast kind at usable bytes → CellCut kind at usable bytes

owned_test : (b : Bool) (cell : Cell) → cond b (Err Outside) (Ok cell) ≡ Err Outside → b ≡ true
owned_test true cell e = refl
owned_test false cell e = absurd cc

owned_past : (kind : Kind) (at usable : ℕ) (bytes : List ℕ) (cell : Cell) → HasFields kind at usable bytes cell → owned usable cell ≡ Err Outside
    → OwnsPast kind at usable bytes
owned_past kind at usable bytes cell has e =
    let above = ltb-true usable (cell.at + cell.len) (owned_test (nat_lt usable (cell.at + cell.len)) cell e) in
    record {
      cell = cell;
      texts = has.texts;
      rest = has.rest;
      parts = has.parts;
      fields = has.fields;
      past = omega (arith, above, has.fields.place);
    }

body_ends : (kind : Kind) (usable : ℕ) (bytes : List ℕ) (head : Head) → HeadTexts kind bytes head
    → length head.rest < body_len (local_of kind head.payload usable) head.payload → EndsInBody kind usable bytes
body_ends kind usable bytes head front inside = record {
  child_text = front.child;
  size_text = front.size;
  key_text = front.key;
  rest = head.rest;
  parts = front.parts;
  child = head.child;
  is_child = front.is_child;
  payload = head.payload;
  is_size = front.is_size.0;
  limit = front.is_size.1;
  key = head.key;
  is_key = front.is_key;
  inside = inside;
}

cell_cut : (kind : Kind) (at usable : ℕ) (bytes : List ℕ) → at + length bytes ≡ usable → cell_at kind at usable bytes ≡ Err Outside
    → CellCut kind at usable bytes
unfolding cell_at
cell_cut kind at usable bytes held e =
    elim (bind_err (head_at kind bytes)
    (λ head. body_at (local_of kind head.payload usable) head.payload head.rest
    >>= λ body. owned usable (cell_made kind at usable bytes head body.0 body.1)) Outside e) [
      | inl here ↦ at_head (head_cut kind bytes here)
      | inr later ↦
          let head = later.0 in
          let local = local_of kind head.payload usable in
          elim (bind_err (body_at local head.payload head.rest) (λ body. owned usable (cell_made kind at usable bytes head body.0 body.1)) Outside later.2) [
            | inl here ↦ at_body (body_ends kind usable bytes head (head_taken kind bytes head later.1) (body_cut local head.payload head.rest here))
            | inr last ↦ at_end (owned_past kind at usable bytes (cell_made kind at usable bytes head last.0.0 last.0.1)
                (made_fields kind at usable bytes head last.0.0 last.0.1 held later.1 last.1) last.2)
          ]
    ]

head_cut_again : (kind : Kind) (at usable : ℕ) (bytes : List ℕ) → head_at kind bytes ≡ Err Outside → cell_at kind at usable bytes ≡ Err Outside
unfolding cell_at
head_cut_again kind at usable bytes e = rw e refl

in_body_again : (kind : Kind) (at usable : ℕ) (bytes : List ℕ) → EndsInBody kind usable bytes → cell_at kind at usable bytes ≡ Err Outside
unfolding cell_at
in_body_again kind at usable bytes h =
    let head : Head = record { child = h.child; payload = h.payload; key = h.key; rest = h.rest } in
    let front = head_again kind bytes head
    (record { child = h.child_text; size = h.size_text; key = h.key_text; parts = h.parts; is_child = h.is_child; is_size = (h.is_size, h.limit); is_key = h.is_key }) in
    let body = body_cut_again (local_of kind h.payload usable) h.payload h.rest h.inside in
    rw (front, body) refl

past_again : (kind : Kind) (at usable : ℕ) (bytes : List ℕ) → at + length bytes ≡ usable → OwnsPast kind at usable bytes
    → cell_at kind at usable bytes ≡ Err Outside
past_again kind at usable bytes held h =
    let above : nat_lt usable (h.cell.at + h.cell.len) ≡ true = lt-ltb _ _ (omega (arith, h.past, h.fields.place)) in
    cell_again kind at usable bytes h.cell held (record { texts = h.texts; rest = h.rest; parts = h.parts; fields = h.fields }) ∙ rw above refl

-- ---- past the usable bytes none are left
no_bytes : (page : List ℕ) (at usable : ℕ) → usable < at → drop at (take usable page) ≡ []
no_bytes page at usable past = drop_all at (take usable page) (omega (arith, length-take usable page))

none_inside : EndsInside []
none_inside = record { short = omega arith; goes_on = All-nil _ }

no_size : (bytes : List ℕ) → bytes ≡ [] → EndsInside bytes
no_size bytes none = subst EndsInside (sym none) none_inside

nothing_left : (kind : Kind) (bytes : List ℕ) → bytes ≡ [] → HeadCut kind bytes
nothing_left TableLeaf bytes none = at_size (record { child_text = []; rest = bytes; parts = refl; child = None; is_child = (refl, refl); inside = no_size bytes none })
nothing_left TableInner bytes none = at_child (refl, omega (arith, ap length none))
nothing_left IndexLeaf bytes none = at_size (record { child_text = []; rest = bytes; parts = refl; child = None; is_child = (refl, refl); inside = no_size bytes none })
nothing_left IndexInner bytes none = at_child (refl, omega (arith, ap length none))

of_head : (kind : Kind) (page : List ℕ) (at usable : ℕ) → HeadCut kind (drop at (take usable page)) → IsOutside kind page at usable
of_head kind page at usable (at_child inside) = in_child inside
of_head kind page at usable (at_size inside) = in_size inside
of_head kind page at usable (at_key inside) = in_key inside

of_cell : (kind : Kind) (page : List ℕ) (at usable : ℕ) → CellCut kind at usable (drop at (take usable page)) → IsOutside kind page at usable
of_cell kind page at usable (at_head head) = of_head kind page at usable head
of_cell kind page at usable (at_body inside) = in_body inside
of_cell kind page at usable (at_end over) = owns_past over

taken_case : (kind : Kind) (page : List ℕ) (at usable : ℕ) (over : Bool) → nat_lt usable at ≡ over → usable ≤ length page
    → cond over (Err Outside) (cell_at kind at usable (drop at (take usable page))) ≡ Err Outside → IsOutside kind page at usable
taken_case kind page at usable true is held e =
    of_head kind page at usable (nothing_left kind (drop at (take usable page)) (no_bytes page at usable (ltb-true usable at is)))
taken_case kind page at usable false is held e =
    of_cell kind page at usable (cell_cut kind at usable (drop at (take usable page)) (used_len page at usable (ltb-false usable at is) held) e)

-- the fault is answered where something ends past the usable bytes
pub outside_taken : (kind : Kind) (page : List ℕ) (at usable : ℕ) → usable ≤ length page
    → cell_of kind page at usable ≡ Err Outside → IsOutside kind page at usable
unfolding cell_of
outside_taken kind page at usable held e = taken_case kind page at usable (nat_lt usable at) refl held e

-- and only there
cut_again : (kind : Kind) (page : List ℕ) (at usable : ℕ) → at ≤ usable → usable ≤ length page → IsOutside kind page at usable
    → cell_at kind at usable (drop at (take usable page)) ≡ Err Outside
cut_again kind page at usable within held (in_child inside) =
    head_cut_again kind at usable (drop at (take usable page)) (child_cut_again kind (drop at (take usable page)) inside)
cut_again kind page at usable within held (in_size inside) =
    head_cut_again kind at usable (drop at (take usable page)) (size_cut_again kind (drop at (take usable page)) inside)
cut_again kind page at usable within held (in_key inside) =
    head_cut_again kind at usable (drop at (take usable page)) (key_cut_again kind (drop at (take usable page)) inside)
cut_again kind page at usable within held (in_body inside) = in_body_again kind at usable (drop at (take usable page)) inside
cut_again kind page at usable within held (owns_past over) =
    past_again kind at usable (drop at (take usable page)) (used_len page at usable within held) over

again_case : (kind : Kind) (page : List ℕ) (at usable : ℕ) (over : Bool) → nat_lt usable at ≡ over → usable ≤ length page
    → IsOutside kind page at usable → cond over (Err Outside) (cell_at kind at usable (drop at (take usable page))) ≡ Err Outside
again_case kind page at usable true is held out = refl
again_case kind page at usable false is held out = cut_again kind page at usable (ltb-false usable at is) held out

pub outside_again : (kind : Kind) (page : List ℕ) (at usable : ℕ) → usable ≤ length page
    → IsOutside kind page at usable → cell_of kind page at usable ≡ Err Outside
unfolding cell_of
outside_again kind page at usable held out = again_case kind page at usable (nat_lt usable at) refl held out
