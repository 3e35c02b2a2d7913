-- Where a payload is too long.
use Rattle.std.proofs.Common.{◌≡◌, inl, inr, ℕ, ℤ, ◌+◌, ◌<◌, ◌≤◌, nat_lt, Bool, true, false, cond, List, [], ◌∷◌, ◌++◌, length, take, drop, Option, Some, None, Result, Ok, Err, refl, ap, ◌∙◌, arith}
use Rattle.std.proofs.lemmas.Bool.{ltb-true, lt-ltb, le-ltb}
use Rattle.std.proofs.lemmas.List.{length-append, length-take, length-drop}
use Rattle.sx_bytes.specs.Varints.{IsVarint, varint_at}
use Rattle.sx_cell.specs.declared.cell.Kind.{Kind}
use Rattle.sx_cell.specs.declared.cell.Kind.TheVariants.{TableLeaf, TableInner, IndexLeaf, IndexInner}
use Rattle.sx_cell.specs.declared.cell.CellFault.{CellFault}
use Rattle.sx_cell.specs.declared.cell.CellFault.TheVariants.{Outside, TooLong}
use Rattle.sx_cell.specs.Kinds.{has_child}
use Rattle.sx_cell.specs.Local.{longest_payload, local_of}
use Rattle.sx_cell.specs.Fields.{◌>>=◌, word_field, found_field, varint_field, word_if, limited, size_field, signed_field, key_field}
use Rattle.sx_cell.specs.Reading.{Head, head_at, body_at, cell_at, cell_of}
use Rattle.sx_cell.specs.Cells.{IsChild, IsSize, IsTooLong}
use Rattle.sx_cell.proofs.FieldLemmas.{bind_err, varint_is_field, word_if_is_field}

-- ---- what isn't too long

abbrev IsNotLong : {A : Type 0} → Result A CellFault → Type 0
IsNotLong read = read ≡ Err TooLong → ⊥

guard_not_long : {A : Type 0} (b : Bool) (x : Result A CellFault) → IsNotLong x → IsNotLong (cond b (Err Outside) x)
guard_not_long true x not e = cc
guard_not_long false x not e = not e

done_not_long : {A : Type 0} (x : A) → IsNotLong (Ok x)
done_not_long x e = cc

then_not_long : {A B : Type 0} (r : Result A CellFault) (f : A → Result B CellFault) → IsNotLong r → ((x : A) → IsNotLong (f x)) → IsNotLong (r >>= f)
then_not_long r f first second e = elim (bind_err r f TooLong e) [ inl here ↦ first here | inr later ↦ second later.0 later.2 ]

found_not_long : (bytes : List ℕ) (there : Option (ℕ × ℕ)) → IsNotLong (found_field bytes there)
found_not_long bytes None e = cc
found_not_long bytes (Some pair) e = cc

varint_not_long : (bytes : List ℕ) → IsNotLong (varint_field bytes)
unfolding varint_field
varint_not_long bytes = found_not_long bytes (varint_at bytes)

word_not_long : (bytes : List ℕ) → IsNotLong (word_field bytes)
unfolding word_field
word_not_long bytes = guard_not_long (nat_lt (length bytes) 4) (Ok _) (done_not_long _)

word_if_not_long : (there : Bool) (bytes : List ℕ) → IsNotLong (word_if there bytes)
unfolding word_if
word_if_not_long false bytes = done_not_long _
word_if_not_long true bytes = then_not_long (word_field bytes) _ (word_not_long bytes) (λ x. done_not_long _)

signed_not_long : (bytes : List ℕ) → IsNotLong (signed_field bytes)
unfolding signed_field
signed_not_long bytes = then_not_long (varint_field bytes) _ (varint_not_long bytes) (λ x. done_not_long _)

key_not_long : (kind : Kind) (bytes : List ℕ) → IsNotLong (key_field kind bytes)
unfolding key_field
key_not_long TableLeaf bytes = signed_not_long bytes
key_not_long TableInner bytes = signed_not_long bytes
key_not_long IndexLeaf bytes = done_not_long _
key_not_long IndexInner bytes = done_not_long _

body_not_long : (local payload : ℕ) (bytes : List ℕ) → IsNotLong (body_at local payload bytes)
unfolding body_at
body_not_long local payload bytes = guard_not_long (nat_lt (length bytes) local) _ (word_if_not_long (nat_lt local payload) (drop local bytes))

-- ---- a length that is too long

-- the text of such a length stands at the front
record SizeLong (kind : Kind) (bytes : List ℕ) : Type 0 where
  text : List ℕ
  rest : List ℕ
  parts : bytes ≡ text ++ rest
  payload : ℕ
  is_size : IsSize kind text payload
  above : longest_payload < payload

above_limit : (b : Bool) (x : ℕ × List ℕ) → cond b (Err TooLong) (Ok x) ≡ Err TooLong → b ≡ true
above_limit true x e = refl
above_limit false x e = absurd cc

record VarintLong (bytes : List ℕ) : Type 0 where
  text : List ℕ
  rest : List ℕ
  parts : bytes ≡ text ++ rest
  payload : ℕ
  is : IsVarint text payload
  above : longest_payload < payload

varint_long : (bytes : List ℕ) → (varint_field bytes >>= limited) ≡ Err TooLong → VarintLong bytes
varint_long bytes e =
    elim (bind_err (varint_field bytes) limited TooLong e) [
      | inl here ↦ absurd (varint_not_long bytes here)
      | inr later ↦
          let t = varint_is_field.takes bytes later.0.0 later.0.1 later.1 in
          let long = ltb-true longest_payload later.0.0 (above_limit (nat_lt longest_payload later.0.0) later.0 later.2) in
          record { text = t.text; rest = later.0.1; parts = t.parts; payload = later.0.0; is = t.is; above = long }
    ]

varint_long_again : (text rest : List ℕ) (payload : ℕ) → IsVarint text payload → longest_payload < payload
    → (varint_field (text ++ rest) >>= limited) ≡ Err TooLong
varint_long_again text rest payload is above =
    let long : nat_lt longest_payload payload ≡ true = lt-ltb _ _ above in
    rw (varint_is_field.again text rest payload is, long) refl

size_long : (kind : Kind) (bytes : List ℕ) → size_field kind bytes ≡ Err TooLong → SizeLong kind bytes
unfolding size_field
size_long TableLeaf bytes e =
    let v = varint_long bytes e in
    record { text = v.text; rest = v.rest; parts = v.parts; payload = v.payload; is_size = v.is; above = v.above }
size_long TableInner bytes e = absurd cc
size_long IndexLeaf bytes e =
    let v = varint_long bytes e in
    record { text = v.text; rest = v.rest; parts = v.parts; payload = v.payload; is_size = v.is; above = v.above }
size_long IndexInner bytes e =
    let v = varint_long bytes e in
    record { text = v.text; rest = v.rest; parts = v.parts; payload = v.payload; is_size = v.is; above = v.above }

size_long_again : (kind : Kind) (text rest : List ℕ) (payload : ℕ) → IsSize kind text payload → longest_payload < payload
    → size_field kind (text ++ rest) ≡ Err TooLong
unfolding size_field
size_long_again TableLeaf text rest payload is above = varint_long_again text rest payload is above
size_long_again TableInner text rest payload is above = absurd (omega (arith, is.1))
size_long_again IndexLeaf text rest payload is above = varint_long_again text rest payload is above
size_long_again IndexInner text rest payload is above = varint_long_again text rest payload is above

abbrev head_done : Option ℕ → ℕ → Option ℤ → List ℕ → Result Head CellFault
head_done child payload key rest = Ok (record { child = child; payload = payload; key = key; rest = rest })

-- the texts up to such a length stand at the front
record HeadLong (kind : Kind) (bytes : List ℕ) : Type 0 where
  child_text : List ℕ
  size_text : List ℕ
  rest : List ℕ
  parts : bytes ≡ child_text ++ (size_text ++ rest)
  child : Option ℕ
  is_child : IsChild kind child_text child
  payload : ℕ
  is_size : IsSize kind size_text payload
  above : longest_payload < payload

head_long : (kind : Kind) (bytes : List ℕ) → head_at kind bytes ≡ Err TooLong → HeadLong kind bytes
unfolding head_at
head_long kind bytes e =
    let made = λ (child : Option ℕ × List ℕ) (size : ℕ × List ℕ) (key : Option ℤ × List ℕ).
    head_done child.0 size.0 key.0 key.1 in
    elim (bind_err (word_if (has_child kind) bytes) (λ child. size_field kind child.1 >>= λ size. key_field kind size.1 >>= made child size) TooLong e) [
      | inl here ↦ absurd (word_if_not_long (has_child kind) bytes here)
      | inr later ↦ elim (bind_err (size_field kind later.0.1) (λ size. key_field kind size.1 >>= made later.0 size) TooLong later.2) [
        | inl here ↦
            let child = (word_if_is_field (has_child kind)).takes bytes later.0.0 later.0.1 later.1 in
            let size = size_long kind later.0.1 here in
            record {
              child_text = child.text;
              size_text = size.text;
              rest = size.rest;
              parts = child.parts ∙ ap (λ behind. child.text ++ behind) size.parts;
              child = later.0.0;
              is_child = child.is;
              payload = size.payload;
              is_size = size.is_size;
              above = size.above;
            }
        | inr last ↦ absurd (then_not_long (key_field kind last.0.1) (made later.0 last.0) (key_not_long kind last.0.1) (λ x. done_not_long _) last.2)
      ]
    ]

head_long_again : (kind : Kind) (bytes : List ℕ) → HeadLong kind bytes → head_at kind bytes ≡ Err TooLong
unfolding head_at
head_long_again kind bytes h =
    let child = (word_if_is_field (has_child kind)).again h.child_text (h.size_text ++ h.rest) h.child h.is_child in
    let size = size_long_again kind h.size_text h.rest h.payload h.is_size h.above in
    rw (h.parts, child, size) refl

-- ---- the whole cell

cell_long : (kind : Kind) (at usable : ℕ) (bytes : List ℕ) → cell_at kind at usable bytes ≡ Err TooLong → head_at kind bytes ≡ Err TooLong
unfolding cell_at
cell_long kind at usable bytes e =
    elim (bind_err (head_at kind bytes) _ TooLong e) [
      | inl here ↦ here
      | inr later ↦ absurd (then_not_long (body_at (local_of kind later.0.payload usable) later.0.payload later.0.rest) _
          (body_not_long (local_of kind later.0.payload usable) later.0.payload later.0.rest)
          (λ body. guard_not_long _ _ (done_not_long _)) later.2)
    ]

cell_long_again : (kind : Kind) (at usable : ℕ) (bytes : List ℕ) → head_at kind bytes ≡ Err TooLong → cell_at kind at usable bytes ≡ Err TooLong
unfolding cell_at
cell_long_again kind at usable bytes e = rw e refl

guard_err : {A : Type 0} (b : Bool) (x : Result A CellFault) → cond b (Err Outside) x ≡ Err TooLong → x ≡ Err TooLong
guard_err true x e = absurd cc
guard_err false x e = e

-- a payload that is too long is answered where it stands
pub long_taken : (kind : Kind) (page : List ℕ) (at usable : ℕ) → cell_of kind page at usable ≡ Err TooLong → IsTooLong kind page at usable
unfolding cell_of
long_taken kind page at usable e =
    let bytes = drop at (take usable page) in
    let whole = guard_err (nat_lt usable at) (cell_at kind at usable bytes) e in
    let h = head_long kind bytes (cell_long kind at usable bytes whole) in
    record {
      child_text = h.child_text;
      size_text = h.size_text;
      rest = h.rest;
      parts = h.parts;
      child = h.child;
      is_child = h.is_child;
      payload = h.payload;
      is_size = h.is_size;
      above = h.above;
    }

some_text : (text : List ℕ) (value : ℕ) → IsVarint text value → 0 < length text
some_text [] value is = absurd is
some_text (b ∷ bs) value is = omega arith

some_size : (kind : Kind) (text : List ℕ) (payload : ℕ) → IsSize kind text payload → 0 < payload → 0 < length text
some_size TableLeaf text payload is some = some_text text payload is
some_size TableInner text payload is some = absurd (omega (arith, is.1))
some_size IndexLeaf text payload is some = some_text text payload is
some_size IndexInner text payload is some = some_text text payload is

pub long_again : (kind : Kind) (page : List ℕ) (at usable : ℕ) → IsTooLong kind page at usable → cell_of kind page at usable ≡ Err TooLong
unfolding cell_of
long_again kind page at usable h =
    let bytes = drop at (take usable page) in
    let some = some_size kind h.size_text h.payload h.is_size (omega (arith, h.above)) in
    let long : length bytes ≡ length h.child_text + (length h.size_text + length h.rest)
    = ap length h.parts ∙ simp length-append refl in
    let within : at ≤ usable = omega (arith, some, long, length-drop at (take usable page), length-take usable page) in
    let before : nat_lt usable at ≡ false = le-ltb _ _ within in
    rw before (cell_long_again kind at usable bytes (head_long_again kind bytes (record {
      child_text = h.child_text;
      size_text = h.size_text;
      rest = h.rest;
      parts = h.parts;
      child = h.child;
      is_child = h.is_child;
      payload = h.payload;
      is_size = h.is_size;
      above = h.above;
    })))
