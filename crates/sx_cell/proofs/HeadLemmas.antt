-- Reading what stands in front of the payload, and what stands there.
use Rattle.std.proofs.Common.{◌≡◌, ℕ, ℤ, ◌≤◌, nat_lt, false, List, ◌++◌, length, take, drop, Option, Ok, refl, sym, ap, subst, ◌∙◌, arith}
use Rattle.std.proofs.lemmas.Bool.{ltb-false, le-ltb}
use Rattle.std.proofs.lemmas.List.{drop_at, take-append-drop, length-append, length-take}
use Rattle.sx_cell.specs.declared.cell.Kind.{Kind}
use Rattle.sx_cell.specs.declared.cell.CellFault.TheVariants.{Outside}
use Rattle.sx_cell.specs.Kinds.{has_child}
use Rattle.sx_cell.specs.Fields.{◌>>=◌, word_if, size_field, key_field}
use Rattle.sx_cell.specs.Reading.{Head, head_at, body_at}
use Rattle.sx_cell.specs.Cells.{IsWordIf, IsChild, IsKey}
use Rattle.sx_cell.proofs.FieldLemmas.{bind_ok, guard_ok, ok_is, word_if_is_field, key_is_field, size_is_field, IsLimited}

-- the texts of a head, one after the other
pub record HeadTexts (kind : Kind) (bytes : List ℕ) (head : Head) : Type 0 where
  pub child : List ℕ
  pub size : List ℕ
  pub key : List ℕ
  pub parts : bytes ≡ child ++ (size ++ (key ++ head.rest))
  pub is_child : IsChild kind child head.child
  pub is_size : IsLimited kind size head.payload
  pub is_key : IsKey kind key head.key

abbrev head_made : Option ℕ → ℕ → Option ℤ → List ℕ → Head
head_made child payload key rest = record { child = child; payload = payload; key = key; rest = rest }

pub head_taken : (kind : Kind) (bytes : List ℕ) (head : Head) → head_at kind bytes ≡ Ok head → HeadTexts kind bytes head
unfolding head_at
head_taken kind bytes head e =
    let c = bind_ok (word_if (has_child kind) bytes)
    (λ child. size_field kind child.1 >>= λ size. key_field kind size.1 >>= λ key. Ok (head_made child.0 size.0 key.0 key.1)) head e in
    let s = bind_ok (size_field kind c.0.1) (λ size. key_field kind size.1 >>= λ key. Ok (head_made c.0.0 size.0 key.0 key.1)) head c.2 in
    let k = bind_ok (key_field kind s.0.1) (λ key. Ok (head_made c.0.0 s.0.0 key.0 key.1)) head s.2 in
    let child = (word_if_is_field (has_child kind)).takes bytes c.0.0 c.0.1 c.1 in
    let size = (size_is_field kind).takes c.0.1 s.0.0 s.0.1 s.1 in
    let key = (key_is_field kind).takes s.0.1 k.0.0 k.0.1 k.1 in
    subst (HeadTexts kind bytes) (ok_is (head_made c.0.0 s.0.0 k.0.0 k.0.1) head k.2) (record {
      child = child.text;
      size = size.text;
      key = key.text;
      parts = child.parts ∙ ap (λ tail. child.text ++ tail) (size.parts ∙ ap (λ tail. size.text ++ tail) key.parts);
      is_child = child.is;
      is_size = size.is;
      is_key = key.is;
    })

pub head_again : (kind : Kind) (bytes : List ℕ) (head : Head) → HeadTexts kind bytes head → head_at kind bytes ≡ Ok head
unfolding head_at
head_again kind bytes head t =
    let child = (word_if_is_field (has_child kind)).again t.child (t.size ++ (t.key ++ head.rest)) head.child t.is_child in
    let size = (size_is_field kind).again t.size (t.key ++ head.rest) head.payload t.is_size in
    let key = (key_is_field kind).again t.key head.rest head.key t.is_key in
    rw (t.parts, child, size, key) refl

-- the texts of a body
pub record BodyTexts (local payload : ℕ) (bytes : List ℕ) (overflow : Option ℕ) (rest : List ℕ) : Type 0 where
  pub local_text : List ℕ
  pub link : List ℕ
  pub parts : bytes ≡ local_text ++ (link ++ rest)
  pub held : length local_text ≡ local
  pub is_link : IsWordIf (nat_lt local payload) link overflow

pub body_taken : (local payload : ℕ) (bytes : List ℕ) (overflow : Option ℕ) (rest : List ℕ)
    → body_at local payload bytes ≡ Ok (overflow, rest) → BodyTexts local payload bytes overflow rest
unfolding body_at
body_taken local payload bytes overflow rest e =
    let g = guard_ok (nat_lt (length bytes) local) Outside (word_if (nat_lt local payload) (drop local bytes)) _ e (overflow, rest) refl in
    let long : local ≤ length bytes = ltb-false _ _ g.0 in
    let link = (word_if_is_field (nat_lt local payload)).takes (drop local bytes) overflow rest g.1 in
    record {
      local_text = take local bytes;
      link = link.text;
      parts = sym (take-append-drop local bytes) ∙ ap (λ tail. take local bytes ++ tail) link.parts;
      held = omega (arith, length-take local bytes);
      is_link = link.is;
    }

pub body_again : (local payload : ℕ) (bytes : List ℕ) (overflow : Option ℕ) (rest : List ℕ)
    → BodyTexts local payload bytes overflow rest → body_at local payload bytes ≡ Ok (overflow, rest)
unfolding body_at
body_again local payload bytes overflow rest t =
    let whole = t.local_text ++ (t.link ++ rest) in
    let long : nat_lt (length whole) local ≡ false = le-ltb _ _ (omega (arith, t.held, length-append t.local_text (t.link ++ rest))) in
    let link = (word_if_is_field (nat_lt local payload)).again t.link rest overflow t.is_link in
    rw (t.parts, long, drop_at t.local_text (t.link ++ rest) local t.held, link) refl
