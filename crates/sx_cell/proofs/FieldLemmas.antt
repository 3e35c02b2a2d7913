-- What a field is that is read and spelled: what is read is spelled at the front, and what is spelled is read.
use Rattle.std.proofs.Common.{◌≡◌, ◌⊎◌, inl, inr, ℕ, ◌≤◌, nat_lt, Bool, true, false, cond, List, [], ◌++◌, length, take, drop, Option, Some, None, Result, Ok, Err, refl, sym, ap, subst, ◌∙◌, arith}
use Rattle.std.proofs.lemmas.Bool.{ltb-false, le-ltb}
use Rattle.std.proofs.lemmas.List.{take_at, drop_at, take-append-drop, length-append, length-take}
use Rattle.sx_base.specs.Bytes.{word_at}
use Rattle.sx_bytes.specs.Varints.{IsVarint, varint_at}
use Rattle.sx_bytes.proofs.VarintLemmas.{found, again}
use Rattle.sx_cell.specs.declared.cell.Kind.{Kind}
use Rattle.sx_cell.specs.declared.cell.Kind.TheVariants.{TableLeaf, TableInner, IndexLeaf, IndexInner}
use Rattle.sx_cell.specs.declared.cell.CellFault.{CellFault}
use Rattle.sx_cell.specs.declared.cell.CellFault.TheVariants.{Outside, TooLong}
use Rattle.sx_cell.specs.Local.{longest_payload}
use Rattle.sx_cell.specs.Fields.{◌>>=◌, word_field, found_field, varint_field, word_if, limited, size_field, signed, signed_field, key_field}
use Rattle.sx_cell.specs.Cells.{IsWord, IsWordIf, IsSize, IsSigned, IsKey}

-- a step that didn't fail
pub bind_ok : {A B : Type 0} (r : Result A CellFault) (f : A → Result B CellFault) (y : B) → (r >>= f) ≡ Ok y
    → (x : A) × (r ≡ Ok x) × (f x ≡ Ok y)
bind_ok (Ok x) f y e = (x, refl, e)
bind_ok (Err d) f y e = absurd cc

-- two steps that failed: the first or the second did
pub bind_err : {A B : Type 0} (r : Result A CellFault) (f : A → Result B CellFault) (d : CellFault) → (r >>= f) ≡ Err d
    → (r ≡ Err d) ⊎ ((x : A) × (r ≡ Ok x) × (f x ≡ Err d))
bind_err (Ok x) f d e = inr (x, refl, e)
bind_err (Err c) f d e = inl cc

-- a test that didn't fail
pub guard_ok : {A : Type 0} (b : Bool) (d : CellFault) (x y : Result A CellFault) → cond b (Err d) x ≡ y → (z : A) → y ≡ Ok z
    → (b ≡ false) × (x ≡ Ok z)
guard_ok true d x y e z is = absurd (let both = e ∙ is in cc)
guard_ok false d x y e z is = (refl, e ∙ is)

abbrev pub done : {A : Type 0} → A → Result A CellFault
done x = Ok x

pub ok_is : {A : Type 0} (x y : A) → done x ≡ done y → x ≡ y
ok_is x y e = cc

-- a text at the front spells the value
pub record Takes {A : Type 0} (spells : List ℕ → A → Type 0) (bytes : List ℕ) (x : A) (rest : List ℕ) : Type 0 where
  pub text : List ℕ
  pub parts : bytes ≡ text ++ rest
  pub is : spells text x

pub record IsField {A : Type 0} (read : List ℕ → Result (A × List ℕ) CellFault) (spells : List ℕ → A → Type 0) : Type 0 where
  pub takes : (bytes : List ℕ) (x : A) (rest : List ℕ) → read bytes ≡ Ok (x, rest) → Takes spells bytes x rest
  pub again : (text rest : List ℕ) (x : A) → spells text x → read (text ++ rest) ≡ Ok (x, rest)

-- a value and the bytes behind it, as what was read
abbrev pub field_done : {A : Type 0} → A → List ℕ → Result (A × List ℕ) CellFault
field_done x rest = Ok (x, rest)

pub field_value : {A : Type 0} (x y : A) (a b : List ℕ) → field_done x a ≡ field_done y b → x ≡ y
field_value x y a b e = ap (λ p. p.0) (ok_is (x, a) (y, b) e)

pub field_rest : {A : Type 0} (x y : A) (a b : List ℕ) → field_done x a ≡ field_done y b → a ≡ b
field_rest x y a b e = ap (λ p. p.1) (ok_is (x, a) (y, b) e)

-- no bytes, and always that value
pub empty_field : {A : Type 0} (a : A) → IsField (λ bytes. field_done a bytes) (λ text x. (text ≡ []) × (x ≡ a))
empty_field a = record {
  takes = λ bytes x rest e. record { text = []; parts = field_rest a x bytes rest e; is = (refl, sym (field_value a x bytes rest e)) };
  again = λ text rest x is. rw (is.0, is.1) refl;
}

-- a value that a function makes of another
pub mapped_field : {A B : Type 0} (read : List ℕ → Result (A × List ℕ) CellFault) (spells : List ℕ → A → Type 0) (f : A → B)
    → IsField read spells
    → IsField (λ bytes. read bytes >>= λ x. field_done (f x.0) x.1) (λ text y. (x : A) × spells text x × (y ≡ f x))
mapped_field read spells f field = record {
  takes = λ bytes y rest e.
      let b = bind_ok (read bytes) (λ x. field_done (f x.0) x.1) (y, rest) e in
      let t = field.takes bytes b.0.0 b.0.1 b.1 in
      record {
        text = t.text;
        parts = t.parts ∙ ap (λ tail. t.text ++ tail) (field_rest (f b.0.0) y b.0.1 rest b.2);
        is = (b.0.0, t.is, sym (field_value (f b.0.0) y b.0.1 rest b.2));
      };
  again = λ text rest y is. rw (field.again text rest is.0 is.1, is.2) refl;
}

-- the same field by other words
pub same_field : {A : Type 0} (read : List ℕ → Result (A × List ℕ) CellFault) (spells also : List ℕ → A → Type 0)
    → ((text : List ℕ) (x : A) → spells text x → also text x) → ((text : List ℕ) (x : A) → also text x → spells text x)
    → IsField read spells → IsField read also
same_field read spells also there back field = record {
  takes = λ bytes x rest e. let t = field.takes bytes x rest e in record { text = t.text; parts = t.parts; is = there t.text x t.is };
  again = λ text rest x is. field.again text rest x (back text x is);
}

pub word_is_field : IsField word_field IsWord
unfolding word_field
word_is_field = record {
  takes = λ bytes x rest e.
      let g = guard_ok (nat_lt (length bytes) 4) Outside (field_done (word_at (take 4 bytes) 0) (drop 4 bytes)) _ e (x, rest) refl in
      let long : 4 ≤ length bytes = ltb-false _ _ g.0 in
      let tail = field_rest (word_at (take 4 bytes) 0) x (drop 4 bytes) rest g.1 in
      record {
        text = take 4 bytes;
        parts = sym (take-append-drop 4 bytes) ∙ ap (λ other. take 4 bytes ++ other) tail;
        is = (omega (arith, length-take 4 bytes), sym (field_value (word_at (take 4 bytes) 0) x (drop 4 bytes) rest g.1));
      };
  again = λ text rest x is.
      let long : nat_lt (length (text ++ rest)) 4 ≡ false = le-ltb _ _ (omega (arith, length-append text rest, is.0)) in
      rw (long, take_at text rest 4 is.0, drop_at text rest 4 is.0, is.1) refl;
}

varint_takes : (bytes : List ℕ) (there : Option (ℕ × ℕ)) → varint_at bytes ≡ there → (x : ℕ) (rest : List ℕ)
    → found_field bytes there ≡ Ok (x, rest) → Takes IsVarint bytes x rest
varint_takes bytes None none x rest e = absurd cc
varint_takes bytes (Some pair) is x rest e =
    let begins = found bytes pair.0 pair.1 is in
    let value = field_value pair.0 x (drop pair.1 bytes) rest e in
    let tail : begins.rest ≡ rest
    = sym (drop_at begins.text begins.rest pair.1 (sym begins.long))
    ∙ ap (drop pair.1) (sym begins.parts)
    ∙ field_rest pair.0 x (drop pair.1 bytes) rest e in
    record {
      text = begins.text;
      parts = begins.parts ∙ ap (λ other. begins.text ++ other) tail;
      is = subst (IsVarint begins.text) value begins.spells;
    }

pub varint_is_field : IsField varint_field IsVarint
unfolding varint_field
varint_is_field = record {
  takes = λ bytes x rest e. varint_takes bytes (varint_at bytes) refl x rest e;
  again = λ text rest x is. rw (again text rest x is, drop_at text rest (length text) refl) refl;
}

-- ---- the fields of a cell

pub word_if_is_field : (there : Bool) → IsField (word_if there) (IsWordIf there)
unfolding word_if
word_if_is_field false = empty_field None
word_if_is_field true = mapped_field word_field IsWord (λ word. Some word) word_is_field

pub signed_is_field : IsField signed_field IsSigned
unfolding signed_field
signed_is_field = mapped_field varint_field IsVarint (λ bits. Some (signed bits)) varint_is_field

pub key_is_field : (kind : Kind) → IsField (key_field kind) (IsKey kind)
unfolding key_field
key_is_field TableLeaf = signed_is_field
key_is_field TableInner = signed_is_field
key_is_field IndexLeaf = empty_field None
key_is_field IndexInner = empty_field None

-- the length of a payload that isn't above the greatest
abbrev pub IsLimited : Kind → List ℕ → ℕ → Type 0
IsLimited kind text payload = IsSize kind text payload × (payload ≤ longest_payload)

limited_is_field : IsField (λ bytes. varint_field bytes >>= limited) (λ text payload. IsVarint text payload × (payload ≤ longest_payload))
limited_is_field = record {
  takes = λ bytes x rest e.
      let b = bind_ok (varint_field bytes) limited (x, rest) e in
      let g = guard_ok (nat_lt longest_payload b.0.0) TooLong (Ok b.0) _ b.2 (x, rest) refl in
      let below : b.0.0 ≤ longest_payload = ltb-false _ _ g.0 in
      let value = field_value b.0.0 x b.0.1 rest g.1 in
      let t = varint_is_field.takes bytes b.0.0 b.0.1 b.1 in
      record {
        text = t.text;
        parts = t.parts ∙ ap (λ other. t.text ++ other) (field_rest b.0.0 x b.0.1 rest g.1);
        is = subst (λ n. IsVarint t.text n × (n ≤ longest_payload)) value (t.is, below);
      };
  again = λ text rest x is.
      let below : nat_lt longest_payload x ≡ false = le-ltb _ _ is.1 in
      rw (varint_is_field.again text rest x is.0, below) refl;
}

pub size_is_field : (kind : Kind) → IsField (size_field kind) (IsLimited kind)
unfolding size_field
size_is_field TableLeaf = limited_is_field
size_is_field TableInner =
    same_field (size_field TableInner) (λ text x. (text ≡ []) × (x ≡ 0)) (IsLimited TableInner)
    (λ text x is. (is, omega (arith, is.1)))
    (λ text x is. is.0)
    (empty_field 0)
size_is_field IndexLeaf = limited_is_field
size_is_field IndexInner = limited_is_field
