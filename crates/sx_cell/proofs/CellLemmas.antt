-- Reading a cell, and the cell that stands there.
use Rattle.std.proofs.Common.{◌≡◌, ◌↔◌, ℕ, ℤ, ◌+◌, ◌-◌, ◌≤◌, max, nat_lt, Bool, true, false, List, ◌++◌, length, take, drop, Option, Result, Ok, Err, refl, sym, ap, subst, ◌∙◌, arith}
use Rattle.std.specs.Prelude.{IsSome, IsTrue, IfOk}
use Rattle.std.proofs.lemmas.Bool.{ltb-true, ltb-false, le-ltb, lt-ltb}
use Rattle.std.proofs.lemmas.Bool.Decides.{nat_tests}
use Rattle.std.proofs.lemmas.List.{length-append, length-take, length-drop}
use Rattle.sx_cell.specs.declared.cell.Kind.{Kind}
use Rattle.sx_cell.specs.declared.cell.Kind.TheVariants.{TableLeaf, TableInner, IndexLeaf, IndexInner}
use Rattle.sx_cell.specs.declared.cell.Cell.{Cell}
use Rattle.sx_cell.specs.declared.cell.CellFault.{CellFault}
use Rattle.sx_cell.specs.declared.cell.CellFault.TheVariants.{Outside}
use Rattle.sx_cell.specs.Kinds.{is_table, has_child}
use Rattle.sx_cell.specs.Local.{longest_local, least_local, local_below, local_of}
use Rattle.sx_cell.specs.Fields.{◌>>=◌}
use Rattle.sx_cell.specs.Reading.{Head, head_at, body_at, owned, cell_at, cell_of}
use Rattle.sx_cell.specs.Cells.{IsWordIf, IsKey, Texts, spelled, head_len, whole_len, IsSpelled, StandsAt, HasRanges, WasRead}
use Rattle.sx_cell.proofs.FieldLemmas.{bind_ok, guard_ok, ok_is}
use Rattle.sx_cell.proofs.HeadLemmas.{head_taken, head_again, body_taken, body_again}

-- the fields of the cell stand in front of these bytes
pub record HasFields (kind : Kind) (at usable : ℕ) (bytes : List ℕ) (cell : Cell) : Type 0 where
  pub texts : Texts
  pub rest : List ℕ
  pub parts : bytes ≡ spelled texts rest
  pub fields : IsSpelled kind at usable cell texts

abbrev pub cell_made : Kind → ℕ → ℕ → List ℕ → Head → Option ℕ → List ℕ → Cell
cell_made kind at usable bytes head overflow rest = record {
  at = at;
  len = max 4 (length bytes - length rest);
  child = head.child;
  rowid = head.key;
  payload = head.payload;
  local_at = usable - length head.rest;
  local = local_of kind head.payload usable;
  overflow = overflow;
}

length-spelled : (t : Texts) (rest : List ℕ) → length (spelled t rest) ≡ whole_len t + length rest
length-spelled t rest = simp length-append (omega arith)

length-head : (a b c rest : List ℕ) → length (a ++ (b ++ (c ++ rest))) ≡ length a + (length b + length c) + length rest
length-head a b c rest = simp length-append (omega arith)

-- what was read in front of the payload and behind it are the fields of a cell
pub made_fields : (kind : Kind) (at usable : ℕ) (bytes : List ℕ) (head : Head) (overflow : Option ℕ) (rest : List ℕ) → at + length bytes ≡ usable
    → head_at kind bytes ≡ Ok head → body_at (local_of kind head.payload usable) head.payload head.rest ≡ Ok (overflow, rest)
    → HasFields kind at usable bytes (cell_made kind at usable bytes head overflow rest)
made_fields kind at usable bytes head overflow rest held is_head is_body =
    let local = local_of kind head.payload usable in
    let front = head_taken kind bytes head is_head in
    let body = body_taken local head.payload head.rest overflow rest is_body in
    let t : Texts = record { child = front.child; size = front.size; key = front.key; local = body.local_text; link = body.link } in
    let parts : bytes ≡ spelled t rest = front.parts ∙ ap (λ tail. front.child ++ (front.size ++ (front.key ++ tail))) body.parts in
    let long : length bytes ≡ whole_len t + length rest = ap length parts ∙ length-spelled t rest in
    let behind : length bytes ≡ head_len t + length head.rest = ap length front.parts ∙ length-head front.child front.size front.key head.rest in
    record {
      texts = t;
      rest = rest;
      parts = parts;
      fields = record {
        place = refl;
        child = front.is_child;
        size = front.is_size.0;
        limit = front.is_size.1;
        key = front.is_key;
        local = refl;
        held = body.held;
        link = body.is_link;
        local_at = omega arith;
        len = ap (max 4) (omega arith);
      };
    }

pub cell_taken : (kind : Kind) (at usable : ℕ) (bytes : List ℕ) (cell : Cell) → at + length bytes ≡ usable
    → cell_at kind at usable bytes ≡ Ok cell → HasFields kind at usable bytes cell × (at + cell.len ≤ usable)
unfolding cell_at
cell_taken kind at usable bytes cell held e =
    let h = bind_ok (head_at kind bytes)
    (λ head. body_at (local_of kind head.payload usable) head.payload head.rest
    >>= λ body. owned usable (cell_made kind at usable bytes head body.0 body.1)) cell e in
    let head = h.0 in
    let local = local_of kind head.payload usable in
    let b = bind_ok (body_at local head.payload head.rest) (λ body. owned usable (cell_made kind at usable bytes head body.0 body.1)) cell h.2 in
    let made = cell_made kind at usable bytes head b.0.0 b.0.1 in
    let g = guard_ok (nat_lt usable (at + made.len)) Outside (Ok made) _ b.2 cell refl in
    subst (λ one. HasFields kind at usable bytes one × (at + one.len ≤ usable)) (ok_is made cell g.1)
    (made_fields kind at usable bytes head b.0.0 b.0.1 held h.1 b.1, ltb-false _ _ g.0)

cell_same : (at len payload local_at local : ℕ) (child : Option ℕ) (rowid : Option ℤ) (overflow : Option ℕ) (cell : Cell)
    → cell.at ≡ at → cell.len ≡ len → cell.child ≡ child → cell.rowid ≡ rowid → cell.payload ≡ payload
    → cell.local_at ≡ local_at → cell.local ≡ local → cell.overflow ≡ overflow
    → (record { at = at; len = len; child = child; rowid = rowid; payload = payload; local_at = local_at; local = local; overflow = overflow }) ≡ cell
cell_same at len payload local_at local child rowid overflow cell a b c d e f g h =
    rw (← a, ← b, ← c, ← d, ← e, ← f, ← g, ← h) refl

-- a cell whose fields stand there is read, if what it owns ends within the usable bytes
pub cell_again : (kind : Kind) (at usable : ℕ) (bytes : List ℕ) (cell : Cell) → at + length bytes ≡ usable
    → HasFields kind at usable bytes cell → cell_at kind at usable bytes ≡ owned usable cell
unfolding cell_at
cell_again kind at usable bytes cell held s =
    let t = s.texts in
    let f = s.fields in
    let behind = t.local ++ (t.link ++ s.rest) in
    let head : Head = record { child = cell.child; payload = cell.payload; key = cell.rowid; rest = behind } in
    let local = local_of kind cell.payload usable in
    let front = head_again kind bytes head
    (record { child = t.child; size = t.size; key = t.key; parts = s.parts; is_child = f.child; is_size = (f.size, f.limit); is_key = f.key }) in
    let link = subst (λ n. IsWordIf (nat_lt n cell.payload) t.link cell.overflow) f.local f.link in
    let body = body_again local cell.payload behind cell.overflow s.rest
    (record { local_text = t.local; link = t.link; parts = refl; held = f.held ∙ f.local; is_link = link }) in
    let long : length bytes ≡ whole_len t + length s.rest = ap length s.parts ∙ length-spelled t s.rest in
    let ahead : length bytes ≡ head_len t + length behind = ap length s.parts ∙ length-head t.child t.size t.key behind in
    let len : cell.len ≡ max 4 (length bytes - length s.rest) = f.len ∙ ap (max 4) (omega arith) in
    let local_at : cell.local_at ≡ usable - length behind = f.local_at ∙ omega arith in
    let same = cell_same at (max 4 (length bytes - length s.rest)) cell.payload (usable - length behind) local cell.child cell.rowid cell.overflow cell
    f.place len refl refl refl local_at f.local refl in
    rw (front, body) (ap (owned usable) same)

-- the usable bytes from a place on
pub used_len : (page : List ℕ) (at usable : ℕ) → at ≤ usable → usable ≤ length page → at + length (drop at (take usable page)) ≡ usable
used_len page at usable within held = omega (arith, length-drop at (take usable page), length-take usable page)

pub stands_taken : (kind : Kind) (page : List ℕ) (at usable : ℕ) (cell : Cell) → usable ≤ length page
    → cell_of kind page at usable ≡ Ok cell → StandsAt kind page at usable cell
unfolding cell_of
stands_taken kind page at usable cell held e =
    let bytes = drop at (take usable page) in
    let g = guard_ok (nat_lt usable at) Outside (cell_at kind at usable bytes) _ e cell refl in
    let s = cell_taken kind at usable bytes cell (used_len page at usable (ltb-false _ _ g.0) held) g.1 in
    record { texts = s.0.texts; rest = s.0.rest; parts = s.0.parts; fields = s.0.fields; owned = s.1 }

owned_within : (at usable : ℕ) (cell : Cell) → cell.at ≡ at → at + cell.len ≤ usable → owned usable cell ≡ Ok cell
owned_within at usable cell place within =
    let before : nat_lt usable (cell.at + cell.len) ≡ false = le-ltb _ _ (omega arith) in
    rw before refl

pub stands_again : (kind : Kind) (page : List ℕ) (at usable : ℕ) (cell : Cell) → usable ≤ length page
    → StandsAt kind page at usable cell → cell_of kind page at usable ≡ Ok cell
unfolding cell_of
stands_again kind page at usable cell held s =
    let bytes = drop at (take usable page) in
    let within : at ≤ usable = omega (arith, s.owned) in
    let before : nat_lt usable at ≡ false = le-ltb _ _ within in
    rw before (cell_again kind at usable bytes cell (used_len page at usable within held)
    (record { texts = s.texts; rest = s.rest; parts = s.parts; fields = s.fields })
    ∙ owned_within at usable cell s.fields.place s.owned)

-- ---- what holds of each cell

below_part : (longest payload usable : ℕ) → least_local usable ≤ longest → local_below longest payload usable ≤ payload
unfolding local_below
below_part longest payload usable least = grind (arith, nat_tests)

local_part : (kind : Kind) (payload usable : ℕ) → 480 ≤ usable → local_of kind payload usable ≤ payload
unfolding local_of
local_part TableLeaf payload usable enough = below_part (longest_local TableLeaf usable) payload usable (omega arith)
local_part TableInner payload usable enough = omega arith
local_part IndexLeaf payload usable enough = below_part (longest_local IndexLeaf usable) payload usable (omega arith)
local_part IndexInner payload usable enough = below_part (longest_local IndexInner usable) payload usable (omega arith)

word_there : (there : Bool) (text : List ℕ) (found : Option ℕ) → IsWordIf there text found → IsSome found ↔ IsTrue there
word_there false text found is = rw is.1 (λ some. absurd cc, λ some. absurd cc)
word_there true text found is = rw is.2 (λ some. refl, λ some. refl)

key_there : (kind : Kind) (text : List ℕ) (found : Option ℤ) → IsKey kind text found → IsSome found ↔ IsTrue (is_table kind)
key_there TableLeaf text found is = rw is.2 (λ some. refl, λ some. refl)
key_there TableInner text found is = rw is.2 (λ some. refl, λ some. refl)
key_there IndexLeaf text found is = rw is.1 (λ some. absurd cc, λ some. absurd cc)
key_there IndexInner text found is = rw is.1 (λ some. absurd cc, λ some. absurd cc)

ranges_of : (kind : Kind) (page : List ℕ) (at usable : ℕ) (cell : Cell) → 480 ≤ usable
    → StandsAt kind page at usable cell → HasRanges kind usable cell
ranges_of kind page at usable cell enough s =
    let f = s.fields in
    let linked = word_there (nat_lt cell.local cell.payload) s.texts.link cell.overflow f.link in
    record {
      least = omega (arith, f.len);
      owned = omega (arith, s.owned, f.place);
      child = word_there (has_child kind) s.texts.child cell.child f.child;
      rowid = key_there kind s.texts.key cell.rowid f.key;
      limit = f.limit;
      local = f.local;
      part = rw f.local (local_part kind cell.payload usable enough);
      held = omega (arith, s.owned, f.len, f.local_at, f.held);
      spilled = (
        λ some. ltb-true cell.local cell.payload (linked.0 some),
        λ less. linked.1 (lt-ltb cell.local cell.payload less),
      );
    }

pub has_ranges : (kind : Kind) (page : List ℕ) (at usable : ℕ) (cell : Cell) → 480 ≤ usable → usable ≤ length page
    → cell_of kind page at usable ≡ Ok cell → HasRanges kind usable cell
has_ranges kind page at usable cell enough held e = ranges_of kind page at usable cell enough (stands_taken kind page at usable cell held e)

pub was_read : (kind : Kind) (page : List ℕ) (at usable : ℕ) (cell : Cell) → usable ≤ length page
    → cell_of kind page at usable ≡ Ok cell → WasRead page usable cell
was_read kind page at usable cell held e =
    let s = stands_taken kind page at usable cell held e in
    record { kind = kind; read = ap (λ place. cell_of kind page place usable) s.fields.place ∙ e }

pub read_ranges : (page : List ℕ) (usable : ℕ) (cell : Cell) → 480 ≤ usable → usable ≤ length page
    → (was : WasRead page usable cell) → HasRanges was.kind usable cell
read_ranges page usable cell enough held was = has_ranges was.kind page cell.at usable cell enough held was.read

-- the same of what a function returned
pub found_ranges : (kind : Kind) (page : List ℕ) (at usable : ℕ) (read : Result Cell CellFault) → 480 ≤ usable → usable ≤ length page
    → read ≡ cell_of kind page at usable → IfOk read (HasRanges kind usable)
found_ranges kind page at usable (Ok cell) enough held is = has_ranges kind page at usable cell enough held (sym is)
found_ranges kind page at usable (Err fault) enough held is = tt

pub found_read : (kind : Kind) (page : List ℕ) (at usable : ℕ) (read : Result Cell CellFault) → usable ≤ length page
    → read ≡ cell_of kind page at usable → IfOk read (WasRead page usable)
found_read kind page at usable (Ok cell) held is = was_read kind page at usable cell held (sym is)
found_read kind page at usable (Err fault) held is = tt
