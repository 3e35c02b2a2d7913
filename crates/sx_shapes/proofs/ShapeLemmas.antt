-- Shapes in order.
use Rattle.std.proofs.Common.{◌≡◌, ℕ, zero, suc, ◌+◌, ◌<◌, ◌≤◌, Bool, true, false, ◌&&◌, ◌||◌, ◌==◌, nat_lt, if◌then◌else◌, List, [], ◌∷◌, ◌++◌, length, take, drop, get_or, map, Option, Some, None, Result, Ok, Err, not, length-drop, refl, sym, ap, ◌∙◌, arith}
use Rattle.std.proofs.lemmas.Bool.Decides.{nat_tests}
use Rattle.std.proofs.lemmas.List.{length-map, take-append-drop}
use Rattle.sx_ddl.specs.declared.refused.DdlRefused.{DdlRefused}
use Rattle.sx_ddl.specs.Shapes.{Shape, table_of}
use Rattle.sx_schema.specs.declared.entry.Entry.{Entry as GivenEntry}
use Rattle.sx_schema.specs.GivenEntries.{entry_by, all_by}
use Rattle.sx_schema.specs.Entries.{Entry}
use Rattle.sx_grammar.specs.declared.shape.ShapeKey.{ShapeKey}
use Rattle.sx_grammar.specs.Choice.{Rises}
use Rattle.sx_shapes.specs.Shapes.{is_before, with_shape, with_entry, with_entries, entry_shape, text_shape, schema_shape, shape_read, shape_key, is_first}

step_before : (first shape : ShapeKey) (shapes : List ShapeKey) → is_before first shape ≡ true → with_shape (first ∷ shapes) shape ≡ first ∷ with_shape shapes shape
unfolding with_shape
step_before first shape shapes is = rw is refl

-- shapes that come before
pub passed : (at : ℕ) (shapes : List ShapeKey) (shape : ShapeKey) → at ≤ length shapes → ((k : ℕ) → k < at → is_before (get_or shapes k shape) shape ≡ true)
    → with_shape shapes shape ≡ take at shapes ++ with_shape (drop at shapes) shape
passed zero shapes shape within before = refl
passed (suc at) [] shape within before = absurd (omega arith)
passed (suc at) (first ∷ shapes) shape within before =
    step_before first shape shapes (before 0 (omega arith))
    ∙ ap (λ rest. first ∷ rest) (passed at shapes shape (omega arith) (λ k below. before (suc k) (omega arith)))

drop_there : (shapes : List ShapeKey) (at : ℕ) (d : ShapeKey) → at < length shapes → drop at shapes ≡ get_or shapes at d ∷ drop (at + 1) shapes
drop_there [] at d within = absurd (omega arith)
drop_there (first ∷ shapes) zero d within = refl
drop_there (first ∷ shapes) (suc at) d within =
    let count : suc (at + 1) ≡ suc at + 1 = omega arith in
    drop_there shapes at d (omega arith) ∙ ap (λ (k : ℕ). get_or shapes at d ∷ drop k (first ∷ shapes)) count

front_by : (first shape : ShapeKey) (shapes : List ShapeKey) (before : Bool) → is_before first shape ≡ false → is_before shape first ≡ before
    → with_shape (first ∷ shapes) shape ≡ (if not before then first ∷ shapes else shape ∷ first ∷ shapes)
unfolding with_shape
front_by first shape shapes true is also = rw (is, also) refl
front_by first shape shapes false is also = rw (is, also) refl

get_any : (shapes : List ShapeKey) (at : ℕ) (d e : ShapeKey) → at < length shapes → get_or shapes at d ≡ get_or shapes at e
get_any [] at d e within = absurd (omega arith)
get_any (first ∷ shapes) zero d e within = refl
get_any (first ∷ shapes) (suc at) d e within = get_any shapes at d e (omega arith)

-- a place at which a shape stands
pub there_is : (shapes : List ShapeKey) (at : ℕ) (shape d : ShapeKey) (before : Bool) → at < length shapes → is_before (get_or shapes at shape) shape ≡ false → before ≡ is_before shape (get_or shapes at d)
    → with_shape (drop at shapes) shape ≡ (if not before then drop at shapes else shape ∷ drop at shapes)
there_is shapes at shape d before within is same =
    let first = get_or shapes at shape in
    let here = drop_there shapes at shape within in
    ap (λ list. with_shape list shape) here
    ∙ front_by first shape (drop (at + 1) shapes) (is_before shape first) is refl
    ∙ ap (λ list. if not (is_before shape first) then list else shape ∷ list) (sym here)
    ∙ ap (λ other. if not (is_before shape other) then drop at shapes else shape ∷ drop at shapes) (get_any shapes at shape d within)
    ∙ ap (λ b. if not b then drop at shapes else shape ∷ drop at shapes) (sym same)

none_is : (shapes : List ShapeKey) (shape : ShapeKey) → length shapes ≡ 0 → with_shape shapes shape ≡ shape ∷ shapes
unfolding with_shape
none_is [] shape none = refl
none_is (first ∷ shapes) shape none = absurd (omega arith)

-- the end
pub end_is : (shapes : List ShapeKey) (at : ℕ) (shape : ShapeKey) → length shapes ≤ at → with_shape (drop at shapes) shape ≡ shape ∷ drop at shapes
end_is shapes at shape past = none_is (drop at shapes) shape (omega (arith, length-drop at shapes))

pub put_there : (old new : List ShapeKey) (at : ℕ) (shape : ShapeKey) → with_shape old shape ≡ take at old ++ with_shape (drop at old) shape → with_shape (drop at old) shape ≡ shape ∷ drop at old
    → new ≡ take at old ++ shape ∷ drop at old → new ≡ with_shape old shape
put_there old new at shape same here is = is ∙ ap (λ list. take at old ++ list) (sym here) ∙ sym same

pub left_there : (old : List ShapeKey) (at : ℕ) (shape : ShapeKey) → with_shape old shape ≡ take at old ++ with_shape (drop at old) shape → with_shape (drop at old) shape ≡ drop at old → old ≡ with_shape old shape
left_there old at shape same here = sym (same ∙ ap (λ list. take at old ++ list) here ∙ take-append-drop at old)

-- ---- the columns rise

before_le : (one other : ShapeKey) → is_before one other ≡ true → one.columns ≤ other.columns
before_le one other is = columns_le one.columns other.columns one.alias other.alias is
  where
    columns_le : (a b : ℕ) (c d : Bool) → (nat_lt a b || ((a == b) && (c && not d))) ≡ true → a ≤ b
    columns_le a b c d is = grind (arith, nat_tests)

rise_by : (least : ℕ) (first shape : ShapeKey) (shapes : List ShapeKey) (before behind : Bool) → is_before first shape ≡ before → is_before shape first ≡ behind → Rises least (first ∷ shapes) → least ≤ shape.columns
    → (first.columns ≤ shape.columns → Rises first.columns (with_shape shapes shape))
    → Rises least (if before then first ∷ with_shape shapes shape else (if behind then shape ∷ first ∷ shapes else first ∷ shapes))
rise_by least first shape shapes true behind is also rise low further = (rise.0, further (before_le first shape is))
rise_by least first shape shapes false true is also rise low further = (low, (before_le shape first also, rise.1))
rise_by least first shape shapes false false is also rise low further = rise

rise_with : (least : ℕ) (shapes : List ShapeKey) (shape : ShapeKey) → Rises least shapes → least ≤ shape.columns → Rises least (with_shape shapes shape)
unfolding with_shape
rise_with least [] shape rise low = (low, tt)
rise_with least (first ∷ shapes) shape rise low =
    rise_by least first shape shapes (is_before first shape) (is_before shape first) refl refl rise low (λ up. rise_with first.columns shapes shape rise.1 up)

abbrev HasColumn : Option ShapeKey → Type 0
HasColumn None = Unit
HasColumn (Some shape) = 1 ≤ shape.columns

shape_has : (columns : ℕ) (alias some : Bool) (rowid : Bool) → nat_lt 0 columns ≡ some → HasColumn (if rowid && some then Some (shape_key columns alias) else None)
shape_has columns alias true true is = (let low : 0 < columns = grind (arith, nat_tests) in omega arith)
shape_has columns alias true false is = tt
shape_has columns alias false true is = tt
shape_has columns alias false false is = tt

read_has : (read : Result Shape DdlRefused) → HasColumn (shape_read read)
read_has (Ok shape) = shape_has (length shape.names) (is_first shape.alias) (nat_lt 0 (length shape.names)) shape.rowid refl
read_has (Err refused) = tt

text_has : (sql : Option (List ℕ)) → HasColumn (text_shape sql)
unfolding text_shape
text_has None = tt
text_has (Some sql) = read_has (table_of sql)

entry_by_has : (table : Bool) (sql : Option (List ℕ)) → HasColumn (if table then text_shape sql else None)
entry_by_has true sql = text_has sql
entry_by_has false sql = tt

entry_has : (entry : Entry) → HasColumn (entry_shape entry)
unfolding entry_shape
entry_has entry = entry_by_has entry.is_table entry.sql

rise_entry : (shapes : List ShapeKey) (found : Option ShapeKey) → Rises 1 shapes → HasColumn found → Rises 1 (with_entry shapes found)
rise_entry shapes None rise has = rise
rise_entry shapes (Some shape) rise has = rise_with 1 shapes shape rise has

rise_entries : (entries : List Entry) (shapes : List ShapeKey) → Rises 1 shapes → Rises 1 (with_entries shapes entries)
unfolding with_entries
rise_entries [] shapes rise = rise
rise_entries (entry ∷ entries) shapes rise = rise_entries entries (with_entry shapes (entry_shape entry)) (rise_entry shapes (entry_shape entry) rise (entry_has entry))

pub shapes_rise : (entries : List Entry) → Rises 1 (with_entries (schema_shape ∷ []) entries)
shapes_rise entries = rise_entries entries (schema_shape ∷ []) (omega arith, tt)

-- ---- entries, one after the other

drop_entry : (entries : List GivenEntry) (i : ℕ) (entry : GivenEntry) → i < length entries → entry ≡ get_or entries i entry → drop i (map entry_by entries) ≡ entry_by entry ∷ drop (i + 1) (map entry_by entries)
drop_entry [] i entry within is = absurd (omega arith)
drop_entry (first ∷ entries) zero entry within is = ap (λ one. entry_by one ∷ map entry_by entries) (sym is)
drop_entry (first ∷ entries) (suc i) entry within is =
    let count : suc (i + 1) ≡ suc i + 1 = omega arith in
    drop_entry entries i entry (omega arith) is ∙ ap (λ (k : ℕ). entry_by entry ∷ drop k (map entry_by (first ∷ entries))) count

more_entries : (shapes : List ShapeKey) (entry : Entry) (entries : List Entry) → with_entries shapes (entry ∷ entries) ≡ with_entries (with_entry shapes (entry_shape entry)) entries
unfolding with_entries
more_entries shapes entry entries = refl

pub entries_step : (all shapes new : List ShapeKey) (entries : List GivenEntry) (i : ℕ) (entry : GivenEntry) → i < length entries → entry ≡ get_or entries i entry
    → all ≡ with_entries shapes (drop i (all_by entries)) → new ≡ with_entry shapes (entry_shape (entry_by entry)) → all ≡ with_entries new (drop (i + 1) (all_by entries))
entries_step all shapes new entries i entry within is same added =
    same
    ∙ ap (with_entries shapes) (drop_entry entries i entry within is)
    ∙ more_entries shapes (entry_by entry) (drop (i + 1) (all_by entries))
    ∙ ap (λ list. with_entries list (drop (i + 1) (all_by entries))) (sym added)

no_entries : (shapes : List ShapeKey) (entries : List Entry) → length entries ≡ 0 → with_entries shapes entries ≡ shapes
unfolding with_entries
no_entries shapes [] none = refl
no_entries shapes (entry ∷ entries) none = absurd (omega arith)

pub entries_end : (all shapes : List ShapeKey) (entries : List GivenEntry) (i : ℕ) → length entries ≤ i → all ≡ with_entries shapes (drop i (all_by entries)) → shapes ≡ all
entries_end all shapes entries i past same =
    sym (same ∙ no_entries shapes (drop i (all_by entries)) (omega (arith, length-drop i (all_by entries), length-map entries entry_by)))
