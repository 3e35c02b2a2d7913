-- Sets of names and lists of keys.
use Rattle.std.proofs.Common.{◌≡◌, ℕ, ◌+◌, ◌<◌, ◌≤◌, Bool, true, false, ◌||◌, cond, inl, inr, List, length, drop, get_or, refl, ap, sym, subst, ◌∙◌, bytes_eq, Vec, Some, None}
use Rattle.std.specs.Ordering.{nat_cmp, is_eq}
use Rattle.std.specs.Cmp.{eq_by_cmp_equiv}
use Rattle.std.specs.Cmp.Lexicographic.{slice_cmp, bytes_decides, nat_list_cmp_total, nat_list_eq_equiv}
use Rattle.std.specs.List.{list_any, position_from}
use Rattle.std.specs.BTreeSet as sorted
use Rattle.std.specs.BTreeSet.{BTreeSet}
use Rattle.std.specs.Set.{KeepsOthers}
use Rattle.std.specs.Map.{IsKeyTest, AreApart}
use Rattle.std.specs.declared.alloc.Global.{Global}
use Rattle.std.proofs.lemmas.Bool.{cases_Bool, cond-true, cond-false}
use Rattle.std.proofs.lemmas.List.{at_drop_more, drop_all}
use Rattle.std.proofs.lemmas.Map.Text.{is_eq-slice_cmp}
use Rattle.sx_ddl.specs.declared.token.Token.{Token}
use Rattle.sx_ddl.specs.declared.column.Column.{Column}
use Rattle.sx_ddl.specs.Sets.{contains_name}

apart : (bs cs ks : List ℕ) → bytes_eq bs cs ≡ false → bytes_eq bs ks ≡ true → bytes_eq cs ks ≡ false
apart bs cs ks n y = nat_list_eq_equiv.symm cs ks ∙ sym (nat_list_eq_equiv.congr bs ks cs y) ∙ n

apart_in_order : (bs cs ks : List ℕ) → bytes_eq bs cs ≡ false → is_eq (slice_cmp nat_cmp bs ks) ≡ true → is_eq (slice_cmp nat_cmp cs ks) ≡ false
apart_in_order bs cs ks n y = is_eq-slice_cmp cs ks ∙ apart bs cs ks n (sym (is_eq-slice_cmp bs ks) ∙ y)

other_keys : {K : Type 0} (eq : K → K → Bool) (test : K → Bool) (old new : List K) → KeepsOthers eq test old new → (other : K → Bool) → IsKeyTest eq other → AreApart test other → list_any other new ≡ list_any other old
unfolding KeepsOthers
other_keys eq test old new h = h

-- a name more in a set
pub set_with : (bs : List ℕ) (old new : BTreeSet (Vec ℕ Global)) (b : Bool) → sorted.UpdatesBy (λ x y. slice_cmp nat_cmp x.items y.items) (λ k. slice_cmp nat_cmp bs k.items) old new b →
    (cs : List ℕ) → contains_name new cs ≡ cond (bytes_eq bs cs) b (contains_name old cs)
set_with bs old new b h cs =
    elim (cases_Bool (bytes_eq bs cs)) as (λ v. contains_name new cs ≡ cond (bytes_eq bs cs) b (contains_name old cs)) [
      | inl y ↦ subst (λ (l : List ℕ). contains_name new l ≡ b) ((bytes_decides bs cs).0 y) h.1 ∙ sym (cond-true (bytes_eq bs cs) b (contains_name old cs) y)
      | inr n ↦ other_keys _ _ old.keys new.keys h.3 _ (λ x y. (eq_by_cmp_equiv nat_list_cmp_total).congr cs x.items y.items) (λ k. apart_in_order bs cs k.items n) ∙ sym (cond-false (bytes_eq bs cs) b (contains_name old cs) n)
    ]

joined : (spelled old rest : Bool) → (old || (spelled || rest)) ≡ (cond spelled true old || rest)
joined true true rest = refl
joined true false rest = refl
joined false true rest = refl
joined false false rest = refl

-- a key more
pub key_noted : (spelled : Token → Bool) (keys : List Token) (token : Token) (place : ℕ) (old new : Bool) → place < length keys →
    new ≡ cond (spelled (get_or keys place token)) true old → (old || list_any spelled (drop place keys)) ≡ (new || list_any spelled (drop (place + 1) keys))
key_noted spelled keys token place old new h is =
    ap (λ rest. old || rest) (at_drop_more (list_any spelled) keys place token h)
    ∙ joined (spelled (get_or keys place token)) old (list_any spelled (drop (place + 1) keys))
    ∙ ap (λ n. n || list_any spelled (drop (place + 1) keys)) (sym is)

-- no key more
pub keys_noted : (spelled : Token → Bool) (keys : List Token) (place : ℕ) (old : Bool) → length keys ≤ place → (old || list_any spelled (drop place keys)) ≡ old
keys_noted spelled keys place true h = refl
keys_noted spelled keys place false h = ap (list_any spelled) (drop_all place keys h)

-- the first column that passes, from a place on
pub first_here : (passes : Column → Bool) (columns : List Column) (column : Column) (place : ℕ) → place < length columns → passes (get_or columns place column) ≡ true → position_from passes place (drop place columns) ≡ Some place
first_here passes columns column place h is = at_drop_more (position_from passes place) columns place column h ∙ ap (λ b. cond b (Some place) (position_from passes (place + 1) (drop (place + 1) columns))) is

pub first_later : (passes : Column → Bool) (columns : List Column) (column : Column) (place : ℕ) → place < length columns → passes (get_or columns place column) ≡ false → position_from passes place (drop place columns) ≡ position_from passes (place + 1) (drop (place + 1) columns)
first_later passes columns column place h is = at_drop_more (position_from passes place) columns place column h ∙ ap (λ b. cond b (Some place) (position_from passes (place + 1) (drop (place + 1) columns))) is

pub first_none : (passes : Column → Bool) (columns : List Column) (place : ℕ) → length columns ≤ place → position_from passes place (drop place columns) ≡ None
first_none passes columns place h = ap (position_from passes place) (drop_all place columns h)
