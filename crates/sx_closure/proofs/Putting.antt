-- What a table says after the entry of one page was written anew.
use Rattle.std.proofs.Common.{◌≡◌, ℕ, List, set, Option, Some, None, refl, sym, ap, ◌∙◌}
use Rattle.std.proofs.lemmas.Bool.{ne_eqb, eq-eqb}
use Rattle.std.proofs.lemmas.List.{get_or-set_other}
use Rattle.sx_closure.specs.declared.pair.Target.{Target}
use Rattle.sx_closure.specs.declared.table.Entry.{Entry}
use Rattle.sx_closure.specs.Tallying.{blank, rank_of, entry_at, entry_of, count_of, one_of, Table, put_at, put, left_by_rank, number_at, put_left_at, put_left}
use Rattle.sx_closure.proofs.Tallies.{at_rank}

-- two pages of one rank are one
pub one_rank : (held : List ℕ) (page other rank : ℕ) → rank_of held page ≡ Some rank → rank_of held other ≡ Some rank → page ≡ other
one_rank held page other rank one two =
    let same : ℕ → ℕ = λ x. x in
    sym (at_rank held page rank same 0 one) ∙ at_rank held other rank same 0 two

-- ---- of another page it says the same

other_case : (held : List ℕ) (entries : List Entry) (page rank : ℕ) (entry : Entry) (other : ℕ) (o : Option ℕ) → rank_of held page ≡ Some rank → rank_of held other ≡ o
    → (page ≡ other → ⊥) → entry_at held (set entries rank entry) other ≡ entry_at held entries other
other_case held entries page rank entry other None ranked at differ = rw at refl
other_case held entries page rank entry other (Some place) ranked at differ =
    rw at (ap Some (get_or-set_other entries rank place entry blank (λ same. differ (one_rank held page other rank ranked (at ∙ ap Some same)))))

put_case : (table : Table) (page : ℕ) (entry : Entry) (other : ℕ) (o : Option ℕ) → rank_of table.held page ≡ o → (page ≡ other → ⊥)
    → entry_at (put_at table entry o).held (put_at table entry o).entries other ≡ entry_at table.held table.entries other
put_case table page entry other None ranked differ = refl
put_case table page entry other (Some rank) ranked differ = other_case table.held table.entries page rank entry other (rank_of table.held other) ranked refl differ

pub put_other : (table : Table) (page : ℕ) (entry : Entry) (other : ℕ) → (page ≡ other → ⊥)
    → entry_at (put table page entry).held (put table page entry).entries other ≡ entry_at table.held table.entries other
unfolding put
put_other table page entry other differ = put_case table page entry other (rank_of table.held page) refl differ

number_case : (table : Table) (entry : Entry) (other : ℕ) (o : Option ℕ) → number_at (put_at table entry o) other ≡ number_at table other
number_case table entry other None = refl
number_case table entry other (Some rank) = refl

-- the numbers stay
pub put_number : (table : Table) (page : ℕ) (entry : Entry) (other : ℕ) → number_at (put table page entry) other ≡ number_at table other
unfolding put
put_number table page entry other = number_case table entry other (rank_of table.held page)

-- ---- of the page it says what was written

pub count_put : (count : ℕ) (one : Option Target) → count_of (Some (entry_of count one)) ≡ count
count_put count None = refl
count_put count (Some target) = refl

-- where the one reference is there exactly when the count is 1, and names the page
pub one_put_none : (page count : ℕ) → (count ≡ 1 → ⊥) → one_of page (Some (entry_of count None)) ≡ None
one_put_none page count other = rw (ne_eqb count 1 other) refl

pub one_put_some : (page count : ℕ) (target : Target) → count ≡ 1 → target.pair.page ≡ page → one_of page (Some (entry_of count (Some target))) ≡ Some target
one_put_some page count target one at =
    rw (eq-eqb count 1 one) (ap (λ p. Some (record { pair = record { page = p; role = target.pair.role }; source = target.source; rest = target.rest })) (sym at))

-- ---- a number written anew

left_other : (lefts : List (Option ℕ)) (held : List ℕ) (page rank : ℕ) (left : Option ℕ) (other : ℕ) (o : Option ℕ) → rank_of held page ≡ Some rank → rank_of held other ≡ o
    → (page ≡ other → ⊥) → left_by_rank (set lefts rank left) o ≡ left_by_rank lefts o
left_other lefts held page rank left other None ranked at differ = refl
left_other lefts held page rank left other (Some place) ranked at differ =
    get_or-set_other lefts rank place left None (λ same. differ (one_rank held page other rank ranked (at ∙ ap Some same)))

put_left_case : (table : Table) (page : ℕ) (left : Option ℕ) (other : ℕ) (o : Option ℕ) → rank_of table.held page ≡ o → (page ≡ other → ⊥)
    → number_at (put_left_at table left o) other ≡ number_at table other
put_left_case table page left other None ranked differ = refl
put_left_case table page left other (Some rank) ranked differ = left_other table.lefts table.held page rank left other (rank_of table.held other) ranked refl differ

pub put_left_other : (table : Table) (page : ℕ) (left : Option ℕ) (other : ℕ) → (page ≡ other → ⊥) → number_at (put_left table page left) other ≡ number_at table other
unfolding put_left
put_left_other table page left other differ = put_left_case table page left other (rank_of table.held page) refl differ

left_entry : (table : Table) (left : Option ℕ) (other : ℕ) (o : Option ℕ)
    → entry_at (put_left_at table left o).held (put_left_at table left o).entries other ≡ entry_at table.held table.entries other
left_entry table left other None = refl
left_entry table left other (Some rank) = refl

-- the entries stay
pub put_left_entry : (table : Table) (page : ℕ) (left : Option ℕ) (other : ℕ)
    → entry_at (put_left table page left).held (put_left table page left).entries other ≡ entry_at table.held table.entries other
unfolding put_left
put_left_entry table page left other = left_entry table left other (rank_of table.held page)

left_dead : (table : Table) (left : Option ℕ) (o : Option ℕ) → (put_left_at table left o).dead ≡ table.dead
left_dead table left None = refl
left_dead table left (Some rank) = refl

pub put_left_dead : (table : Table) (page : ℕ) (left : Option ℕ) → (put_left table page left).dead ≡ table.dead
unfolding put_left
put_left_dead table page left = left_dead table left (rank_of table.held page)
