-- A table over more pages than are held says the same of each page.
use Rattle.std.proofs.Common.{◌≡◌, ℕ, Bool, true, false, cond, List, [], length, map, get_or, Option, Some, None, is_some, refl, sym, ap, subst, ◌∙◌}
use Rattle.std.specs.Option.{option_map}
use Rattle.std.proofs.lemmas.Bool.{false≢true}
use Rattle.sx_closure.specs.declared.table.Entry.{Entry}
use Rattle.sx_closure.specs.Graph.{Graph, is_held, all_targets, references_to, only}
use Rattle.sx_closure.specs.Chains.{is_overflow, one_reference, IsLeft}
use Rattle.sx_closure.specs.Tallying.{blank, rank_of, entry_at, count_of, one_of, Table, count_at, one_at, left_by_rank, number_at, left_at, entry_by_rank, widened_table, IsTableOf}
use Rattle.sx_closure.proofs.Tallies.{at_rank, rank_is_some}
use Rattle.sx_closure.proofs.Counting.{to_missing}

none_of : (b : Bool) → (b ≡ true → ⊥) → b ≡ false
none_of false none = refl
none_of true none = absurd (none refl)

count_by : (entries : List Entry) (o : Option ℕ) → count_of (Some (entry_by_rank entries o)) ≡ count_of (option_map (λ rank. get_or entries rank blank) o)
count_by entries None = refl
count_by entries (Some rank) = refl

one_by : (page : ℕ) (entries : List Entry) (o : Option ℕ) → one_of page (Some (entry_by_rank entries o)) ≡ one_of page (option_map (λ rank. get_or entries rank blank) o)
one_by page entries None = refl
one_by page entries (Some rank) = refl

module _ (graph : Graph) (body : ℕ) (numbers : List ℕ) (table : Table) (wider : (page : ℕ) → is_held graph.held page ≡ true → is_held numbers page ≡ true) (is : IsTableOf graph body table) where
  -- nothing refers to a page that isn't among the numbers
  none_to : (page : ℕ) → rank_of numbers page ≡ None → references_to graph page ≡ []
  none_to page ranked =
      let missing : is_held numbers page ≡ false = sym (rank_is_some numbers page) ∙ ap is_some ranked in
      to_missing graph.held page (all_targets graph) (none_of (is_held graph.held page) (λ there. false≢true (sym missing ∙ wider page there)))

  no_one : (page : ℕ) → rank_of numbers page ≡ None → one_at table page ≡ None
  no_one page ranked = is.ones page ∙ ap only (none_to page ranked)

  entry_there : (page rank : ℕ) → rank_of numbers page ≡ Some rank
      → entry_at numbers (map (λ p. entry_by_rank table.entries (rank_of table.held p)) numbers) page ≡ Some (entry_by_rank table.entries (rank_of table.held page))
  entry_there page rank ranked =
      let entries = map (λ p. entry_by_rank table.entries (rank_of table.held p)) numbers in
      ap (option_map (λ r. get_or entries r blank)) ranked
      ∙ ap Some (at_rank numbers page rank (λ p. entry_by_rank table.entries (rank_of table.held p)) blank ranked)

  entry_none : (page : ℕ) → rank_of numbers page ≡ None → entry_at numbers (map (λ p. entry_by_rank table.entries (rank_of table.held p)) numbers) page ≡ None
  entry_none page ranked = ap (option_map (λ r. get_or (map (λ p. entry_by_rank table.entries (rank_of table.held p)) numbers) r blank)) ranked

  count_wide : (page : ℕ) (o : Option ℕ) → rank_of numbers page ≡ o → count_at (widened_table numbers table) page ≡ count_at table page
  unfolding widened_table
  count_wide page None ranked = ap count_of (entry_none page ranked) ∙ sym (is.counts page ∙ ap length (none_to page ranked))
  count_wide page (Some rank) ranked = ap count_of (entry_there page rank ranked) ∙ count_by table.entries (rank_of table.held page)

  one_wide : (page : ℕ) (o : Option ℕ) → rank_of numbers page ≡ o → one_at (widened_table numbers table) page ≡ one_at table page
  unfolding widened_table
  one_wide page None ranked = ap (one_of page) (entry_none page ranked) ∙ sym (no_one page ranked)
  one_wide page (Some rank) ranked = ap (one_of page) (entry_there page rank ranked) ∙ one_by page table.entries (rank_of table.held page)

  number_wide : (page rank : ℕ) → rank_of numbers page ≡ Some rank → number_at (widened_table numbers table) page ≡ number_at table page
  unfolding widened_table
  number_wide page rank ranked =
      ap (left_by_rank (map (λ p. number_at table p) numbers)) ranked ∙ at_rank numbers page rank (λ p. number_at table p) None ranked

  left_wide : (page : ℕ) (o : Option ℕ) → rank_of numbers page ≡ o → left_at (widened_table numbers table) page ≡ left_at table page
  left_wide page None ranked =
      let one = no_one page ranked in
      ap (λ found. cond (is_overflow found) (number_at (widened_table numbers table) page) None) (one_wide page None ranked ∙ one)
      ∙ sym (ap (λ found. cond (is_overflow found) (number_at table page) None) one)
  left_wide page (Some rank) ranked =
      ap (λ found. cond (is_overflow found) (number_at (widened_table numbers table) page) None) (one_wide page (Some rank) ranked)
      ∙ ap (λ number. cond (is_overflow (one_at table page)) number None) (number_wide page rank ranked)

  dead_wide : (widened_table numbers table).dead ≡ table.dead
  unfolding widened_table
  dead_wide = refl

  pub wide_table : IsTableOf graph body (widened_table numbers table)
  wide_table = record {
    counts = λ page. count_wide page (rank_of numbers page) refl ∙ is.counts page;
    ones = λ page. one_wide page (rank_of numbers page) refl ∙ is.ones page;
    dead = dead_wide ∙ is.dead;
    lefts = λ page. subst (IsLeft (one_reference graph) body page) (sym (left_wide page (rank_of numbers page) refl)) (is.lefts page);
  }
