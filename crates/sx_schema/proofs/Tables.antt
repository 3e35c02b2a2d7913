-- The first entry that passes a test.
use Rattle.std.proofs.Common.{◌≡◌, ℕ, ◌+◌, ◌<◌, ◌≤◌, true, false, cond, List, Some, None, length, drop, get_or, ap, ◌∙◌}
use Rattle.std.specs.List.{position_from}
use Rattle.std.proofs.lemmas.List.{at_drop_more, drop_all}
use Rattle.sx_schema.specs.declared.entry.Entry.{Entry as GivenEntry}
use Rattle.sx_schema.specs.Entries.{is_table_named}
use Rattle.sx_schema.specs.GivenEntries.{all_by, entry_by}

-- the entry at a place passes
pub first_here : (name : List ℕ) (entries : List GivenEntry) (entry : GivenEntry) (place : ℕ) → place < length entries
    → is_table_named name (entry_by (get_or entries place entry)) ≡ true
    → position_from (is_table_named name) place (all_by (drop place entries)) ≡ Some place
first_here name entries entry place within is =
    at_drop_more (λ l. position_from (is_table_named name) place (all_by l)) entries place entry within
    ∙ ap (λ b. cond b (Some place) (position_from (is_table_named name) (place + 1) (all_by (drop (place + 1) entries)))) is

-- it doesn't
pub first_later : (name : List ℕ) (entries : List GivenEntry) (entry : GivenEntry) (place : ℕ) → place < length entries
    → is_table_named name (entry_by (get_or entries place entry)) ≡ false
    → position_from (is_table_named name) place (all_by (drop place entries)) ≡ position_from (is_table_named name) (place + 1) (all_by (drop (place + 1) entries))
first_later name entries entry place within is =
    at_drop_more (λ l. position_from (is_table_named name) place (all_by l)) entries place entry within
    ∙ ap (λ b. cond b (Some place) (position_from (is_table_named name) (place + 1) (all_by (drop (place + 1) entries)))) is

-- none is left
pub first_none : (name : List ℕ) (entries : List GivenEntry) (place : ℕ) → length entries ≤ place
    → position_from (is_table_named name) place (all_by (drop place entries)) ≡ None
first_none name entries place past = ap (λ l. position_from (is_table_named name) place (all_by l)) (drop_all place entries past)
