-- The roots of entries, one after the other.
use Rattle.std.proofs.Common.{◌≡◌, ℕ, ℤ, ◌+◌, ◌<◌, List, [], ◌∷◌, ◌++◌, Option, Some, None, length, drop, get_or, filter, refl, sym, ap, ◌∙◌, append_assoc}
use Rattle.std.specs.List.{filter_map, cons_option}
use Rattle.std.specs.Option.{option_to_list}
use Rattle.std.proofs.lemmas.List.{at_drop_more}
use Rattle.std.proofs.lemmas.List.Elements.{filter-append}
use Rattle.sx_schema.specs.declared.entry.Entry.{Entry as GivenEntry}
use Rattle.sx_schema.specs.Entries.{Entry, is_some_root, roots_of}
use Rattle.sx_schema.specs.GivenEntries.{all_by, entry_by}

root_first : (root : Option ℤ) (roots : List ℤ) → filter is_some_root (cons_option root roots) ≡ filter is_some_root (option_to_list root) ++ filter is_some_root roots
root_first None roots = refl
root_first (Some root) roots = filter-append is_some_root (root ∷ []) roots

first : (entry : Entry) (entries : List Entry) → roots_of (entry ∷ entries) ≡ filter is_some_root (option_to_list entry.root) ++ roots_of entries
unfolding roots_of
first entry entries = root_first entry.root (filter_map (λ entry. entry.root) entries)

-- the roots so far, and those of the entries to come
pub roots_more : (roots more : List ℤ) (entries : List GivenEntry) (entry : GivenEntry) (place : ℕ) → place < length entries
    → more ≡ roots ++ filter is_some_root (option_to_list (get_or entries place entry).root)
    → roots ++ roots_of (all_by (drop place entries)) ≡ more ++ roots_of (all_by (drop (place + 1) entries))
roots_more roots more entries entry place within is =
    let one = get_or entries place entry in
    let rest = roots_of (all_by (drop (place + 1) entries)) in
    ap (λ l. roots ++ l) (at_drop_more (λ l. roots_of (all_by l)) entries place entry within ∙ first (entry_by one) (all_by (drop (place + 1) entries)))
    ∙ sym (append_assoc roots (filter is_some_root (option_to_list one.root)) rest)
    ∙ ap (λ l. l ++ rest) (sym is)
