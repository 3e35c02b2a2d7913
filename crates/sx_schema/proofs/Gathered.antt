-- The entries of a tree's items, one after the other.
use Rattle.std.proofs.Common.{◌≡◌, List, ◌∷◌, ◌++◌, Option, Some, None, refl, sym, ap, ◌∙◌, append_assoc}
use Rattle.std.specs.List.{filter_map, cons_option}
use Rattle.std.specs.Option.{option_to_list}
use Rattle.sx_tree.specs.declared.item.RowItem.{RowItem}
use Rattle.sx_schema.specs.Entries.{Entry}

in_front : (entry : Option Entry) (entries : List Entry) → cons_option entry entries ≡ option_to_list entry ++ entries
in_front None entries = refl
in_front (Some entry) entries = refl

-- the entries so far, and those of the items to come
pub gathered_more : (make : RowItem → Option Entry) (front more all : List Entry) (item : RowItem) (items rest : List RowItem)
    → items ≡ item ∷ rest → front ++ filter_map make items ≡ all → more ≡ front ++ option_to_list (make item)
    → more ++ filter_map make rest ≡ all
gathered_more make front more all item items rest first is added =
    ap (λ l. l ++ filter_map make rest) added
    ∙ append_assoc front (option_to_list (make item)) (filter_map make rest)
    ∙ ap (λ l. front ++ l) (sym (in_front (make item) (filter_map make rest)))
    ∙ ap (λ l. front ++ filter_map make l) (sym first)
    ∙ is
