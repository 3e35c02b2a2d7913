-- The table is filled from the root on: its pages are those of the tree.
use Rattle.std.proofs.Common.{◌≡◌, inl, inr, ℕ, ◌+◌, ◌<◌, ◌≤◌, Bool, true, false, cond, ◌&&◌, List, [], ◌∷◌, ◌++◌, Option, Some, None, length, take, slice_get, get_or, is_some, filter, fold, nat_eq, nat_le, if◌then◌else◌, refl, sym, ap, subst, ◌∙◌, arith, append-nil, length-append}
use Rattle.std.specs.List.{flat_map, IsDistinct}
use Rattle.std.specs.Map.{lookup, keys_of}
use Rattle.std.proofs.lemmas.Bool.{cases_lt}
use Rattle.std.proofs.lemmas.List.{take-append-le, take_all, take_more}
use Rattle.std.proofs.lemmas.List.Sums.{fold-append}
use Rattle.std.proofs.lemmas.Option.{slice_get_within, slice_get-get_or, get_or_from_slice_get}
use Rattle.sx_tree.specs.Trees.{Tree, IsBounded, is_held, view_children, children, names, named_by, held_count, tree_pages, references, times}
use Rattle.std.proofs.lemmas.List.Elements.{filter-append}
use Rattle.sx_tree.specs.Tables.{noted}
use Rattle.sx_tree.specs.Walks.{said, has_some, namers}
use Rattle.sx_tree.proofs.Numbers.{has, once_has, once_apart, filter_has}
use Rattle.sx_tree.proofs.Tallies.{IsTally, mark, tally_of}
use Rattle.sx_tree.proofs.Rounds.{names_more, named_grows, held_few, closure_is_tree, tree_closed}

-- the children of the first pages of the table were noted, and each of these was found by those before it
pub record IsFilling (tree : Tree) (done : ℕ) (table : List (ℕ × Bool)) : Type 0 where
  pub within : done ≤ length (keys_of table)
  pub filled : table ≡ fold (noted (is_held tree)) [] (names tree (take done (keys_of table)))
  pub found : (n : ℕ) → n < done → n < length (named_by tree (take n (keys_of table)))

-- the root was noted
pub filling_start : (tree : Tree) (table : List (ℕ × Bool)) → table ≡ noted (is_held tree) [] tree.root → IsFilling tree 0 table
filling_start tree table is = record { within = omega arith; filled = is; found = λ n below. absurd (omega arith) }

filling_tally : (tree : Tree) (done : ℕ) (table : List (ℕ × Bool)) → IsFilling tree done table
    → IsTally (is_held tree) (names tree (take done (keys_of table))) table
filling_tally tree done table filling =
    subst (IsTally (is_held tree) (names tree (take done (keys_of table)))) (sym filling.filled)
    (tally_of (is_held tree) (names tree (take done (keys_of table))))

-- so the table has the pages that these name
filling_keys : (tree : Tree) (done : ℕ) (table : List (ℕ × Bool)) → IsFilling tree done table
    → keys_of table ≡ named_by tree (take done (keys_of table))
filling_keys tree done table filling = (filling_tally tree done table filling).keys

named_held : (tree : Tree) (pages : List ℕ) (q : ℕ) → has (named_by tree pages) q ≡ true → is_held tree q ≡ true
named_held tree pages q there =
    both_true (has (names tree pages) q) (is_held tree q)
    (sym (once_has (filter (is_held tree) (names tree pages)) q ∙ filter_has (is_held tree) (names tree pages) q) ∙ there)
  where
    both_true : (a b : Bool) → (a && b) ≡ true → b ≡ true
    both_true true b is = is
    both_true false b is = let clash : false ≡ true = is in cc

-- no more than are held
pub filling_few : (tree : Tree) (done : ℕ) (table : List (ℕ × Bool)) → IsBounded tree → IsFilling tree done table
    → length (keys_of table) ≤ held_count tree
filling_few tree done table bounds filling =
    let keys = filling_keys tree done table filling in
    held_few tree (keys_of table) bounds
    (subst (IsDistinct nat_eq) (sym keys) (once_apart (filter (is_held tree) (names tree (take done (keys_of table))))))
    (λ q there. named_held tree (take done (keys_of table)) q (ap (λ l. has l q) (sym keys) ∙ there))

more_taken : (keys : List ℕ) (done no_ : ℕ) → slice_get keys done ≡ Some no_ → take (done + 1) keys ≡ take done keys ++ no_ ∷ []
more_taken keys done no_ is =
    take_more keys done 0 (slice_get_within keys done no_ is) ∙ ap (λ n. take done keys ++ n ∷ []) (get_or_from_slice_get keys done no_ 0 is)

one_page : (tree : Tree) (q : ℕ) → flat_map (children tree) (q ∷ []) ≡ children tree q
one_page tree q = append-nil (children tree q)

found_case : (tree : Tree) (done n : ℕ) (old new more : List ℕ) → new ≡ old ++ more → done < length old
    → old ≡ named_by tree (take done old) → ((k : ℕ) → k < done → k < length (named_by tree (take k old)))
    → n < done + 1 → n < length (named_by tree (take n new))
found_case tree done n old new more grown within keys found below =
    let front : take n new ≡ take n old = ap (take n) grown ∙ take-append-le n old more (omega arith) in
    subst (λ l. n < length (named_by tree l)) (sym front)
    (elim (cases_lt n done) [
      | inl early ↦ found n early
      | inr late ↦
          let here : n ≡ done = omega arith in
          let all : length (named_by tree (take n old)) ≡ length old = ap (λ k. length (named_by tree (take k old))) here ∙ ap length (sym keys) in
          omega (arith, all)
    ])

-- how the table grows by the children of one page more
record IsGrown (tree : Tree) (done q : ℕ) (table new : List (ℕ × Bool)) : Type 0 where
  within : done < length (keys_of table)
  made : new ≡ fold (noted (is_held tree)) [] (names tree (take (done + 1) (keys_of table)))
  more : List ℕ
  longer : keys_of new ≡ keys_of table ++ more
  front : take (done + 1) (keys_of new) ≡ take (done + 1) (keys_of table)
  taken : take (done + 1) (keys_of table) ≡ take done (keys_of table) ++ q ∷ []

grown : (tree : Tree) (done q : ℕ) (table new : List (ℕ × Bool)) → IsFilling tree done table → slice_get (keys_of table) done ≡ Some q
    → new ≡ fold (noted (is_held tree)) table (children tree q) → IsGrown tree done q table new
grown tree done q table new filling here is =
    let keys = keys_of table in
    let before = take done keys in
    let note = noted (is_held tree) in
    let within : done < length keys = slice_get_within keys done q here in
    let taken : take (done + 1) keys ≡ before ++ q ∷ [] = more_taken keys done q here in
    let all : names tree before ++ children tree q ≡ names tree (take (done + 1) keys)
    = ap (λ l. names tree before ++ l) (sym (one_page tree q)) ∙ sym (names_more tree before (q ∷ [])) ∙ ap (names tree) (sym taken) in
    let made : new ≡ fold note [] (names tree (take (done + 1) keys))
    = is ∙ ap (λ t. fold note t (children tree q)) filling.filled
    ∙ sym (fold-append note [] (names tree before) (children tree q)) ∙ ap (fold note []) all in
    let tally = subst (IsTally (is_held tree) (names tree (take (done + 1) keys))) (sym made) (tally_of (is_held tree) (names tree (take (done + 1) keys))) in
    let named = named_grows tree before (q ∷ []) in
    let longer : keys_of new ≡ keys ++ named.0
    = tally.keys ∙ ap (named_by tree) taken ∙ named.1 ∙ ap (λ l. l ++ named.0) (sym (filling_keys tree done table filling)) in
    record {
      within = within;
      made = made;
      more = named.0;
      longer = longer;
      front = ap (take (done + 1)) longer ∙ take-append-le (done + 1) keys named.0 (omega arith);
      taken = taken;
    }

-- the children of one page more
pub filling_more : (tree : Tree) (done q : ℕ) (table new : List (ℕ × Bool)) → IsFilling tree done table → slice_get (keys_of table) done ≡ Some q
    → new ≡ fold (noted (is_held tree)) table (children tree q) → IsFilling tree (done + 1) new
filling_more tree done q table new filling here is =
    let g = grown tree done q table new filling here is in
    record {
      within = omega (arith, g.within, ap length g.longer, length-append (keys_of table) g.more);
      filled = g.made ∙ ap (λ l. fold (noted (is_held tree)) [] (names tree l)) (sym g.front);
      found = λ n below. found_case tree done n (keys_of table) (keys_of new) g.more g.longer g.within (filling_keys tree done table filling) filling.found below;
    }

-- those of the first pages that name a child are fewer than this
abbrev pub HasRoom : Tree → ℕ → List (ℕ × Bool) → ℕ → Type 0
HasRoom tree done table room = length (namers tree (take done (keys_of table))) < room

-- none before the first page
pub room_start : (tree : Tree) (table : List (ℕ × Bool)) → HasRoom tree 0 table 1
room_start tree table = omega arith

-- a page that is counted, if it names a child
one_namer : (some named : Bool) (q : ℕ) → (named ≡ false → some ≡ false) → length (cond some (q ∷ []) []) ≤ cond named 1 0
one_namer true true q counted = omega arith
one_namer false true q counted = omega arith
one_namer true false q counted = let clash : true ≡ false = counted refl in absurd cc
one_namer false false q counted = omega arith

none_some : (numbers : List ℕ) → numbers ≡ [] → has_some numbers ≡ false
none_some numbers none = ap has_some none

pub room_more : (tree : Tree) (done q room more : ℕ) (named : Bool) (table new : List (ℕ × Bool)) → IsFilling tree done table → slice_get (keys_of table) done ≡ Some q
    → new ≡ fold (noted (is_held tree)) table (children tree q) → HasRoom tree done table room → (named ≡ false → children tree q ≡ [])
    → room + cond named 1 0 ≤ more → HasRoom tree (done + 1) new more
room_more tree done q room more named table new filling here is before counted grows =
    let g = grown tree done q table new filling here is in
    let test = λ (number : ℕ). has_some (children tree number) in
    let parts : namers tree (take (done + 1) (keys_of new)) ≡ namers tree (take done (keys_of table)) ++ filter test (q ∷ [])
    = ap (namers tree) (g.front ∙ g.taken) ∙ filter-append test (take done (keys_of table)) (q ∷ []) in
    let one = one_namer (has_some (children tree q)) named q (λ not. none_some (children tree q) (counted not)) in
    omega (arith, ap length parts, length-append (namers tree (take done (keys_of table))) (filter test (q ∷ [])), one, before, grows)

past_end : (keys : List ℕ) (n : ℕ) → slice_get keys n ≡ None → length keys ≤ n
past_end keys n none =
    elim (cases_lt n (length keys)) [
      | inl within ↦ let clash : Some (get_or keys n 0) ≡ None = sym (slice_get-get_or keys n 0 within) ∙ none in absurd cc
      | inr past ↦ past
    ]

-- at its end the table has the pages of the tree
pub filling_end : (tree : Tree) (done : ℕ) (table : List (ℕ × Bool)) → IsBounded tree → IsFilling tree done table → slice_get (keys_of table) done ≡ None
    → keys_of table ≡ tree_pages tree
filling_end tree done table bounds filling none =
    let all : take done (keys_of table) ≡ keys_of table = take_all done (keys_of table) (past_end (keys_of table) done none) in
    let past = past_end (keys_of table) done none in
    closure_is_tree tree (keys_of table)
    (record {
      closed = ap (named_by tree) (sym all) ∙ sym (filling_keys tree done table filling);
      found = λ n below. filling.found n (omega (arith, past, filling.within));
    })
    (filling_few tree done table bounds filling)

mark_case : (held named : Bool) (many : ℕ) → mark held named many ≡ (if named && held then Some (nat_le 2 many) else None)
mark_case true true many = refl
mark_case true false many = refl
mark_case false true many = refl
mark_case false false many = refl

-- and says of each what is so
pub filling_says : (tree : Tree) (done : ℕ) (table : List (ℕ × Bool)) → IsBounded tree → IsFilling tree done table → slice_get (keys_of table) done ≡ None
    → (q : ℕ) → lookup (nat_eq q) table ≡ said tree q
unfolding references
filling_says tree done table bounds filling none q =
    let pages : take done (keys_of table) ≡ tree_pages tree
    = take_all done (keys_of table) (past_end (keys_of table) done none) ∙ filling_end tree done table bounds filling none in
    let listed : has (tree_pages tree) q ≡ (has (names tree (tree_pages tree)) q && is_held tree q)
    = ap (λ l. has l q) (sym (tree_closed tree bounds)) ∙ once_has (filter (is_held tree) (names tree (tree_pages tree))) q
    ∙ filter_has (is_held tree) (names tree (tree_pages tree)) q in
    (filling_tally tree done table filling).marks q
    ∙ ap (λ l. mark (is_held tree q) (has (names tree l) q) (times q (names tree l))) pages
    ∙ mark_case (is_held tree q) (has (names tree (tree_pages tree)) q) (times q (names tree (tree_pages tree)))
    ∙ ap (λ b. if b then Some (nat_le 2 (times q (names tree (tree_pages tree)))) else None) (sym listed)

pub children_noted : (tree : Tree) (q : ℕ) (table new : List (ℕ × Bool))
    → new ≡ fold (noted (λ number. is_some (tree.view number))) table (view_children tree.usable q (tree.view q))
    → new ≡ fold (noted (is_held tree)) table (children tree q)
unfolding children
children_noted tree q table new is = is

pub children_none : (tree : Tree) (q : ℕ) (named : Bool) → (named ≡ false → view_children tree.usable q (tree.view q) ≡ [])
    → named ≡ false → children tree q ≡ []
unfolding children
children_none tree q named counted = counted

-- a page more where one names some
pub counted_one : (named : Bool) (room more : ℕ) → named ≡ true → more ≡ room + 1 → room + cond named 1 0 ≤ more
counted_one true room more is counts = omega arith
counted_one false room more is counts = let clash : false ≡ true = is in absurd cc

pub counted_none : (named : Bool) (room more : ℕ) → named ≡ false → more ≡ room → room + cond named 1 0 ≤ more
counted_none true room more is counts = let clash : true ≡ false = is in absurd cc
counted_none false room more is counts = omega arith

-- so there is room
pub filling_room : (tree : Tree) (done room : ℕ) (table : List (ℕ × Bool)) → IsBounded tree → IsFilling tree done table → slice_get (keys_of table) done ≡ None
    → HasRoom tree done table room → length (namers tree (tree_pages tree)) < room
filling_room tree done room table bounds filling none few =
    let pages : take done (keys_of table) ≡ tree_pages tree
    = take_all done (keys_of table) (past_end (keys_of table) done none) ∙ filling_end tree done table bounds filling none in
    subst (λ l. length (namers tree l) < room) pages few

-- a key that was read
pub key_here : (keys : List ℕ) (place q : ℕ) (found : Option ℕ) → found ≡ slice_get keys place → found ≡ Some q → slice_get keys place ≡ Some q
key_here keys place q found read is = sym read ∙ is

pub key_within : (keys : List ℕ) (place q : ℕ) (found : Option ℕ) → found ≡ slice_get keys place → found ≡ Some q → place < length keys
key_within keys place q found read is = slice_get_within keys place q (key_here keys place q found read is)
