-- A list of linked numbers grows by one, and one chain of it is followed.
use Rattle.std.proofs.Common.{◌≡◌, ◌≢◌, ℕ, zero, suc, ◌-◌, replicate, subst, slice_set, ◌+◌, ◌<◌, ◌≤◌, ◌^◌, ◌==◌, Bool, true, false, cond, nat_le, IfSome, min, List, [], ◌∷◌, ◌++◌, Option, Some, None, length, take, get_or, slice_index, slice_index_or, count_by, nat_eq, refl, sym, ap, ◌∙◌, arith, inl, inr, eqb-true, eq-or-lt_of_le, length-append, length-take-le, take-take}
use Rattle.std.proofs.Math.Seq.{get_or-append_seam}
use Rattle.std.specs.List.{Contains}
use Rattle.std.specs.List.{dedup}
use Rattle.std.specs.List.Retain.{IsFiltered, DiffersFromLast}
use Rattle.std.specs.List.Sorted.{IsPermutation, IsSorted, IsStrictlyIncreasing}
use Rattle.std.specs.Ordering.{nat_cmp}
use Rattle.std.proofs.lemmas.List.Filters.{dedup_is}
use Rattle.std.proofs.lemmas.List.Kept.{Contains-dedup_nat}
use Rattle.std.proofs.lemmas.List.Sorted.{Contains-permutation}
use Rattle.std.proofs.lemmas.Map.Keys.{IsStrictlyIncreasing-dedup}
use Rattle.std.proofs.lemmas.Bool.{leb-true, cases_lt}
use Rattle.std.proofs.lemmas.Bool.Decides.{nat_tests}
use Rattle.std.proofs.lemmas.List.{get_or_default, get_or-map, get_or_append_left, length-map, map-append, take_more, get_or-set_same, get_or-set_other, length-set, length-replicate, get_or-replicate}
use Rattle.std.proofs.lemmas.List.Elements.{Contains-get_or}
use Rattle.std.proofs.lemmas.Grind.{get_or_default_zero}
use Rattle.std.proofs.lemmas.List.Sums.{count_by_more_yes, sum_by-take-le}
use Rattle.sx_chain.specs.declared.node.Node.{Node}
use Rattle.sx_base.specs.Places.{last_place}
use Rattle.sx_chain.specs.Newest.{has_number}
use Rattle.sx_chain.specs.Heads.{AreDistinct, AreHeads, place_below}
use Rattle.sx_chain.specs.Links.{IsChained, IsFar, IsSkewed, followed, numbers_of, links_of, fars_of}
use Rattle.sx_base.proofs.Places.{reach, reach_within, last_place-zero, last_place-more, last_place-same, last_place-cut, last_place_passes}

-- a number more at the end leaves the places before it as they are
has_number-before : (numbers : List ℕ) (last number place : ℕ) → place < length numbers
    → has_number (numbers ++ last ∷ []) number place ≡ has_number numbers number place
has_number-before numbers last number place before =
    ap (λ found. nat_eq found number) (get_or_append_left numbers (last ∷ []) 0 place before)

last_place-before : (numbers : List ℕ) (last number bound : ℕ) → bound ≤ length numbers
    → last_place (has_number numbers number) bound ≡ last_place (has_number (numbers ++ last ∷ []) number) bound
last_place-before numbers last number bound within =
    last_place-same (has_number numbers number) (has_number (numbers ++ last ∷ []) number) bound
    (λ place below. sym (has_number-before numbers last number place (omega arith)))

linked_case : (numbers : List ℕ) (links : List (Option ℕ)) (number : ℕ) (previous : Option ℕ) (place : ℕ)
    → IsChained numbers links → previous ≡ last_place (has_number numbers number) (length numbers) → place < length numbers + 1
    → slice_index_or (links ++ previous ∷ []) place None
    ≡ last_place (has_number (numbers ++ number ∷ []) (slice_index (numbers ++ number ∷ []) place)) place
linked_case numbers links number previous place chained is within =
    elim (eq-or-lt_of_le within) [
      | inl last ↦
          let top : place ≡ length numbers = omega arith in
          let at_links : place ≡ length links = omega (arith, chained.long) in
          ap (λ k. get_or (links ++ previous ∷ []) k None) at_links
          ∙ get_or-append_seam links previous [] None
          ∙ is
          ∙ last_place-before numbers number number (length numbers) (omega arith)
          ∙ ap (λ found. last_place (has_number (numbers ++ number ∷ []) found) (length numbers)) (sym (get_or-append_seam numbers number [] 0))
          ∙ ap (λ k. last_place (has_number (numbers ++ number ∷ []) (slice_index (numbers ++ number ∷ []) k)) k) (sym top)
      | inr before ↦
          let below : place < length numbers = omega arith in
          get_or_append_left links (previous ∷ []) None place (omega (arith, chained.long))
          ∙ chained.linked place below
          ∙ last_place-before numbers number (slice_index numbers place) place (omega arith)
          ∙ ap (λ found. last_place (has_number (numbers ++ number ∷ []) found) place) (sym (get_or_append_left numbers (number ∷ []) 0 place below))
    ]

heads_more : (numbers : List ℕ) (number asked : ℕ)
    → cond (nat_eq number asked) (Some (length numbers)) (last_place (has_number numbers asked) (length numbers))
    ≡ last_place (has_number (numbers ++ number ∷ []) asked) (length (numbers ++ number ∷ []))
heads_more numbers number asked =
    let all = numbers ++ number ∷ [] in
    let long : length all ≡ length numbers + 1 = omega (arith, length-append numbers (number ∷ [])) in
    ap (λ rest. cond (nat_eq number asked) (Some (length numbers)) rest)
    (last_place-before numbers number asked (length numbers) (omega arith))
    ∙ ap (λ found. cond (nat_eq found asked) (Some (length numbers)) (last_place (has_number all asked) (length numbers)))
    (sym (get_or-append_seam numbers number [] 0))
    ∙ sym (last_place-more (has_number all asked) (length numbers))
    ∙ ap (last_place (has_number all asked)) (sym long)

-- one number more, linked to the newest of its number
pub chained_more : (numbers : List ℕ) (links : List (Option ℕ)) (number : ℕ) (previous : Option ℕ)
    → IsChained numbers links → length numbers + 1 < 2 ^ 32 → previous ≡ last_place (has_number numbers number) (length numbers)
    → IsChained (numbers ++ number ∷ []) (links ++ previous ∷ [])
chained_more numbers links number previous chained few is =
    let long = length-append numbers (number ∷ []) in
    let long_links = length-append links (previous ∷ []) in
    record {
      few = omega (arith, long);
      long = omega (arith, long, long_links, chained.long);
      linked = λ place within. linked_case numbers links number previous place chained is (omega (arith, long));
    }

-- nothing is linked in the empty list
pub chained_none : IsChained [] []
chained_none = record {
  few = omega arith;
  long = refl;
  linked = λ place within. absurd (omega arith);
}

-- what is known on the way along the chain of a number: `now` steps after `old`, with `found` in hand
pub record IsAlong (numbers : List ℕ) (number before old now : ℕ) (found : Option ℕ) : Type 0 where
  pub newest : found ≡ last_place (has_number numbers number) (reach found)
  pub within : reach found ≤ length numbers
  pub none_between : last_place (has_number numbers number) (min before (length numbers))
      ≡ last_place (has_number numbers number) (min before (reach found))
  pub counted : now + count_by (λ n. n == number) (take (reach found) numbers) ≤ old + count_by (λ n. n == number) numbers
  pub later : old ≤ now

count_less : (numbers : List ℕ) (number low high : ℕ) → low ≤ high
    → count_by (λ n. n == number) (take low numbers) ≤ count_by (λ n. n == number) (take high numbers)
count_less numbers number low high within =
    let part = sum_by-take-le (λ n. cond (n == number) 1 0) (take high numbers) low in
    rw take-take at part

newest_of : (test : ℕ → Bool) (n : ℕ) → last_place test n ≡ last_place test (reach (last_place test n))
newest_of test n =
    let small = reach_within test n in
    let cut : min n (reach (last_place test n)) ≡ reach (last_place test n) = omega arith in
    last_place-cut test n n (omega arith) ∙ ap (last_place test) cut

-- it begins at the head
pub along_head : (numbers : List ℕ) (number before old : ℕ)
    → IsAlong numbers number before old old (last_place (has_number numbers number) (length numbers))
along_head numbers number before old =
    let test = has_number numbers number in
    let small = reach_within test (length numbers) in
    let head = reach (last_place test (length numbers)) in
    let cut : min (min before (length numbers)) head ≡ min before head = omega arith in
    record {
      newest = newest_of test (length numbers);
      within = small;
      none_between = last_place-cut test (length numbers) (min before (length numbers)) (omega arith) ∙ ap (last_place test) cut;
      counted = omega (arith, sum_by-take-le (λ n. cond (n == number) 1 0) numbers head);
      later = omega arith;
    }

-- a link is followed where the place in hand is at or past the bound
pub along_link : (numbers : List ℕ) (number before old now place : ℕ) (next : Option ℕ)
    → IsAlong numbers number before old now (Some place) → before ≤ place
    → next ≡ last_place (has_number numbers (slice_index numbers place)) place
    → IsAlong numbers number before old (now + 1) next
along_link numbers number before old now place next along past is =
    let test = has_number numbers number in
    let here = last_place_passes test (place + 1) place (sym along.newest) in
    let same : slice_index numbers place ≡ number = eqb-true _ _ here.1 in
    let link : next ≡ last_place test place = is ∙ ap (λ found. last_place (has_number numbers found) place) same in
    let small = reach_within test place in
    let one = count_by_more_yes (λ n. n == number) numbers place 0 (omega (arith, along.within)) here.1 in
    let less = count_less numbers number (reach (last_place test place)) place small in
    let cut : min (min before (place + 1)) (reach (last_place test place)) ≡ min before (reach (last_place test place)) = omega arith in
    let kept : min before (place + 1) ≡ before = omega arith in
    rw link (record {
      newest = newest_of test place;
      within = omega (arith, along.within, small);
      none_between = along.none_between
          ∙ ap (last_place test) kept
          ∙ last_place-cut test place before past
          ∙ ap (last_place test) (omega arith);
      counted = omega (arith, along.counted, one, less);
      later = omega (arith, along.later);
    })

-- an earlier item of the number that isn't below the bound is gone to
pub along_far : (numbers : List ℕ) (number before old now place far : ℕ)
    → IsAlong numbers number before old now (Some place) → before ≤ far → far < place → slice_index numbers far ≡ slice_index numbers place
    → IsAlong numbers number before old (now + 1) (Some far)
along_far numbers number before old now place far along past back same =
    let test = has_number numbers number in
    let here = last_place_passes test (place + 1) place (sym along.newest) in
    let there : test far ≡ true = ap (λ n. nat_eq n number) same ∙ here.1 in
    let one = count_by_more_yes (λ n. n == number) numbers place 0 (omega (arith, along.within)) here.1 in
    let less = count_less numbers number (far + 1) place (omega arith) in
    record {
      newest = sym (last_place-more test far ∙ ap (λ b. cond b (Some far) (last_place test far)) there);
      within = omega (arith, along.within);
      none_between = along.none_between ∙ ap (last_place test) (omega arith);
      counted = omega (arith, along.counted, one, less);
      later = omega (arith, along.later);
    }

follow_case : (numbers : List ℕ) (number before old now place far : ℕ) (previous : Option ℕ) (goes : Bool)
    → IsAlong numbers number before old now (Some place) → before ≤ place
    → previous ≡ last_place (has_number numbers (slice_index numbers place)) place
    → IsFar numbers (slice_index numbers place) previous place far → nat_le before far ≡ goes
    → IsAlong numbers number before old (now + 1) (followed previous far before)
follow_case numbers number before old now place far None goes along past is back goes_is = along_link numbers number before old now place None along past is
follow_case numbers number before old now place far (Some next) true along past is back goes_is =
    rw goes_is (along_far numbers number before old now place far along (leb-true before far goes_is) back.0 back.1)
follow_case numbers number before old now place far (Some next) false along past is back goes_is =
    rw goes_is (along_link numbers number before old now place (Some next) along past is)

-- a link is followed, to either end
pub along_follow : (numbers : List ℕ) (number before old now place far : ℕ) (previous : Option ℕ)
    → IsAlong numbers number before old now (Some place) → before ≤ place
    → previous ≡ last_place (has_number numbers (slice_index numbers place)) place
    → IsFar numbers (slice_index numbers place) previous place far
    → IsAlong numbers number before old (now + 1) (followed previous far before)
along_follow numbers number before old now place far previous along past is back =
    follow_case numbers number before old now place far previous (nat_le before far) along past is back refl

falls_case : (numbers : List ℕ) (number place far before next : ℕ) (goes : Bool) → far < place → next < place → reach (Some (cond goes far next)) < place + 1
falls_case numbers number place far before next true back less = omega arith
falls_case numbers number place far before next false back less = omega arith

-- and leads to an earlier place
pub follow_falls : (numbers : List ℕ) (number place far before : ℕ) (previous : Option ℕ)
    → previous ≡ last_place (has_number numbers number) place → IsFar numbers number previous place far
    → reach (followed previous far before) < place + 1
follow_falls numbers number place far before None is back = omega arith
follow_falls numbers number place far before (Some next) is back =
    falls_case numbers number place far before next (nat_le before far) back.0 (last_place_passes (has_number numbers number) place next (sym is)).0

-- below the bound the place in hand is the answer
pub along_found : (numbers : List ℕ) (number before old now place : ℕ)
    → IsAlong numbers number before old now (Some place) → place < before
    → Some place ≡ last_place (has_number numbers number) (min before (length numbers))
along_found numbers number before old now place along below =
    let cut : place + 1 ≡ min before (place + 1) = omega arith in
    along.newest ∙ ap (last_place (has_number numbers number)) cut ∙ sym along.none_between

-- at the chain's end there is none
pub along_end : (numbers : List ℕ) (number before old now : ℕ) → IsAlong numbers number before old now None
    → None ≡ last_place (has_number numbers number) (min before (length numbers))
along_end numbers number before old now along =
    let none : 0 ≡ min before 0 = omega arith in
    sym (last_place-zero (has_number numbers number))
    ∙ ap (last_place (has_number numbers number)) none
    ∙ sym along.none_between

-- ---- far ends

far_kept : (numbers : List ℕ) (last number own far : ℕ) (previous : Option ℕ) → own ≤ length numbers
    → IsFar numbers number previous own far → IsFar (numbers ++ last ∷ []) number previous own far
far_kept numbers last number own far None within back = back
far_kept numbers last number own far (Some before) within back =
    (back.0, get_or_append_left numbers (last ∷ []) 0 far (omega (arith, back.0)) ∙ back.1)

-- one far end more
pub skewed_more : (numbers : List ℕ) (links : List (Option ℕ)) (fars : List ℕ) (number far : ℕ) (previous : Option ℕ)
    → length links ≡ length numbers → length fars ≡ length numbers → IsSkewed numbers links fars
    → IsFar numbers number previous (length numbers) far
    → IsSkewed (numbers ++ number ∷ []) (links ++ previous ∷ []) (fars ++ far ∷ [])
skewed_more numbers links fars number far previous long_links long_fars skewed back place within =
    let long = length-append numbers (number ∷ []) in
    let upto : place ≤ length numbers = omega (arith, long) in
    elim (eq-or-lt_of_le upto) [
      | inl last ↦
          let at_links : place ≡ length links = omega (arith, long_links) in
          let at_fars : place ≡ length fars = omega (arith, long_fars) in
          let link : slice_index_or (links ++ previous ∷ []) place None ≡ previous = ap (λ k. get_or (links ++ previous ∷ []) k None) at_links ∙ get_or-append_seam links previous [] None in
          let own : slice_index (fars ++ far ∷ []) place ≡ far = ap (λ k. get_or (fars ++ far ∷ []) k 0) at_fars ∙ get_or-append_seam fars far [] 0 in
          let this : slice_index (numbers ++ number ∷ []) place ≡ number = ap (λ k. get_or (numbers ++ number ∷ []) k 0) last ∙ get_or-append_seam numbers number [] 0 in
          rw (link, own, this, last) (far_kept numbers number number (length numbers) far previous (omega arith) back)
      | inr below ↦
          let link : slice_index_or (links ++ previous ∷ []) place None ≡ slice_index_or links place None = get_or_append_left links (previous ∷ []) None place (omega (arith, long_links)) in
          let own : slice_index (fars ++ far ∷ []) place ≡ slice_index fars place = get_or_append_left fars (far ∷ []) 0 place (omega (arith, long_fars)) in
          let this : slice_index (numbers ++ number ∷ []) place ≡ slice_index numbers place = get_or_append_left numbers (number ∷ []) 0 place below in
          rw (link, own, this) (far_kept numbers number (slice_index numbers place) place (slice_index fars place) (slice_index_or links place None) (omega arith) (skewed place below))
    ]

-- the far end that a node holds
pub far_read : (nodes : List Node) (place : ℕ) (node : Node) → IsSkewed (numbers_of nodes) (links_of nodes) (fars_of nodes)
    → place < length (numbers_of nodes) → node ≡ get_or nodes place node
    → IsFar (numbers_of nodes) (slice_index (numbers_of nodes) place) (place_below node.end) place node.far
far_read nodes place node skewed within is =
    let below : place < length nodes = omega (arith, length-map nodes (λ n. n.number)) in
    let link : slice_index_or (links_of nodes) place None ≡ (place_below node.end) = get_or-map (λ n. place_below n.end) nodes place node None below ∙ ap (λ n. place_below n.end) (sym is) in
    let far : slice_index (fars_of nodes) place ≡ node.far = get_or-map (λ n. n.far) nodes place node 0 below ∙ ap (λ n. n.far) (sym is) in
    let known = skewed place within in
    rw (link, far) at known

back_case : (numbers : List ℕ) (number place far : ℕ) (previous : Option ℕ) → slice_index numbers place ≡ number → IsFar numbers number previous place far
    → (far ≤ place) × (slice_index numbers far ≡ number)
back_case numbers number place far None here back = (omega (arith, back), ap (slice_index numbers) back ∙ here)
back_case numbers number place far (Some before) here back = (omega (arith, back.0), back.1)

-- it is an item of the same number, and no later one
pub far_back : (nodes : List Node) (place : ℕ) (node : Node) → IsSkewed (numbers_of nodes) (links_of nodes) (fars_of nodes)
    → place < length (numbers_of nodes) → node ≡ get_or nodes place node
    → (node.far ≤ place) × (slice_index (numbers_of nodes) node.far ≡ slice_index (numbers_of nodes) place)
far_back nodes place node skewed within is =
    back_case (numbers_of nodes) (slice_index (numbers_of nodes) place) place node.far (place_below node.end) refl (far_read nodes place node skewed within is)

-- a node that isn't there
abbrev pub no_node : Node
no_node = record { number = 0; end = 0; far = 0; span = 0 }

-- the same of a place that is read
pub far_at : (nodes : List Node) (place : ℕ) (d : Node) → IsSkewed (numbers_of nodes) (links_of nodes) (fars_of nodes) → place < length nodes
    → ((get_or nodes place d).far ≤ place) × (slice_index (numbers_of nodes) (get_or nodes place d).far ≡ slice_index (numbers_of nodes) place)
far_at nodes place d skewed within =
    far_back nodes place (get_or nodes place d) skewed (omega (arith, length-map nodes (λ n. n.number), within)) (get_or_default nodes place d (get_or nodes place d) within)

-- and of the far item's own
pub far_twice : (nodes : List Node) (place : ℕ) (d e : Node) → IsSkewed (numbers_of nodes) (links_of nodes) (fars_of nodes) → place < length nodes
    → ((get_or nodes (get_or nodes place d).far e).far ≤ place) × (slice_index (numbers_of nodes) (get_or nodes (get_or nodes place d).far e).far ≡ slice_index (numbers_of nodes) place)
far_twice nodes place d e skewed within =
    let near = far_at nodes place d skewed within in
    let further = far_at nodes (get_or nodes place d).far e skewed (omega (arith, near.0)) in
    (omega (arith, near.0, further.0), further.1 ∙ near.1)

-- the newest of a number is an item of it
pub head_there : (nodes : List Node) (number : ℕ) (previous : Option ℕ)
    → previous ≡ last_place (has_number (numbers_of nodes) number) (length (numbers_of nodes))
    → IfSome previous (λ before. (before < length nodes) × (slice_index (numbers_of nodes) before ≡ number))
head_there nodes number None is = tt
head_there nodes number (Some before) is =
    let here = last_place_passes (has_number (numbers_of nodes) number) (length (numbers_of nodes)) before (sym is) in
    (omega (arith, here.0, length-map nodes (λ n. n.number)), eqb-true _ _ here.1)

-- ---- heads

rise_by : (xs : List ℕ) (n i : ℕ) → IsStrictlyIncreasing xs → i + suc n < length xs → slice_index xs i < slice_index xs (i + suc n)
rise_by xs zero i rising below = rising i (omega arith)
rise_by xs (suc n) i rising below =
    let lower = rise_by xs n i rising (omega arith) in
    let next = rising (i + suc n) (omega arith) in
    let at : i + suc n + 1 ≡ i + suc (suc n) = omega arith in
    let last : slice_index xs (i + suc n + 1) ≡ slice_index xs (i + suc (suc n)) = ap (slice_index xs) at in
    omega (arith, lower, next, last)

rise_far : (xs : List ℕ) (i j : ℕ) → IsStrictlyIncreasing xs → i < j → j < length xs → slice_index xs i < slice_index xs j
rise_far xs i j rising before below =
    let at : i + suc (j - i - 1) ≡ j = omega arith in
    let less = rise_by xs (j - i - 1) i rising (omega arith) in
    let last : slice_index xs (i + suc (j - i - 1)) ≡ slice_index xs j = ap (slice_index xs) at in
    omega (arith, less, last)

-- numbers that rise don't fall
pub rise_upto : (xs : List ℕ) → IsStrictlyIncreasing xs → (i j : ℕ) → i ≤ j → j < length xs → slice_index xs i ≤ slice_index xs j
rise_upto xs rising i j upto below =
    elim (eq-or-lt_of_le upto) [
      | inl same ↦ let level : slice_index xs i ≡ slice_index xs j = ap (slice_index xs) same in omega (arith, level)
      | inr before ↦ let less = rise_far xs i j rising before below in omega (arith, less)
    ]

ranks_apart : (xs : List ℕ) (i j : ℕ) → IsStrictlyIncreasing xs → i < length xs → j < length xs → i ≢ j → slice_index xs i ≢ slice_index xs j
ranks_apart xs i j rising low high differ same =
    elim (cases_lt i j) [
      | inl before ↦ let less = rise_far xs i j rising before high in absurd (omega arith)
      | inr behind ↦ let less = rise_far xs j i rising (omega arith) low in absurd (omega arith)
    ]

pub below_end : (n : ℕ) → place_below (n + 1) ≡ Some n
below_end n =
    let some : (n + 1 == 0) ≡ false = grind (arith, nat_tests) in
    let at : n + 1 - 1 ≡ n = omega arith in
    rw (some, at) refl

newer_case : (numbers distinct ends : List ℕ) (number at rank : ℕ) (same : Bool) → nat_eq rank at ≡ same
    → IsStrictlyIncreasing distinct → AreHeads numbers distinct ends → at < length distinct → slice_index distinct at ≡ number → rank < length distinct
    → place_below (slice_index (slice_set ends at (length numbers + 1)) rank)
    ≡ cond (nat_eq number (slice_index distinct rank)) (Some (length numbers)) (last_place (has_number numbers (slice_index distinct rank)) (length numbers))
newer_case numbers distinct ends number at rank true is rising heads within here below =
    let this : rank ≡ at = eqb-true rank at is in
    let own : number ≡ slice_index distinct rank = sym here ∙ ap (slice_index distinct) (sym this) in
    let yes : nat_eq number (slice_index distinct rank) ≡ true = grind (arith, nat_tests) in
    let set : slice_index (slice_set ends at (length numbers + 1)) rank ≡ length numbers + 1
    = ap (slice_index (slice_set ends at (length numbers + 1))) this ∙ get_or-set_same ends at (length numbers + 1) 0 (omega (arith, heads.long)) in
    ap place_below set ∙ below_end (length numbers)
    ∙ ap (λ b. cond b (Some (length numbers)) (last_place (has_number numbers (slice_index distinct rank)) (length numbers))) (sym yes)
newer_case numbers distinct ends number at rank false is rising heads within here below =
    let apart : rank ≢ at = λ same. grind (arith, nat_tests) in
    let differ : slice_index distinct rank ≢ slice_index distinct at = ranks_apart distinct rank at rising below within apart in
    let no : nat_eq number (slice_index distinct rank) ≡ false = grind (arith, nat_tests) in
    let kept : slice_index (slice_set ends at (length numbers + 1)) rank ≡ slice_index ends rank
    = get_or-set_other ends at rank (length numbers + 1) 0 apart in
    ap place_below kept ∙ heads.newest rank below
    ∙ ap (λ b. cond b (Some (length numbers)) (last_place (has_number numbers (slice_index distinct rank)) (length numbers))) (sym no)

-- the end of a number is put behind the number that is added
pub heads_newer : (numbers distinct ends : List ℕ) (number at : ℕ) → IsStrictlyIncreasing distinct → AreHeads numbers distinct ends
    → at < length distinct → slice_index distinct at ≡ number
    → AreHeads (numbers ++ number ∷ []) distinct (slice_set ends at (length numbers + 1))
heads_newer numbers distinct ends number at rising heads within here = record {
  long = length-set ends at (length numbers + 1) ∙ heads.long;
  newest = λ rank below.
      newer_case numbers distinct ends number at rank (nat_eq rank at) refl rising heads within here below
      ∙ heads_more numbers number (slice_index distinct rank);
}

-- the newest of the number of a rank
pub newest_at : (numbers distinct ends : List ℕ) (number rank : ℕ) (previous : Option ℕ) → AreHeads numbers distinct ends
    → rank < length distinct → slice_index distinct rank ≡ number → previous ≡ place_below (slice_index ends rank)
    → previous ≡ last_place (has_number numbers number) (length numbers)
newest_at numbers distinct ends number rank previous heads there here is =
    is ∙ heads.newest rank there ∙ ap (λ n. last_place (has_number numbers n) (length numbers)) here

-- a number between two that are neighbours isn't there
pub not_found : (xs : List ℕ) (x i : ℕ) → ((k : ℕ) → k < i → slice_index xs k < x) → ((k : ℕ) → i ≤ k → k < length xs → x < slice_index xs k)
    → Contains xs x → ⊥
not_found xs x i low high there =
    let at : slice_index xs there.0 ≡ x = sym (get_or_default_zero xs there.0 x there.1) ∙ there.2 in
    elim (cases_lt there.0 i) [
      | inl before ↦ let less = low there.0 before in omega arith
      | inr behind ↦ let more = high there.0 behind there.1 in omega arith
    ]

-- a list sorted, and each number kept once
pub distinct_is : (numbers sorted kept : List ℕ) → IsPermutation numbers sorted → IsSorted nat_cmp sorted → IsFiltered (DiffersFromLast nat_eq) [] sorted kept
    → AreDistinct numbers kept
distinct_is numbers sorted kept moved order filtered =
    let kept_is : kept ≡ dedup nat_eq sorted = dedup_is nat_eq sorted kept filtered in
    record {
      rising = rw kept_is (IsStrictlyIncreasing-dedup sorted order);
      held = λ number there. rw kept_is (Contains-dedup_nat sorted number (Contains-permutation numbers sorted number moved there));
    }

-- no number has one at first
pub heads_none : (distinct ends : List ℕ) → ends ≡ replicate (length distinct) 0 → AreHeads [] distinct ends
heads_none distinct ends is = record {
  long = ap length is ∙ length-replicate (length distinct) 0;
  newest = λ rank below.
      ap (λ l. place_below (slice_index l rank)) is
      ∙ ap place_below (get_or-replicate (length distinct) rank 0 0 below)
      ∙ sym (last_place-zero (has_number [] (slice_index distinct rank)));
}

-- a number that isn't among the distinct ones has no place
none_upto : (numbers : List ℕ) (number n : ℕ) → n ≤ length numbers → (Contains numbers number → ⊥) → last_place (has_number numbers number) n ≡ None
none_upto numbers number zero within never = last_place-zero (has_number numbers number)
none_upto numbers number (suc n) within never =
    let apart : slice_index numbers n ≢ number = λ same. never (subst (Contains numbers) same (Contains-get_or numbers n 0 (omega arith))) in
    let no : has_number numbers number n ≡ false = grind (arith, nat_tests) in
    let one : suc n ≡ n + 1 = omega arith in
    ap (last_place (has_number numbers number)) one
    ∙ last_place-more (has_number numbers number) n
    ∙ ap (λ b. cond b (Some n) (last_place (has_number numbers number) n)) no
    ∙ none_upto numbers number n (omega arith) never

pub head_none : (numbers distinct : List ℕ) (number : ℕ) → AreDistinct numbers distinct → (Contains distinct number → ⊥)
    → None ≡ last_place (has_number numbers number) (length numbers)
head_none numbers distinct number are never =
    sym (none_upto numbers number (length numbers) (omega arith) (λ there. never (are.held number there)))

-- what the loop that links a list keeps: the first numbers are copied and chained, and have their heads
pub record IsBuilt (all : List ℕ) (done : ℕ) (nodes : List Node) (distinct ends : List ℕ) : Type 0 where
  pub copied : numbers_of nodes ≡ take done all
  pub chained : IsChained (numbers_of nodes) (links_of nodes)
  pub skewed : IsSkewed (numbers_of nodes) (links_of nodes) (fars_of nodes)
  pub heads : AreHeads (numbers_of nodes) distinct ends

pub built_none : (all : List ℕ) (nodes : List Node) (distinct ends : List ℕ) → nodes ≡ [] → ends ≡ replicate (length distinct) 0 → IsBuilt all 0 nodes distinct ends
built_none all nodes distinct ends none zeros =
    rw none (record { copied = refl; chained = chained_none; skewed = λ place within. absurd (omega arith); heads = heads_none distinct ends zeros })

pub built_more : (all : List ℕ) (done : ℕ) (nodes now : List Node) (node : Node) (distinct ends after : List ℕ) (rank : ℕ)
    → length all < 2 ^ 32 → done < length all → IsStrictlyIncreasing distinct → IsBuilt all done nodes distinct ends
    → rank < length distinct → slice_index distinct rank ≡ get_or all done 0
    → now ≡ nodes ++ node ∷ [] → node.number ≡ get_or all done 0 → (place_below node.end) ≡ place_below (slice_index ends rank)
    → IsFar (numbers_of nodes) (get_or all done 0) (place_below node.end) done node.far
    → after ≡ slice_set ends rank (done + 1)
    → IsBuilt all (done + 1) now distinct after
built_more all done nodes now node distinct ends after rank few within rising built there here is number previous far put =
    let long : length (numbers_of nodes) ≡ done = ap length built.copied ∙ length-take-le done all (omega arith) in
    let numbers : numbers_of now ≡ numbers_of nodes ++ get_or all done 0 ∷ []
    = ap numbers_of is ∙ map-append (λ n. n.number) nodes (node ∷ []) ∙ ap (λ n. numbers_of nodes ++ n ∷ []) number in
    let links : links_of now ≡ links_of nodes ++ (place_below node.end) ∷ []
    = ap links_of is ∙ map-append (λ n. place_below n.end) nodes (node ∷ []) in
    let fars : fars_of now ≡ fars_of nodes ++ node.far ∷ []
    = ap fars_of is ∙ map-append (λ n. n.far) nodes (node ∷ []) in
    let long_fars : length (fars_of nodes) ≡ length (numbers_of nodes) = length-map nodes (λ n. n.far) ∙ sym (length-map nodes (λ n. n.number)) in
    let far_now : IsFar (numbers_of nodes) (get_or all done 0) (place_below node.end) (length (numbers_of nodes)) node.far = rw long far in
    let newest : (place_below node.end) ≡ last_place (has_number (numbers_of nodes) (get_or all done 0)) (length (numbers_of nodes))
    = previous ∙ built.heads.newest rank there ∙ ap (λ n. last_place (has_number (numbers_of nodes) n) (length (numbers_of nodes))) here in
    let newer = heads_newer (numbers_of nodes) distinct ends (get_or all done 0) rank rising built.heads there here in
    record {
      copied = numbers ∙ ap (λ front. front ++ get_or all done 0 ∷ []) built.copied ∙ sym (take_more all done 0 within);
      chained = rw (numbers, links) (chained_more (numbers_of nodes) (links_of nodes) (get_or all done 0) (place_below node.end) built.chained (omega arith) newest);
      skewed = rw (numbers, links, fars) (skewed_more (numbers_of nodes) (links_of nodes) (fars_of nodes) (get_or all done 0) node.far (place_below node.end)
          built.chained.long long_fars built.skewed far_now);
      heads = rw (numbers, put) (subst (λ n. AreHeads (numbers_of nodes ++ get_or all done 0 ∷ []) distinct (slice_set ends rank (n + 1))) long newer);
    }

-- the link that a node holds
pub link_read : (nodes : List Node) (place : ℕ) (node : Node)
    → IsChained (numbers_of nodes) (links_of nodes) → place < length (numbers_of nodes) → node ≡ get_or nodes place node
    → (place_below node.end) ≡ last_place (has_number (numbers_of nodes) (slice_index (numbers_of nodes) place)) place
link_read nodes place node chained within is =
    ap (λ n. place_below n.end) is
    ∙ sym (get_or-map (λ n. place_below n.end) nodes place node None (omega (arith, length-map nodes (λ n. n.number))))
    ∙ chained.linked place within
