-- Kept maps are found by their image, from the newest back.
use Rattle.std.proofs.Common.{◌≡◌, ◌≢◌, ℕ, zero, suc, ◌+◌, ◌^◌, ◌<◌, ◌≤◌, ◌==◌, nat_eq, Bool, true, false, cond, List, [], ◌∷◌, ◌++◌, Option, Some, None, length, map, slice_get, slice_index, slice_index_or, min, refl, sym, ap, ◌∙◌, arith, length-append, inl, inr, eq-or-lt_of_le, subst}
use Rattle.std.specs.Option.{option_map}
use Rattle.std.specs.Ordering.{nat_cmp, is_eq}
use Rattle.std.specs.List.{Contains, range_with_len}
use Rattle.std.specs.Prelude.{Result, OnOk, IfOk, OnErr}
use Rattle.std.specs.declared.result.Result.TheVariants.{Ok, Err}
use Rattle.std.specs.Prelude.{IsSome}
use Rattle.sx_base.specs.Maps.{lock_page_of}
use Rattle.sx_base.specs.declared.layout.Layout.{Layout}
use Rattle.sx_base.specs.declared.label.Label.TheVariants.{LockPage}
use Rattle.sx_closure.specs.Tallying.{Table}
use Rattle.sx_prov.specs.Keys.{key_of, keyed_labels, table_labels, viewed_labels}
use Rattle.std.proofs.lemmas.Bool.{eqb-true, cases_lt}
use Rattle.std.proofs.lemmas.Bool.Decides.{nat_tests}
use Rattle.std.proofs.lemmas.List.{length-map, map-append, get_or-map, get_or_append_left}
use Rattle.std.proofs.Math.Seq.{get_or-append_seam}
use Rattle.sx_chain.proofs.Linked.{chained_more, chained_none}
use Rattle.std.proofs.lemmas.Option.{slice_get-map, slice_get_read}
use Rattle.sx_base.specs.Places.{last_place}
use Rattle.sx_base.proofs.Places.{reach, reach_within, last_place-zero, last_place-more, last_place-cut, last_place-same, last_place_passes}
use Rattle.sx_chain.specs.Links.{IsChained}
use Rattle.sx_chain.specs.Newest.{has_number}
use Rattle.sx_prov.specs.declared.key.PageKey.{PageKey}
use Rattle.sx_prov.specs.declared.shelf.Kept.{Kept}
use Rattle.sx_prov.specs.Shelf.{Entry, entry_of, entries_of, images_of, links_of, IsMade, AreKept, IsAsked}

-- behind the last place that passes none does
after_case : (test : ℕ → Bool) (n j : ℕ) (b : Bool) → test n ≡ b → reach (cond b (Some n) (last_place test n)) ≤ j → j < suc n
    → (reach (last_place test n) ≤ j → j < n → test j ≡ false) → test j ≡ false
after_case test n j true is past below lower = absurd (omega arith)
after_case test n j false is past below lower =
    elim (eq-or-lt_of_le below) [
      | inl top ↦ let same : j ≡ n = omega arith in ap test same ∙ is
      | inr less ↦ lower past (omega arith)
    ]

one_more : (n : ℕ) → n + 1 ≡ suc n
one_more n = omega arith

pub none_after : (test : ℕ → Bool) (n j : ℕ) → reach (last_place test n) ≤ j → j < n → test j ≡ false
none_after test zero j past below = absurd (omega arith)
none_after test (suc n) j past below =
    let more : last_place test (suc n) ≡ cond (test n) (Some n) (last_place test n) = subst (λ m. last_place test m ≡ cond (test n) (Some n) (last_place test n)) (one_more n) (last_place-more test n) in
    after_case test n j (test n) refl (rw more at past) below (none_after test n j)

-- the search for the map of an image, a key and bytes: it has come to the last place of the image below one, and none from
-- there on is the one that is sought
pub record IsSought (kept : List Kept) (image : ℕ) (key : PageKey) (view : List ℕ) (found : Option ℕ) : Type 0 where
  pub last : found ≡ last_place (has_number (images_of kept) image) (reach found)
  pub within : reach found ≤ length kept
  pub none : (j : ℕ) → reach found ≤ j → j < length kept → slice_get (entries_of kept) j ≢ Some (record { image = image; key = key; view = view })

abbrev image_in : Option Entry → ℕ
image_in None = 0
image_in (Some entry) = entry.image

-- the entry at a place is of the image at that place
entry_read : (kept : List Kept) (j : ℕ) (entry : Entry) → slice_get (entries_of kept) j ≡ Some entry → slice_index (images_of kept) j ≡ entry.image
entry_read [] j entry is = absurd cc
entry_read (one ∷ kept) zero entry is = ap image_in is
entry_read (one ∷ kept) (suc j) entry is = entry_read kept j entry is

pub apart : false ≡ true → ⊥
apart is = cc

other_image : (kept : List Kept) (image : ℕ) (key : PageKey) (view : List ℕ) (j : ℕ) → has_number (images_of kept) image j ≡ false
    → slice_get (entries_of kept) j ≢ Some (record { image = image; key = key; view = view })
other_image kept image key view j other is =
    let same = entry_read kept j (record { image = image; key = key; view = view }) is in
    let yes : has_number (images_of kept) image j ≡ true = grind (arith, nat_tests, same) in
    apart (sym other ∙ yes)

pub sought_begin : (kept : List Kept) (image : ℕ) (key : PageKey) (view : List ℕ) (newest : Option ℕ)
    → newest ≡ last_place (has_number (images_of kept) image) (length kept) → IsSought kept image key view newest
sought_begin kept image key view newest is =
    let test = has_number (images_of kept) image in
    let n = length kept in
    let small = reach_within test n in
    let cut : min n (reach (last_place test n)) ≡ reach (last_place test n) = omega (arith, small) in
    rw is (record {
      last = last_place-cut test n n (omega arith) ∙ ap (last_place test) cut;
      within = small;
      none = λ j past below. other_image kept image key view j (none_after test n j past below);
    })

abbrev key_in : Option Entry → PageKey → PageKey
key_in None key = key
key_in (Some entry) key = entry.key

abbrev view_in : Option Entry → List ℕ
view_in None = []
view_in (Some entry) = entry.view

not_here : (kept : List Kept) (image : ℕ) (key : PageKey) (view : List ℕ) (place : ℕ) (one : Kept) → place < length kept → one ≡ slice_index_or kept place one
    → (one.key ≡ key → one.view.now ≡ view → ⊥) → slice_get (entries_of kept) place ≢ Some (record { image = image; key = key; view = view })
not_here kept image key view place one below is not_it found =
    let here : slice_get (entries_of kept) place ≡ Some (entry_of one) = slice_get-map entry_of kept place ∙ ap (option_map entry_of) (slice_get_read kept (length kept) place one refl below is) in
    let same = sym here ∙ found in
    not_it (ap (λ o. key_in o key) same) (ap view_in same)

before_is : (kept : List Kept) (place : ℕ) (one : Kept) → IsChained (images_of kept) (links_of kept) → place < length kept → one ≡ slice_index_or kept place one
    → one.before ≡ last_place (has_number (images_of kept) (slice_index (images_of kept) place)) place
before_is kept place one chained below is =
    let long = length-map kept (λ (one : Kept). one.image) in
    ap (λ (k : Kept). k.before) is
    ∙ sym (get_or-map (λ (k : Kept). k.before) kept place one None below)
    ∙ chained.linked place (omega (arith, long, below))

-- the way leads back
pub goes_back : (kept : List Kept) (place : ℕ) (one : Kept) → IsChained (images_of kept) (links_of kept) → place < length kept → one ≡ slice_index_or kept place one
    → reach one.before < place + 1
goes_back kept place one chained below is =
    let small = reach_within (has_number (images_of kept) (slice_index (images_of kept) place)) place in
    omega (arith, small, ap reach (before_is kept place one chained below is))

-- the one in hand isn't it: the one before it with its image is next
pub sought_next : (kept : List Kept) (image : ℕ) (key : PageKey) (view : List ℕ) (place : ℕ) (one : Kept)
    → IsChained (images_of kept) (links_of kept) → IsSought kept image key view (Some place) → one ≡ slice_index_or kept place one
    → (one.key ≡ key → one.view.now ≡ view → ⊥) → IsSought kept image key view one.before
sought_next kept image key view place one chained sought is not_it =
    let test = has_number (images_of kept) image in
    let here = last_place_passes test (place + 1) place (sym sought.last) in
    let same : slice_index (images_of kept) place ≡ image = eqb-true _ _ here.1 in
    let below : place < length kept = omega (arith, sought.within) in
    let before : one.before ≡ last_place test place = before_is kept place one chained below is ∙ ap (λ n. last_place (has_number (images_of kept) n) place) same in
    let small = reach_within test place in
    let cut : min place (reach (last_place test place)) ≡ reach (last_place test place) = omega (arith, small) in
    rw before (record {
      last = last_place-cut test place place (omega arith) ∙ ap (last_place test) cut;
      within = omega (arith, small, below);
      none = λ j past less. elim (cases_lt j place) [
        | inl low ↦ other_image kept image key view j (none_after test place j past low)
        | inr high ↦ elim (cases_lt place j) [
          | inl more ↦ sought.none j (omega arith) less
          | inr top ↦
              let at : place ≡ j = omega arith in
              subst (λ k. slice_get (entries_of kept) k ≢ Some (record { image = image; key = key; view = view })) at (not_here kept image key view place one below is not_it)
        ]
      ];
    })

-- what is found, and that nothing was
pub found_here : (kept : List Kept) (image : ℕ) (key : PageKey) (view : List ℕ) (place : ℕ) (one : Kept) → IsSought kept image key view (Some place)
    → one ≡ slice_index_or kept place one → one.key ≡ key → one.view.now ≡ view
    → slice_get (entries_of kept) place ≡ Some (record { image = image; key = key; view = view })
found_here kept image key view place one sought is same_key same_view =
    let test = has_number (images_of kept) image in
    let here = last_place_passes test (place + 1) place (sym sought.last) in
    let below : place < length kept = omega (arith, sought.within) in
    let same_image : one.image ≡ image = ap (λ (k : Kept). k.image) is ∙ sym (get_or-map (λ (k : Kept). k.image) kept place one 0 below) ∙ eqb-true _ _ here.1 in
    slice_get-map entry_of kept place ∙ ap (option_map entry_of) (slice_get_read kept (length kept) place one refl below is)
    ∙ ap Some (rw (same_image, same_key, same_view) refl)

pub found_nowhere : (kept : List Kept) (image : ℕ) (key : PageKey) (view : List ℕ) → IsSought kept image key view None
    → Contains (entries_of kept) (record { image = image; key = key; view = view }) → ⊥
found_nowhere kept image key view sought there =
    let entry : Entry = record { image = image; key = key; view = view } in
    let long = length-map kept entry_of in
    sought.none there.0 (omega arith) (omega (arith, there.1, long))
    (slice_get_read (entries_of kept) (length (entries_of kept)) there.0 entry refl there.1 (sym there.2))

-- ---- one more

before_more : (numbers : List ℕ) (last number place : ℕ) → place < length numbers → has_number numbers number place ≡ has_number (numbers ++ last ∷ []) number place
before_more numbers last number place below = ap (λ found. nat_eq found number) (sym (get_or_append_left numbers (last ∷ []) 0 place below))

newest_more : (numbers : List ℕ) (last number : ℕ)
    → cond (nat_eq last number) (Some (length numbers)) (last_place (has_number numbers number) (length numbers))
    ≡ last_place (has_number (numbers ++ last ∷ []) number) (length numbers + 1)
newest_more numbers last number =
    let all = numbers ++ last ∷ [] in
    ap (λ rest. cond (nat_eq last number) (Some (length numbers)) rest)
    (last_place-same (has_number numbers number) (has_number all number) (length numbers) (λ place below. before_more numbers last number place below))
    ∙ ap (λ found. cond (nat_eq found number) (Some (length numbers)) (last_place (has_number all number) (length numbers))) (sym (get_or-append_seam numbers last [] 0))
    ∙ sym (last_place-more (has_number all number) (length numbers))

abbrev kept_in : Option Kept → Kept → Kept
kept_in None one = one
kept_in (Some other) one = other

some_same : (one other : Kept) → slice_get (one ∷ []) 0 ≡ Some other → one ≡ other
some_same one other is = ap (λ (o : Option Kept). kept_in o one) is

none_same : (other : Kept) → (let o : Option Kept = None in o) ≡ Some other → ⊥
none_same other is = cc

made_more : (kept : List Kept) (one : Kept) → IsMade one → ((i : ℕ) (other : Kept) → slice_get kept i ≡ Some other → IsMade other)
    → (i : ℕ) (other : Kept) → slice_get (kept ++ one ∷ []) i ≡ Some other → IsMade other
made_more [] one is made zero other there = let same : one ≡ other = some_same one other there in subst IsMade same is
made_more [] one is made (suc i) other there = absurd (none_same other there)
made_more (first ∷ kept) one is made zero other there = made zero other there
made_more (first ∷ kept) one is made (suc i) other there = made_more kept one is (λ k x at. made (suc k) x at) i other there

-- a map more behind the others
pub kept_more : (kept : List Kept) (one : Kept) (newest newer : ℕ → Option ℕ) → AreKept kept newest → one.before ≡ newest one.image → IsMade one
    → length kept + 1 < 2 ^ 32 → ((image : ℕ) → newer image ≡ cond (nat_eq one.image image) (Some (length kept)) (newest image))
    → AreKept (kept ++ one ∷ []) newer
kept_more kept one newest newer are before is few updated =
    let images = map-append (λ (k : Kept). k.image) kept (one ∷ []) in
    let links = map-append (λ (k : Kept). k.before) kept (one ∷ []) in
    let long = length-map kept (λ (k : Kept). k.image) in
    let more = length-append kept (one ∷ []) in
    let chained = chained_more (images_of kept) (links_of kept) one.image one.before are.chained (omega (arith, long, few))
    (before ∙ are.newest_are one.image ∙ ap (last_place (has_number (images_of kept) one.image)) (sym long)) in
    record {
      chained = rw (images, links) chained;
      newest_are = λ image.
          updated image
          ∙ ap (λ rest. cond (nat_eq one.image image) (Some (length kept)) rest) (are.newest_are image)
          ∙ ap (λ n. cond (nat_eq one.image image) (Some n) (last_place (has_number (images_of kept) image) n)) (sym long)
          ∙ newest_more (images_of kept) one.image image
          ∙ ap (λ l. last_place (has_number l image) (length (images_of kept) + 1)) (sym images)
          ∙ ap (last_place (has_number (images_of (kept ++ one ∷ [])) image)) (omega (arith, long, more));
      made = made_more kept one is are.made;
    }

pub same_key : (image other : ℕ) → is_eq (nat_cmp image other) ≡ nat_eq image other
same_key image other = grind (arith, nat_tests)

-- ---- what was asked for

last_there : (old : List Entry) (entry : Entry) → slice_get (old ++ entry ∷ []) (length old) ≡ Some entry
last_there [] entry = refl
last_there (first ∷ old) entry = last_there old entry

-- a map was made for it, or there was no room
pub asked_made : {E : Type 0} (old new : List Kept) (one : Kept) (result : Result ℕ E) → (Contains (entries_of old) (entry_of one) → ⊥)
    → OnOk result (new ≡ old ++ one ∷ []) → IfOk result (λ place. place ≡ length old) → OnErr result (new ≡ old)
    → IsAsked (entries_of old) (entries_of new) (entry_of one) result
asked_made old new one (Ok place) never made at kept =
    let entries : entries_of new ≡ entries_of old ++ entry_of one ∷ [] = ap entries_of made ∙ map-append entry_of old (one ∷ []) in
    let where_it_is : place ≡ length (entries_of old) = at ∙ sym (length-map old entry_of) in
    (rw (entries, where_it_is) (last_there (entries_of old) (entry_of one)), inr (never, entries))
asked_made old new one (Err e) never made at kept = (never, ap entries_of kept)

pub some_view : {A : Type 0} (o : Option A) → IsSome o → (x : A) × (o ≡ Some x)
some_view None some = absurd cc
some_view (Some x) some = (x, refl)

labels_case : (table : Table) (layout : Layout) (view : ℕ → Option (List ℕ)) (page : ℕ) (bytes : List ℕ) (lock : Bool) → (page == lock_page_of layout.page_size) ≡ lock
    → page ≢ lock_page_of layout.page_size → view page ≡ Some bytes
    → cond lock (map (λ at. LockPage) (range_with_len 0 layout.page_size)) (viewed_labels table layout.page_size layout.usable page (view page)) ≡ keyed_labels (key_of table layout.usable page) bytes
labels_case table layout view page bytes true is other viewed = absurd (other (eqb-true _ _ is))
labels_case table layout view page bytes false is other viewed = ap (viewed_labels table layout.page_size layout.usable page) viewed

-- the labels of a page with a view are those of its key
pub labels_by_key : (table : Table) (layout : Layout) (view : ℕ → Option (List ℕ)) (page : ℕ) (bytes : List ℕ) → page ≢ lock_page_of layout.page_size → view page ≡ Some bytes
    → table_labels table layout view page ≡ keyed_labels (key_of table layout.usable page) bytes
unfolding table_labels
labels_by_key table layout view page bytes other viewed = labels_case table layout view page bytes (page == lock_page_of layout.page_size) refl other viewed

no_kept : (i : ℕ) (one : Kept) → slice_get [] i ≡ Some one → ⊥
no_kept i one is = cc

-- no maps
pub kept_none : (kept : List Kept) (newest : ℕ → Option ℕ) → kept ≡ [] → ((image : ℕ) → newest image ≡ None) → AreKept kept newest
kept_none kept newest none unnoted =
    rw none (record {
      chained = chained_none;
      newest_are = λ image. unnoted image ∙ sym (last_place-zero (has_number [] image));
      made = λ i one is. absurd (no_kept i one is);
    })
