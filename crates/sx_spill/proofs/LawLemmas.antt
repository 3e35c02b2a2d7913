-- What completes a candidate, as a relation.
use Rattle.std.proofs.Common.{◌≡◌, ℕ, zero, suc, ◌-◌, ◌==◌, Bool, true, false, ◌&&◌, if◌then◌else◌, List, [], ◌∷◌, ◌++◌, length, map, take, Option, Some, None, refl, sym, ap, subst, ◌∙◌, arith, eq-eqb}
use Rattle.std.specs.List.{concat}
use Rattle.sx_cell.specs.Local.{need_of}
use Rattle.sx_grammar.specs.Sightings.{Sighting}
use Rattle.sx_spill.specs.Chains.{link_of, trail_of, are_distinct, has_chain}
use Rattle.sx_spill.specs.Completion.{body_of, body_in, bodies_of, payload_from, completed_by, completed_of, IsChain, IsCompleted}
use Rattle.sx_spill.specs.Unused.{Unused}
use Rattle.sx_spill.proofs.BoolLemmas.{and_both}
use Rattle.sx_spill.proofs.ChainLemmas.{look, absent, present, trail_none, trail_some, trail_zero, chain_long, chain_apart}

-- the pages of a trail
record HasPages (pages : Unused) (link : ℕ) (numbers : List ℕ) : Type 0 where
  bytes : List (List ℕ)
  chain : IsChain pages.view link numbers bytes
  joined : bodies_of pages numbers ≡ concat (map (body_of pages.usable) bytes)

trail_pages : (pages : Unused) (link n : ℕ) → length (trail_of pages.view link n) ≡ n → HasPages pages link (trail_of pages.view link n)
trail_pages pages link zero long = subst (HasPages pages link) (sym (trail_zero pages.view link)) (record { bytes = []; chain = tt; joined = refl })
trail_pages pages link (suc n) long =
    elim (look pages.view link) [
      | absent none ↦ let clash : 0 ≡ suc n = ap length (sym (trail_none pages.view link (suc n) none)) ∙ long in absurd (omega arith)
      | present page found ↦
          let more : suc (length (trail_of pages.view (link_of page) n)) ≡ suc n = ap length (sym (trail_some pages.view link n page found)) ∙ long in
          let rest = trail_pages pages (link_of page) n (omega arith) in
          subst (HasPages pages link) (sym (trail_some pages.view link n page found)) (record {
            bytes = page ∷ rest.bytes;
            chain = (refl, found, rest.chain);
            joined = ap (λ f. body_in pages.usable f ++ bodies_of pages (trail_of pages.view (link_of page) n)) found
                ∙ ap (λ l. body_of pages.usable page ++ l) rest.joined;
          })
    ]

from_case : (pages : Unused) (sighting : Sighting) (local payload : List ℕ) (link : ℕ) (b : Bool) → sighting.local ≡ Some local → sighting.overflow ≡ Some link
    → has_chain pages.view link (need_of pages.usable (sighting.payload - length local)) ≡ b
    → (if b then Some (local ++ take (sighting.payload - length local) (bodies_of pages (trail_of pages.view link (need_of pages.usable (sighting.payload - length local))))) else None) ≡ Some payload
    → IsCompleted pages sighting payload
from_case pages sighting local payload link true begins first is there =
    let left = sighting.payload - length local in
    let need = need_of pages.usable left in
    let long = chain_long pages.view link need is in
    let rest = trail_pages pages link need long in
    let same : local ++ take left (bodies_of pages (trail_of pages.view link need)) ≡ payload = cc in
    record {
      local = local;
      link = link;
      numbers = trail_of pages.view link need;
      bytes = rest.bytes;
      begins = begins;
      first = first;
      chain = rest.chain;
      distinct = chain_apart pages.view link need is;
      needed = long;
      joined = sym same ∙ ap (λ l. local ++ take left l) rest.joined;
    }
from_case pages sighting local payload link false begins first is there = let clash : None ≡ Some payload = there in absurd cc

by_case : (pages : Unused) (sighting : Sighting) (payload : List ℕ) (local : Option (List ℕ)) (link : Option ℕ) → sighting.local ≡ local → sighting.overflow ≡ link
    → completed_by pages sighting.payload local link ≡ Some payload → IsCompleted pages sighting payload
unfolding payload_from
by_case pages sighting payload None link begins first is = let clash : None ≡ Some payload = is in absurd cc
by_case pages sighting payload (Some local) None begins first is = let clash : None ≡ Some payload = is in absurd cc
by_case pages sighting payload (Some local) (Some link) begins first is =
    from_case pages sighting local payload link (has_chain pages.view link (need_of pages.usable (sighting.payload - length local))) begins first refl is

pub completed_is : (pages : Unused) (sighting : Sighting) (payload : List ℕ) → completed_of pages sighting ≡ Some payload → IsCompleted pages sighting payload
unfolding completed_of
completed_is pages sighting payload is = by_case pages sighting payload sighting.local sighting.overflow refl refl is

-- pages that stand one behind the other are the trail of as many
chain_trail : (view : ℕ → Option (List ℕ)) (link : ℕ) (numbers : List ℕ) (bytes : List (List ℕ)) → IsChain view link numbers bytes → trail_of view link (length numbers) ≡ numbers
chain_trail view link [] bytes is = trail_zero view link
chain_trail view link (number ∷ numbers) [] is = absurd is
chain_trail view link (number ∷ numbers) (page ∷ bytes) is =
    trail_some view link (length numbers) page (ap view (sym is.0) ∙ is.1)
    ∙ ap (λ l. link ∷ l) (chain_trail view (link_of page) numbers bytes is.2)
    ∙ ap (λ n. n ∷ numbers) (sym is.0)

chain_bodies : (pages : Unused) (link : ℕ) (numbers : List ℕ) (bytes : List (List ℕ)) → IsChain pages.view link numbers bytes
    → bodies_of pages numbers ≡ concat (map (body_of pages.usable) bytes)
chain_bodies pages link [] [] is = refl
chain_bodies pages link [] (page ∷ bytes) is = absurd is
chain_bodies pages link (number ∷ numbers) [] is = absurd is
chain_bodies pages link (number ∷ numbers) (page ∷ bytes) is =
    ap (λ f. body_in pages.usable f ++ bodies_of pages numbers) is.1
    ∙ ap (λ l. body_of pages.usable page ++ l) (chain_bodies pages (link_of page) numbers bytes is.2)

trail_chain : (view : ℕ → Option (List ℕ)) (link n : ℕ) (numbers : List ℕ) → trail_of view link n ≡ numbers → length numbers ≡ n → are_distinct numbers ≡ true → has_chain view link n ≡ true
unfolding has_chain
trail_chain view link n numbers is long apart =
    ap (λ t. (length t == n) && are_distinct t) is ∙ and_both (length numbers == n) (are_distinct numbers) (eq-eqb (length numbers) n long) apart

pub completed_again : (pages : Unused) (sighting : Sighting) (payload : List ℕ) → IsCompleted pages sighting payload → completed_of pages sighting ≡ Some payload
unfolding completed_of payload_from
completed_again pages sighting payload is =
    let left = sighting.payload - length is.local in
    let need = need_of pages.usable left in
    let trail = ap (trail_of pages.view is.link) (sym is.needed) ∙ chain_trail pages.view is.link is.numbers is.bytes is.chain in
    let there = trail_chain pages.view is.link need is.numbers trail is.needed is.distinct in
    ap (λ local. completed_by pages sighting.payload local sighting.overflow) is.begins
    ∙ ap (λ link. completed_by pages sighting.payload (Some is.local) link) is.first
    ∙ ap (λ b. if b then Some (is.local ++ take left (bodies_of pages (trail_of pages.view is.link need))) else None) there
    ∙ ap (λ t. Some (is.local ++ take left (bodies_of pages t))) trail
    ∙ ap (λ l. Some (is.local ++ take left l)) (chain_bodies pages is.link is.numbers is.bytes is.chain)
    ∙ ap Some (sym is.joined)
