-- Claims of which each begins behind the end of the one before: a byte is held by one at most.
use Rattle.std.proofs.Common.{◌≡◌, ℕ, ◌+◌, ◌<◌, ◌≤◌, Bool, true, false, ◌&&◌, cond, nat_le, List, [], ◌∷◌, ◌++◌, length, get_or, take, refl, sym, ap, ◌∙◌, arith, All}
use Rattle.std.specs.Prelude.{filter, IsPermutation}
use Rattle.std.proofs.lemmas.List.{append-nil, take_more, take_all}
use Rattle.std.proofs.lemmas.List.Elements.{All-get_or, filter-append}
use borrow.Author.Tests.{lt-ltb, le-ltb, le-leb, lt-leb}
use Rattle.sx_base.specs.declared.label.Label.{Label}
use Rattle.sx_node.specs.Nodes.{NodePage, content_start}
use Rattle.sx_node.specs.Claims.{Claim, LiesWithin, claims_of}
use Rattle.sx_seglist.specs.declared.claimed.Claimed.TheVariants.{None}
use Rattle.sx_seglist.specs.Claims.{holds, tally, claimed_by}
use Rattle.sx_prov.specs.Labels.{node_label}
use Rattle.sx_prov.specs.Filling.{up_to, state_label, Fills}
use Rattle.sx_prov.proofs.Claiming.{tally_permuted, state_case}
use Rattle.sx_prov.proofs.Filling.{length_up_to, up_to_same}

-- ---- which bytes a claim holds

holds_none : (at : ℕ) (claim : Claim) → at < claim.0.start → holds at claim ≡ false
holds_none at claim before = rw (lt-leb claim.0.start at before) refl

and_false : (b : Bool) → (b && false) ≡ false
and_false true = refl
and_false false = refl

holds_past : (at : ℕ) (claim : Claim) → claim.0.start + claim.0.len ≤ at → holds at claim ≡ false
holds_past at claim past = ap (λ b. nat_le claim.0.start at && b) (le-ltb at (claim.0.start + claim.0.len) past) ∙ and_false (nat_le claim.0.start at)

holds_here : (at : ℕ) (claim : Claim) → claim.0.start ≤ at → at < claim.0.start + claim.0.len → holds at claim ≡ true
holds_here at claim low high = rw (le-leb claim.0.start at low, lt-ltb at (claim.0.start + claim.0.len) high) refl

-- the claims that hold a byte, with one claim more
held_more : (at : ℕ) (claims : List Claim) (i : ℕ) (d : Claim) (b : Bool) → i < length claims → holds at (get_or claims i d) ≡ b
    → filter (holds at) (take (i + 1) claims) ≡ filter (holds at) (take i claims) ++ cond b (get_or claims i d ∷ []) []
held_more at claims i d b within is =
    ap (filter (holds at)) (take_more claims i d within)
    ∙ filter-append (holds at) (take i claims) (get_or claims i d ∷ [])
    ∙ ap (λ c. filter (holds at) (take i claims) ++ cond c (get_or claims i d ∷ []) []) is

held_same : (at : ℕ) (claims : List Claim) (i : ℕ) (d : Claim) → i < length claims → holds at (get_or claims i d) ≡ false
    → filter (holds at) (take (i + 1) claims) ≡ filter (holds at) (take i claims)
held_same at claims i d within is = held_more at claims i d false within is ∙ append-nil (filter (holds at) (take i claims))

-- ---- the labels

abbrev pub whole_by : ℕ → List Claim → ℕ → Label
whole_by content claims at = state_label content (claimed_by claims at) at

whole_is : (content at : ℕ) (claims some : List Claim) → filter (holds at) claims ≡ some → whole_by content claims at ≡ state_label content (tally some) at
unfolding claimed_by
whole_is content at claims some is = ap (λ l. state_label content (tally l) at) is

-- the labels up to an end, behind which none of the claims so far holds a byte
pub record IsApart (content usable : ℕ) (claims : List Claim) (map : List Label) (end : ℕ) : Type 0 where
  pub labels : map ≡ up_to (whole_by content claims) end
  pub none : (at : ℕ) → end ≤ at → filter (holds at) claims ≡ []
  pub within : end ≤ usable

pub apart_start : (content usable : ℕ) (claims : List Claim) (map : List Label) → map ≡ [] → IsApart content usable (take 0 claims) map 0
unfolding up_to
apart_start content usable [] map none = record { labels = none; none = λ at low. refl; within = omega arith }
apart_start content usable (claim ∷ claims) map none = record { labels = none; none = λ at low. refl; within = omega arith }

pub apart_long : (content usable : ℕ) (claims : List Claim) (map : List Label) (end : ℕ) → IsApart content usable claims map end → length map ≡ end
apart_long content usable claims map end apart = ap length apart.labels ∙ length_up_to (whole_by content claims) end

-- the bytes up to the next claim
pub record IsGap (content usable : ℕ) (claims more : List Claim) (mid : List Label) (claim : Claim) : Type 0 where
  pub labels : mid ≡ up_to (whole_by content more) claim.0.start
  pub none : (at : ℕ) → claim.0.start ≤ at → filter (holds at) claims ≡ []
  pub within : claim.0.start + claim.0.len ≤ usable

pub gap_put : (content usable : ℕ) (claims : List Claim) (i : ℕ) (d : Claim) (map mid : List Label) (end : ℕ) → i < length claims → All (LiesWithin usable) claims
    → end ≤ (get_or claims i d).0.start → IsApart content usable (take i claims) map end
    → Fills (state_label content None) (length map) (get_or claims i d).0.start map mid
    → IsGap content usable (take i claims) (take (i + 1) claims) mid (get_or claims i d)
gap_put content usable claims i d map mid end within all behind apart fills =
    let claim = get_or claims i d in
    let more = take (i + 1) claims in
    let long = apart_long content usable (take i claims) map end apart in
    let same : (at : ℕ) → at < claim.0.start → filter (holds at) more ≡ filter (holds at) (take i claims) =
    λ at before. held_same at claims i d within (holds_none at claim before) in
    let old : map ≡ up_to (whole_by content more) (length map) =
    apart.labels
    ∙ up_to_same (whole_by content (take i claims)) (whole_by content more) end
    (λ at below. whole_is content at (take i claims) (filter (holds at) more) (sym (same at (omega (arith, below, behind)))) ∙ sym (whole_is content at more (filter (holds at) more) refl))
    ∙ ap (up_to (whole_by content more)) (sym long) in
    record {
      labels = fills (whole_by content more) old (λ at low high. whole_is content at more [] (same at high ∙ apart.none at (omega (arith, low, long))));
      none = λ at low. apart.none at (omega (arith, low, behind));
      within = (All-get_or (LiesWithin usable) claims i d within all).within;
    }

pub gap_long : (content usable : ℕ) (claims more : List Claim) (mid : List Label) (claim : Claim) → IsGap content usable claims more mid claim → length mid ≡ claim.0.start
gap_long content usable claims more mid claim gap = ap length gap.labels ∙ length_up_to (whole_by content more) claim.0.start

-- and those of the claim
pub claim_put : (content usable : ℕ) (claims : List Claim) (i : ℕ) (d : Claim) (mid new : List Label) → i < length claims
    → IsGap content usable (take i claims) (take (i + 1) claims) mid (get_or claims i d)
    → Fills (λ at. (get_or claims i d).1) (length mid) ((get_or claims i d).0.start + (get_or claims i d).0.len) mid new
    → IsApart content usable (take (i + 1) claims) new ((get_or claims i d).0.start + (get_or claims i d).0.len)
claim_put content usable claims i d mid new within gap fills =
    let claim = get_or claims i d in
    let more = take (i + 1) claims in
    let long = gap_long content usable (take i claims) more mid claim gap in
    record {
      labels =
          fills (whole_by content more) (gap.labels ∙ ap (up_to (whole_by content more)) (sym long))
          (λ at low high. whole_is content at more (claim ∷ [])
          (held_more at claims i d true within (holds_here at claim (omega (arith, low, long)) high) ∙ ap (λ l. l ++ claim ∷ []) (gap.none at (omega (arith, low, long)))));
      none = λ at low. held_same at claims i d within (holds_past at claim low) ∙ gap.none at (omega (arith, low));
      within = gap.within;
    }

-- and those behind the last
pub apart_end : (content usable : ℕ) (claims : List Claim) (i : ℕ) (map new : List Label) (end : ℕ) → length claims ≤ i → IsApart content usable (take i claims) map end
    → Fills (state_label content None) (length map) usable map new → new ≡ up_to (whole_by content claims) usable
apart_end content usable claims i map new end past apart fills =
    let all : take i claims ≡ claims = take_all i claims past in
    let long = apart_long content usable (take i claims) map end apart in
    fills (whole_by content claims)
    (apart.labels ∙ ap (λ l. up_to (whole_by content l) end) all ∙ ap (up_to (whole_by content claims)) (sym long))
    (λ at low high. whole_is content at claims [] (ap (filter (holds at)) (sym all) ∙ apart.none at (omega (arith, low, long))))

-- in whatever order the claims are
pub apart_labels : (node : NodePage) (sorted seen : List Claim) (map : List Label) (usable content : ℕ) → content ≡ content_start node → IsPermutation (claims_of node) sorted → seen ≡ sorted
    → map ≡ up_to (whole_by content seen) usable → map ≡ up_to (node_label node) usable
unfolding node_label claimed_by
apart_labels node sorted seen map usable content begins permuted same is =
    is
    ∙ up_to_same (whole_by content seen) (node_label node) usable
    (λ at within. ap (λ place. state_label place (claimed_by seen at) at) begins
    ∙ ap (λ state. state_label (content_start node) state at)
    (ap (λ (l : List Claim). tally (filter (holds at) l)) same ∙ tally_permuted (holds at) (claims_of node) sorted permuted)
    ∙ state_case node at (filter (holds at) (claims_of node)))
