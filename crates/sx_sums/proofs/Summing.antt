-- The sums over entries, one of which is replaced.
use Rattle.std.proofs.Common.{◌≡◌, ℕ, zero, suc, ◌+◌, ◌*◌, ◌^◌, ◌<◌, ◌≤◌, Bool, true, false, if◌then◌else◌, List, length, replicate, get_or, sum_by, Option, None, refl, sym, ap, ◌∙◌, subst, arith}
use Rattle.std.specs.List.{All}
use Rattle.std.proofs.lemmas.List.{get_or_default}
use Rattle.std.proofs.lemmas.List.Sums.{sum_by-le}
use Rattle.std.proofs.lemmas.List.Folds.{sum_by-replicate}
use Rattle.sx_prov.specs.declared.map.Totals.{Totals}
use Rattle.sx_sums.specs.declared.entry.Entry.{Entry}
use Rattle.sx_sums.specs.declared.entry.Labelled.{Labelled}
use Rattle.sx_sums.specs.Entries.{entry_at, no_bytes, bytes_last, counts_of, IsPage, AreSums}

-- a page that was never labelled
abbrev never : Entry
never = record { last = None; shown = false }

never_at : (ranks rank : ℕ) → entry_at (replicate ranks never) rank ≡ never
never_at zero rank = refl
never_at (suc ranks) zero = refl
never_at (suc ranks) (suc rank) = never_at ranks rank

long_replicate : (ranks : ℕ) → length (replicate ranks never) ≡ ranks
long_replicate zero = refl
long_replicate (suc ranks) = let rest = long_replicate ranks in omega (arith, rest)

no_counts : counts_of never ≡ no_bytes
unfolding counts_of
no_counts = refl

no_sum : (part : Totals → ℕ) (ranks : ℕ) → part no_bytes ≡ 0 → 0 ≡ sum_by (λ entry. part (counts_of entry)) (replicate ranks never)
no_sum part ranks none =
    let all = sum_by-replicate (λ entry. part (counts_of entry)) ranks never in
    let each : part (counts_of never) ≡ 0 = ap part no_counts ∙ none in
    let times : ranks * part (counts_of never) ≡ ranks * 0 = ap (λ n. ranks * n) each in
    let zeros : ranks * 0 ≡ 0 = grind arith in
    omega (arith, all, times, zeros)

fresh_of : (ranks : ℕ) → ranks < 2 ^ 32 → AreSums (replicate ranks never) 0 0 0
fresh_of ranks few = record {
  few = (let long = long_replicate ranks in omega (arith, long, few));
  pages = λ rank below. subst (λ (entry : Entry). IsPage (bytes_last entry.last)) (sym (never_at ranks rank)) (omega arith);
  owned_is = no_sum (λ totals. totals.owned) ranks refl;
  slack_is = no_sum (λ totals. totals.slack) ranks refl;
  fault_is = no_sum (λ totals. totals.fault) ranks refl;
}

pub fresh_sums : (ranks : ℕ) (entries : List Entry) → ranks < 2 ^ 32 → entries ≡ replicate ranks (record { last = None; shown = false }) → AreSums entries 0 0 0
fresh_sums ranks entries few is = subst (λ all. AreSums all 0 0 0) (sym is) (fresh_of ranks few)

-- a part of the bytes of an entry is no more than those of a page
abbrev IsPart : (Totals → ℕ) → Type 0
IsPart part = (totals : Totals) → part totals ≤ totals.owned + totals.slack + totals.fault

page_case : (last : Option Labelled) (shown : Bool) → IsPage (bytes_last last) → IsPage (if shown then bytes_last last else no_bytes)
page_case last true page = page
page_case last false page = omega arith

page_counts : (entry : Entry) → IsPage (bytes_last entry.last) → IsPage (counts_of entry)
unfolding counts_of
page_counts entry page = page_case entry.last entry.shown page

each_few : (part : Totals → ℕ) (entries : List Entry) (owned slack fault : ℕ) → IsPart part → AreSums entries owned slack fault → All (λ entry. part (counts_of entry) ≤ 65536) entries
each_few part entries owned slack fault is sums rank default below =
    let same : get_or entries rank default ≡ entry_at entries rank = get_or_default entries rank default never below in
    let page = page_counts (entry_at entries rank) (sums.pages rank below) in
    let few = is (counts_of (entry_at entries rank)) in
    subst (λ entry. part (counts_of entry) ≤ 65536) (sym same) (omega (arith, page, few))

sum_few : (part : Totals → ℕ) (entries : List Entry) (owned slack fault sum : ℕ) → IsPart part → AreSums entries owned slack fault → sum ≡ sum_by (λ entry. part (counts_of entry)) entries → sum ≤ 2 ^ 48
sum_few part entries owned slack fault sum is sums sum_is =
    let all = sum_by-le (λ entry. part (counts_of entry)) 65536 entries (each_few part entries owned slack fault is sums) in
    omega (arith, all, sum_is, sums.few)

pub owned_few : (entries : List Entry) (owned slack fault : ℕ) → AreSums entries owned slack fault → owned ≤ 2 ^ 48
owned_few entries owned slack fault sums = sum_few (λ totals. totals.owned) entries owned slack fault owned (λ totals. omega arith) sums sums.owned_is

pub slack_few : (entries : List Entry) (owned slack fault : ℕ) → AreSums entries owned slack fault → slack ≤ 2 ^ 48
slack_few entries owned slack fault sums = sum_few (λ totals. totals.slack) entries owned slack fault slack (λ totals. omega arith) sums sums.slack_is

pub fault_few : (entries : List Entry) (owned slack fault : ℕ) → AreSums entries owned slack fault → fault ≤ 2 ^ 48
fault_few entries owned slack fault sums = sum_few (λ totals. totals.fault) entries owned slack fault fault (λ totals. omega arith) sums sums.fault_is
