use Rattle.std.proofs.Common.{◌≡◌, ◌≤◌, ◌-◌, ◌*◌, length, sum_by}
use Rattle.std.specs.List.{range_with_len}
use Rattle.sx_base.specs.Bytes.{byte_at}
use Rattle.sx_generations.proofs.nonces.sampled.Given as goal

abbrev pub invariant-loop-k : goal.invariant-loop-k
invariant-loop-k l = record {
  small : l.sum ≤ 255 * l.k;
  same : l.sum ≡ sum_by (λ k. byte_at l.page (length l.page - 200 * k)) (range_with_len 1 l.k);
}
