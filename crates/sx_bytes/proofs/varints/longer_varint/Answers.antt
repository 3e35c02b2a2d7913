-- What came before is below 2^56, so that eight bits more fit.
use Rattle.std.proofs.Common.{◌^◌, ◌≤◌, rules}
use Rattle.sx_bytes.proofs.VarintLemmas.{at_most_eight}
use Rattle.sx_bytes.proofs.varints.longer_varint.Goals as goal

pub overflow_add-result-then-byte-lt128 : goal.overflow_add-result-then-byte-lt128
overflow_add-result-then-byte-lt128 c =
    let cap : 128 ^ c.loop-read.read ≤ 128 ^ 8 = at_most_eight c.loop-read.read c.loop-read.invariant.short in
    search rules

pub overflow_mul-value : goal.overflow_mul-value
overflow_mul-value c =
    let cap : 128 ^ c.loop-read.read ≤ 128 ^ 8 = at_most_eight c.loop-read.read c.loop-read.invariant.short in
    search rules

pub overflow_add-value : goal.overflow_add-value
overflow_add-value c =
    let cap : 128 ^ c.loop-read.read ≤ 128 ^ 8 = at_most_eight c.loop-read.read c.loop-read.invariant.short in
    search rules
