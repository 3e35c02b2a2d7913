use Rattle.sx_wal.proofs.ChecksumLemmas.{sums-append}
use Rattle.sx_wal.proofs.checksum.sums_continue.Goals as goal

pub returns : goal.returns
returns c = sums-append
