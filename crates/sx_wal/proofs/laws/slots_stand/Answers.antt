use Rattle.sx_wal.proofs.LogLemmas.{slot_stands, whole_both_ways}
use Rattle.sx_wal.proofs.laws.slots_stand.Goals as goal

pub returns : goal.returns
returns c = record { whole = whole_both_ways; frame = slot_stands }
