use Rattle.std.proofs.Common.{arith}
use Rattle.sx_journal.proofs.Gradings.{record_held, read_none, read_more}
use Rattle.sx_journal.proofs.walk.read_records.Goals as goal

pub overflow_add-start : goal.overflow_add-start
overflow_add-start c =
    let held = record_held c.args.bytes.now c.args.page_size c.args.start c.args.count c.loop-i.i c.loop-i-test.true c.requires.there in
    rw c.record_len.ensures (omega (arith, held))

pub read_record-requires-clause-held : goal.read_record-requires-clause-held
read_record-requires-clause-held c =
    rw c.record_len.ensures
    (record_held c.args.bytes.now c.args.page_size c.args.start c.args.count c.loop-i.i c.loop-i-test.true c.requires.there)

pub loop-i-init : goal.loop-i-init
loop-i-init c = read_none c.args.bytes.now c.args.page_size c.args.start c.args.nonce c.args.entries.now

pub loop-i-preserved : goal.loop-i-preserved
loop-i-preserved c =
    read_more c.args.bytes.now c.args.page_size c.args.start c.args.nonce c.args.entries.now c.loop-i.entries c.read_record.new.entries
    c.loop-i.i c.record_len.result c.loop-i.invariant c.record_len.ensures c.in_ok-read_record.ensures
