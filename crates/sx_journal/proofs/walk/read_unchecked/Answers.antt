use Rattle.std.proofs.Common.{arith}
use Rattle.sx_journal.proofs.Gradings.{record_held, unchecked_none, unchecked_more}
use Rattle.sx_journal.proofs.walk.read_unchecked.Goals as goal

pub overflow_add-place : goal.overflow_add-place
overflow_add-place c =
    let held = record_held c.args.bytes.now c.args.page_size c.args.start c.args.count c.loop-i.i c.loop-i-test.true c.requires.there in
    rw c.record_len.ensures (omega (arith, held))

pub read-requires-clause-held : goal.read-requires-clause-held
read-requires-clause-held c =
    rw c.record_len.ensures
    (record_held c.args.bytes.now c.args.page_size c.args.start c.args.count c.loop-i.i c.loop-i-test.true c.requires.there)

pub loop-i-init : goal.loop-i-init
loop-i-init c = unchecked_none c.args.bytes.now c.args.page_size c.args.start c.new-entries.result c.new-entries.ensures

pub loop-i-preserved : goal.loop-i-preserved
loop-i-preserved c =
    unchecked_more c.args.bytes.now c.args.page_size c.args.start c.loop-i.entries c.push.new.self c.read.result
    c.loop-i.i c.record_len.result c.loop-i.invariant c.record_len.ensures c.read.ensures c.in_ok-push.ensures
