use Rattle.std.proofs.Common.{◌≡◌, ◌<◌, length}
use Rattle.sx_journal.specs.Segments.{segment_at}
use Rattle.sx_journal.proofs.Walks.{left, left_falls}
use Rattle.sx_journal.proofs.Walked.{walked_none, walked_more, behind_there, behind_room}
use Rattle.sx_journal.proofs.walk.read_segments.Goals as goal

pub loop-next-init : goal.loop-next-init
loop-next-init c =
    walked_none c.args.bytes.now c.args.page_size c.args.sector c.new-segments.result.items c.new-entries.result
    c.requires.held c.new-segments.ensures.items c.new-entries.ensures

pub read_records-requires-clause-there : goal.read_records-requires-clause-there
read_records-requires-clause-there c =
    behind_there c.args.bytes.now c.args.page_size c.args.sector c.in-Some.header c.len.result c.read-segment.result c.read-segment.ensures

pub read_records-requires-clause-room : goal.read_records-requires-clause-room
read_records-requires-clause-room c =
    let walked = rw c.in-Some.is at c.loop-next.invariant in
    rw (← c.len.ensures)
    (behind_room c.args.bytes.now c.args.page_size c.args.sector c.in-Some.header c.len.result c.read-segment.result
    c.read-segment.ensures c.requires.small walked.held (rw c.len.ensures walked.few_entries))

pub loop-next-smaller : goal.loop-next-smaller
loop-next-smaller c =
    let walked = rw c.in-Some.is at c.loop-next.invariant in
    let falls = left_falls c.args.bytes.now c.args.page_size c.args.sector c.in-Some.header c.requires.sector walked.held in
    let less : left (length c.args.bytes.now) c.following-next.result < left (length c.args.bytes.now) c.loop-next.next
    = rw (c.in-Some.is, c.following-next.ensures) falls in
    less

pub loop-next-preserved : goal.loop-next-preserved
loop-next-preserved c =
    let walked = rw c.in-Some.is at c.loop-next.invariant in
    let segment : c.read-segment.result ≡ segment_at c.args.bytes.now c.args.page_size c.args.sector c.in-Some.header (length c.loop-next.entries)
    = rw (← c.len.ensures) c.read-segment.ensures in
    rw c.following-next.ensures
    (walked_more c.args.bytes.now c.args.page_size c.args.sector c.in-Some.header c.loop-next.segments.items c.push.new.self.items
    c.read-segment.result c.loop-next.entries c.read_records.new.entries c.requires.sector walked segment
    c.in_ok-read_records.ensures c.in_ok-push.ensures.items)
