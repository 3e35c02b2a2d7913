use Rattle.sx_journal.proofs.Journals.{live_sector, live_parts}
use Rattle.sx_journal.proofs.index.read_live.Goals as goal

pub read_segments-requires-clause-sector : goal.read_segments-requires-clause-sector
read_segments-requires-clause-sector c =
    live_sector c.args.bytes.now c.args.page_size c.be32-sector.result c.requires.live c.be32-sector.ensures

pub returns : goal.returns
returns c =
    live_parts c.args.bytes.now c.args.page_size c.be32.result c.be32-sector.result c.in_ok-segments.segments.items
    c.in_ok-segments.entries c.be32.ensures c.be32-sector.ensures c.in_ok-segments.ensures.segments c.in_ok-segments.ensures.entries
