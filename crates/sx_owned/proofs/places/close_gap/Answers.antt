-- What lay behind is turned to the front, what is between falls away, and what lay behind is turned back.
use Rattle.std.proofs.Common.{◌-◌, rules}
use Rattle.sx_owned.proofs.Adding.{closed}
use Rattle.sx_owned.proofs.places.close_gap.Goals as goal

pub returns : goal.returns
returns c =
    closed c.args.runs.now.items c.truncate.new.self.items c.rotate_left-2.new.self.items c.args.from c.args.to (c.len.result - c.args.to)
    c.requires.rises c.requires.within (search rules) (search rules) c.rotate_left-2.ensures.items
