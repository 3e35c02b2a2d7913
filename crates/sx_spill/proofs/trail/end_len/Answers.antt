use Rattle.std.proofs.Common.{◌≡◌, None, Some, sym, ◌∙◌}
use Rattle.std.specs.Ordering.{nat_cmp}
use Rattle.std.specs.BTreeMap.{get}
use Rattle.sx_spill.specs.Unused.{unused_by}
use Rattle.sx_spill.proofs.TrailLemmas.{back_from_none, back_from_known}
use Rattle.sx_spill.proofs.trail.end_len.Goals as goal

pub returns-in-None : goal.returns-in-None
returns-in-None c =
    let marks = get nat_cmp c.args.known.now in
    let none : marks c.args.at ≡ None = sym c.get.ensures.value ∙ sym c.in-None.ensures in
    back_from_none (unused_by c.args.pages.now).view c.args.link c.args.at c.args.trail.now.items marks c.requires.out (c.requires.end none)

pub returns-in-Some : goal.returns-in-Some
returns-in-Some c =
    let marks = get nat_cmp c.args.known.now in
    let some : marks c.args.at ≡ Some c.in-Some.len = sym c.get.ensures.value ∙ sym c.in-Some.ensures in
    back_from_known (unused_by c.args.pages.now).view c.args.link c.args.at c.in-Some.len c.args.trail.now.items marks c.requires.out some c.in-Some.len-test.1
