use Rattle.std.proofs.Common.{◌≡◌, sym, ◌∙◌}
use Rattle.sx_moment.specs.Gathered.{size_at}
use Rattle.sx_moment.proofs.Uncertain.{mark_at, mark_found, unmarked}
use Rattle.sx_moment.proofs.snapshot.Snapshot.uncertain.Goals as goal

pub is_uncertain_mark-requires : goal.is_uncertain_mark-requires
is_uncertain_mark-requires c =
    (mark_at c.args.self.now.case.now c.marks.result.images.now c.args.no c.in-Some.first (c.marks.ensures.are c.args.no) (sym c.find.ensures ∙ c.in-Some.is)).1

pub returns-in-Some : goal.returns-in-Some
returns-in-Some c =
    let case = c.args.self.now.case.now in
    let size : c.size-size.result ≡ size_at case c.args.self.now.moment = rw (← c.sources.ensures.same) c.size-size.ensures in
    mark_found case c.args.self.now.moment c.marks.result.images.now c.args.no c.in-Some.first c.size-size.result c.is_uncertain_mark.result
    (c.marks.ensures.are c.args.no) (sym c.find.ensures ∙ c.in-Some.is) size c.is_uncertain_mark.ensures

pub returns-in-None : goal.returns-in-None
returns-in-None c =
    sym (unmarked c.args.self.now.case.now c.args.self.now.moment c.marks.result.images.now c.args.no (c.marks.ensures.are c.args.no) (sym c.find.ensures ∙ c.in-None.is))
