use Rattle.std.proofs.Common.{true, false, ◌+◌, ◌-◌, refl, sym, ◌∙◌, arith}
use Rattle.sx_overflow.proofs.Pieces.{given_local, given_end, given_beyond, given_missing, given_body, enough}
use Rattle.sx_overflow.proofs.payload.Payload.next_piece.Goals as goal

pub returns-in-Some : goal.returns-in-Some
returns-in-Some g c =
    given_local (g.P.PageViews.pages c.self.inside.pages.now) (g.P.PageViews.view c.self.inside.pages.now)
    c.self.inside.usable c.self.inside.link c.self.inside.left c.self.inside.local c.take.new.self c.in-Some.piece c.args.self.now
    c.self.view_is (sym c.take.ensures.value ∙ c.in-Some.is) c.take.ensures.after

pub returns-then-self-eq0 : goal.returns-then-self-eq0
returns-then-self-eq0 g c =
    let none = sym c.take.ensures.value ∙ c.in_default.is in
    given_end (g.P.PageViews.pages c.self.inside.pages.now) (g.P.PageViews.view c.self.inside.pages.now)
    c.self.inside.usable c.self.inside.link c.self.inside.left c.self.inside.local c.take.new.self c.args.self.now
    c.self.view_is none (c.take.ensures.after ∙ sym none) c.if-self-eq0.true

pub returns-then-not-is_within_held : goal.returns-then-not-is_within_held
returns-then-not-is_within_held g c =
    let none = sym c.take.ensures.value ∙ c.in_default.is in
    given_beyond (g.P.PageViews.pages c.self.inside.pages.now) (g.P.PageViews.view c.self.inside.pages.now)
    c.self.inside.usable c.self.inside.link c.self.inside.left c.self.inside.local c.take.new.self c.args.self.now
    c.self.view_is none (c.take.ensures.after ∙ sym none) c.self.invariant.least (omega (arith, c.if-self-eq0.false))
    (enough (g.P.PageViews.pages c.self.inside.pages.now) (g.P.PageViews.view c.self.inside.pages.now) c.self.inside.usable c.self.inside.left
    c.need_of-need.result c.is_within_held.result false c.need_of-need.ensures.value c.is_within_held.ensures c.if-not-is_within_held.true)

pub returns-in_default-linked : goal.returns-in_default-linked
returns-in_default-linked g c =
    let none = sym c.take.ensures.value ∙ c.in_default.is in
    given_missing (g.P.PageViews.pages c.self.inside.pages.now) (g.P.PageViews.view c.self.inside.pages.now)
    c.self.inside.usable c.self.inside.link c.self.inside.left c.self.inside.local c.take.new.self c.args.self.now
    c.self.view_is none (c.take.ensures.after ∙ sym none) c.self.invariant.least (omega (arith, c.if-self-eq0.false))
    (enough (g.P.PageViews.pages c.self.inside.pages.now) (g.P.PageViews.view c.self.inside.pages.now) c.self.inside.usable c.self.inside.left
    c.need_of-need.result c.is_within_held.result true c.need_of-need.ensures.value c.is_within_held.ensures c.if-not-is_within_held.false) (sym c.in_default-linked.ensures.view)

pub returns : goal.returns
returns g c =
    let none = sym c.take.ensures.value ∙ c.in_default.is in
    given_body (g.P.PageViews.pages c.self.inside.pages.now) (g.P.PageViews.view c.self.inside.pages.now)
    c.self.inside.usable c.self.inside.link c.self.inside.left c.be32-self-inside.result (c.self.inside.left - c.min-len.result) c.min-len.result
    (4 + c.min-len.result - 4)
    c.in-Some-linked.page.now c.self.inside.local c.take.new.self c.args.self.now
    c.self.view_is none (c.take.ensures.after ∙ sym none) c.self.invariant.least (omega (arith, c.if-self-eq0.false))
    (enough (g.P.PageViews.pages c.self.inside.pages.now) (g.P.PageViews.view c.self.inside.pages.now) c.self.inside.usable c.self.inside.left
    c.need_of-need.result c.is_within_held.result true c.need_of-need.ensures.value c.is_within_held.ensures c.if-not-is_within_held.false) (sym c.in-Some-linked.ensures.view) c.be32-self-inside.ensures c.min-len.ensures refl (omega arith)
