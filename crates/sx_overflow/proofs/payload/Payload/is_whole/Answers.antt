use Rattle.std.proofs.Common.{true, false, ◌==◌, length, ◌∙◌, ap}
use Rattle.sx_overflow.specs.Chains.{chain_of}
use Rattle.sx_overflow.specs.Payloads.{ToCome}
use Rattle.sx_overflow.proofs.Pieces.{enough, first_of, whole_chain, whole_beyond}
use Rattle.sx_overflow.proofs.payload.Payload.is_whole.Goals as goal

pub returns-then-is_within_held : goal.returns-then-is_within_held
returns-then-is_within_held g c =
    let size = g.P.PageViews.pages c.self.inside.pages.now in
    let view = g.P.PageViews.view c.self.inside.pages.now in
    ap (λ count. count == c.need_of-need.result) c.chain_len.ensures.value
    ∙ ap (λ need. length (chain_of view c.self.inside.link need) == need) c.need_of-need.ensures.value
    ∙ whole_chain size view c.self.inside.usable (first_of c.self.inside.local) c.self.inside.link c.self.inside.left
    (enough size view c.self.inside.usable c.self.inside.left c.need_of-need.result c.is_within_held.result true
    c.need_of-need.ensures.value c.is_within_held.ensures c.if-is_within_held.true)
    ∙ ap (λ (come : ToCome). come.whole) c.self.view_is

pub returns-else-is_within_held : goal.returns-else-is_within_held
returns-else-is_within_held g c =
    let size = g.P.PageViews.pages c.self.inside.pages.now in
    let view = g.P.PageViews.view c.self.inside.pages.now in
    c.if-is_within_held.false
    ∙ whole_beyond size view c.self.inside.usable (first_of c.self.inside.local) c.self.inside.link c.self.inside.left
    (enough size view c.self.inside.usable c.self.inside.left c.need_of-need.result c.is_within_held.result false
    c.need_of-need.ensures.value c.is_within_held.ensures c.if-is_within_held.false)
    ∙ ap (λ (come : ToCome). come.whole) c.self.view_is
