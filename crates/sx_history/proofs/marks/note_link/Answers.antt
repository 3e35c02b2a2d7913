use Rattle.std.proofs.Common.{◌≡◌, ◌∙◌, Some, option_copied, map, sym, ap, refl, subst, arith}
use Rattle.std.proofs.lemmas.Result.{on_ok_weaker}
use Rattle.sx_history.specs.Marks.{IsNoted, IsWhole, view_at}
use Rattle.sx_overflow.specs.Chains.{link_of}
use Rattle.sx_history.proofs.Marking.{view_is}
use Rattle.sx_history.proofs.marks.note_link.Goals as goal

pub be32-requires : goal.be32-requires
be32-requires c =
    let views = c.args.views.now in
    let is : view_at (map option_copied views) c.args.rank ≡ Some c.in-Some.page.now = view_is option_copied views c.args.rank (Some c.in-Some.page) refl c.in-Some.is in
    let whole = subst (IsWhole c.args.usable) is (c.requires.whole c.args.rank) in
    omega (arith, whole.0, c.requires.least)

pub returns-in-Some-clause-linked : goal.returns-in-Some-clause-linked
returns-in-Some-clause-linked c =
    let views = c.args.views.now in
    let is : view_at (map option_copied views) c.args.rank ≡ Some c.in-Some.page.now = view_is option_copied views c.args.rank (Some c.in-Some.page) refl c.in-Some.is in
    on_ok_weaker c.note.result (λ noted marked page there.
    let own : Some page ≡ Some c.in-Some.page.now = sym there ∙ is in
    let same : page ≡ c.in-Some.page.now = cc in
    subst (IsNoted c.args.numbers.now c.note.new.marks.items) (c.be32.ensures ∙ sym (ap link_of same)) noted) c.note.ensures.noted
