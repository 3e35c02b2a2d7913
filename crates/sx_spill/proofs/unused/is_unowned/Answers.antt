use Rattle.std.proofs.Common.{◌≡◌, true, false, ◌&&◌, nat_eq, nat_le, sym, ap, ◌∙◌}
use Rattle.sx_owned.specs.Owned.{owned_at}
use Rattle.sx_spill.proofs.BoolLemmas.{is_false, same_true, true_same}
use Rattle.sx_spill.proofs.FrontLemmas.{front_unowned}
use Rattle.sx_spill.proofs.unused.is_unowned.Goals as goal

pub returns-then-span-eq0 : goal.returns-then-span-eq0
returns-then-span-eq0 c =
    let span = c.in-Some.span in
    ap (λ b. b && nat_le c.args.usable span.len) (sym (same_true span.start 0 c.if-span-eq0.true))
    ∙ front_unowned (owned_at c.args.owned.now) c.args.usable c.args.owned.now.page_size c.args.image span c.unowned.result c.next.new.self c.in-Some.ensures.steps
    c.unowned.ensures c.requires.some c.requires.within

pub returns-else-span-eq0 : goal.returns-else-span-eq0
returns-else-span-eq0 c =
    let span = c.in-Some.span in
    let other : nat_eq span.start 0 ≡ false = is_false (nat_eq span.start 0) (λ (is : nat_eq span.start 0 ≡ true). c.if-span-eq0.false (true_same span.start 0 is)) in
    other ∙ ap (λ b. b && nat_le c.args.usable span.len) (sym other)
    ∙ front_unowned (owned_at c.args.owned.now) c.args.usable c.args.owned.now.page_size c.args.image span c.unowned.result c.next.new.self c.in-Some.ensures.steps
    c.unowned.ensures c.requires.some c.requires.within
