use Rattle.std.proofs.Common.{◌≡◌, [], sym, ap, ◌∙◌, subst, rules}
use Rattle.sx_moment.specs.Firsts.{Rises, first_in}
use Rattle.sx_moment.specs.Images.{is_past}
use Rattle.sx_moment.proofs.Images.{images_all, images_rise, images_found}
use Rattle.sx_moment.proofs.gathering.past_of_records.Goals as goal

pub new-requires : goal.new-requires
new-requires c =
    let keeps = is_past c.lock_page-lock.result c.page_count-count.result in
    let left : c.loop-page.page-iterator ≡ [] = search rules in
    let all = images_all keeps c.loop-page.items.items c.loop-page.page-iterator c.args.found.now.entries c.loop-page.invariant left in
    subst (Rises 1) (sym all) (images_rise keeps c.args.found.now.entries (search rules) c.iter-page-items.ensures.ordered)

pub returns : goal.returns
returns c = λ number.
    let keeps = is_past c.lock_page-lock.result c.page_count-count.result in
    let left : c.loop-page.page-iterator ≡ [] = search rules in
    let all = images_all keeps c.loop-page.items.items c.loop-page.page-iterator c.args.found.now.entries c.loop-page.invariant left in
    rw (← c.lock_page-lock.ensures.value, ← c.page_count-count.ensures.value)
    (ap (λ l. first_in l number) (c.new.ensures ∙ all) ∙ images_found keeps c.args.found.now.entries number)
