use Rattle.std.proofs.Common.{◌≡◌, [], sym, ap, ◌∙◌, subst, rules}
use Rattle.sx_moment.specs.Firsts.{Rises, first_in}
use Rattle.sx_moment.proofs.Images.{is_numbered, images_all, images_rise, images_found}
use Rattle.sx_moment.proofs.gathering.numbered_images.Goals as goal

pub new-requires : goal.new-requires
new-requires c =
    let left : c.loop-page.page-iterator ≡ [] = search rules in
    let all = images_all is_numbered c.loop-page.items.items c.loop-page.page-iterator c.args.found.now.entries c.loop-page.invariant left in
    subst (Rises 1) (sym all) (images_rise is_numbered c.args.found.now.entries (search rules) c.iter-page-items.ensures.ordered)

pub returns : goal.returns
returns c = λ number.
    let left : c.loop-page.page-iterator ≡ [] = search rules in
    let all = images_all is_numbered c.loop-page.items.items c.loop-page.page-iterator c.args.found.now.entries c.loop-page.invariant left in
    ap (λ l. first_in l number) (c.new.ensures ∙ all) ∙ images_found is_numbered c.args.found.now.entries number
