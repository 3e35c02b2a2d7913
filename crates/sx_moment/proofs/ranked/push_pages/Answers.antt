use Rattle.std.proofs.Common.{◌≤◌, ◌<◌, ◌++◌, ◌∷◌, [], length, map, take, ap, sym, ◌∙◌, arith, append_assoc}
use Rattle.std.proofs.lemmas.List.{take_all}
use Rattle.sx_moment.specs.declared.first_image.FirstImage.{FirstImage}
use Rattle.sx_moment.proofs.Numbered.{pages_more, pages_among}
use Rattle.sx_moment.proofs.ranked.push_pages.Goals as goal

pub loop-i-preserved : goal.loop-i-preserved
loop-i-preserved c =
    let pages = map (λ (image : FirstImage). image.page) (take c.loop-i.i c.args.images.now) in
    let below : c.loop-i.i < length c.args.images.now = omega arith in
    c.in_ok-push.ensures.items
    ∙ ap (λ l. l ++ c.at.result.page ∷ []) c.loop-i.invariant
    ∙ append_assoc c.args.numbers.now.items pages (c.at.result.page ∷ [])
    ∙ ap (λ l. c.args.numbers.now.items ++ l) (sym (pages_more c.args.images.now c.loop-i.i c.at.result below c.at.ensures))

pub returns : goal.returns
returns c number =
    let end : length c.args.images.now ≤ c.loop-i.i = omega arith in
    pages_among c.args.numbers.now.items c.loop-i.numbers.items c.args.images.now number
    (c.loop-i.invariant ∙ ap (λ l. c.args.numbers.now.items ++ map (λ (image : FirstImage). image.page) l) (take_all c.loop-i.i c.args.images.now end))
