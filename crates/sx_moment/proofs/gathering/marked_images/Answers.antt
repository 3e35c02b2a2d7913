use Rattle.std.proofs.Common.{◌≡◌, ◌≤◌, ◌<◌, ℕ, Option, ◌++◌, length, take, map, slice_index, sym, ap, ◌∙◌, subst, arith, rules}
use Rattle.std.proofs.lemmas.List.{take_all, length-map}
use Rattle.sx_base.specs.Places.{first_place}
use Rattle.sx_chain.specs.Newest.{has_number}
use Rattle.sx_moment.specs.Firsts.{Rises, first_in}
use Rattle.sx_moment.specs.Gathering.{image_with, firsts_of}
use Rattle.sx_moment.specs.declared.first_image.FirstImage.{FirstImage}
use Rattle.sx_moment.proofs.Firsts.{firsts_more, firsts_of_images, images_found_in, page_read}
use Rattle.sx_moment.proofs.gathering.marked_images.Goals as goal

pub loop-i-preserved : goal.loop-i-preserved
loop-i-preserved c =
    let first : ℕ → Option ℕ = λ number. first_place (has_number c.args.frames.now number) (length c.args.frames.now) in
    let pages = map (λ (image : FirstImage). image.page) c.args.same.now in
    let within : c.loop-i.i < length c.args.same.now = search rules in
    let below : c.loop-i.i < length pages = omega (arith, within, length-map c.args.same.now (λ (image : FirstImage). image.page)) in
    let page : c.at-page.result.page ≡ slice_index pages c.loop-i.i = page_read c.args.same.now c.loop-i.i c.at-page.result within c.at-page.ensures in
    c.in_ok-push_first.ensures
    ∙ ap (λ l. l ++ image_with c.at-page.result.page c.oldest.result) c.loop-i.invariant
    ∙ ap (λ o. firsts_of first (take c.loop-i.i pages) ++ image_with c.at-page.result.page o) c.oldest.ensures
    ∙ ap (λ n. firsts_of first (take c.loop-i.i pages) ++ image_with n (first n)) page
    ∙ firsts_more first pages c.loop-i.i below

pub new-requires : goal.new-requires
new-requires c =
    let first : ℕ → Option ℕ = λ number. first_place (has_number c.args.frames.now number) (length c.args.frames.now) in
    let pages = map (λ (image : FirstImage). image.page) c.args.same.now in
    let end : length c.args.same.now ≤ c.loop-i.i = search rules in
    let all = c.loop-i.invariant ∙ ap (firsts_of first) (take_all c.loop-i.i pages (omega (arith, end, length-map c.args.same.now (λ (image : FirstImage). image.page)))) in
    subst (Rises 1) (sym all) (firsts_of_images first c.args.same.now c.len.ensures.rise)

pub returns : goal.returns
returns c = λ number.
    let first : ℕ → Option ℕ = λ number. first_place (has_number c.args.frames.now number) (length c.args.frames.now) in
    let pages = map (λ (image : FirstImage). image.page) c.args.same.now in
    let end : length c.args.same.now ≤ c.loop-i.i = search rules in
    let all = c.loop-i.invariant ∙ ap (firsts_of first) (take_all c.loop-i.i pages (omega (arith, end, length-map c.args.same.now (λ (image : FirstImage). image.page)))) in
    ap (λ l. first_in l number) (c.new.ensures ∙ all) ∙ images_found_in first c.args.same.now number
