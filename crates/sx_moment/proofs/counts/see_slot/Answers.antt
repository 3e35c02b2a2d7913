use Rattle.std.proofs.Common.{◌+◌, get_or, slice_index, slice_set, ap, ◌∙◌, sym}
use Rattle.std.proofs.lemmas.Option.{get_or_from_slice_get, slice_get_within, slice_get-get_or}
use Rattle.sx_moment.specs.declared.first_image.FirstImage.{FirstImage}
use Rattle.sx_moment.proofs.Seen.{only_place, seen_one, seen_none}
use Rattle.sx_moment.proofs.counts.see_slot.Goals as goal

pub returns-in-Some-clause-seen : goal.returns-in-Some-clause-seen
returns-in-Some-clause-seen c =
    let images = c.args.images.now in
    let place = c.in-Some.place in
    let at = c.in-Some.ensures.some in
    c.raise.ensures
    ∙ ap (λ l. slice_set l place (slice_index l place + 1)) c.requires.seen
    ∙ sym (seen_one c.args.image.first images place (slice_get_within images place c.args.image at)
    (λ d. ap (λ (i : FirstImage). i.first) (get_or_from_slice_get images place c.args.image d at))
    (only_place images c.args.image place c.place.ensures.rise at c.requires.only))

pub returns-in-None-clause-seen : goal.returns-in-None-clause-seen
returns-in-None-clause-seen c =
    let images = c.args.images.now in
    c.requires.seen
    ∙ sym (seen_none c.args.image.first images (λ k d within same.
    c.in-None.ensures.none k d within (c.requires.only k (get_or images k d) (slice_get-get_or images k d within) same)))
