use Rattle.std.proofs.Common.{◌≡◌, ◌≢◌, ◌<◌, true, false, length, get_or, ◌∙◌, rules}
use Rattle.std.proofs.lemmas.List.{get_or_default}
use Rattle.sx_moment.specs.Firsts.{IsSearched}
use Rattle.sx_moment.specs.declared.first_image.FirstImage.{FirstImage}
use Rattle.sx_moment.proofs.Seen.{nowhere_else, same_image}
use Rattle.sx_moment.proofs.first_images.FirstImages.place.Goals as goal

pub returns-else-eq-clause-none : goal.returns-else-eq-clause-none
returns-else-eq-clause-none c =
    let searched : IsSearched c.args.image.page c.self.inside.items.items c.place_of-place.result = rw (← c.deref.ensures.value) c.place_of-place.ensures.searched in
    let within : c.place_of-place.result < length c.self.inside.items.items = search rules in
    let other : (d : FirstImage) → get_or c.self.inside.items.items c.place_of-place.result d ≢ c.args.image = λ d same.
    let here : c.index.result.now ≡ c.args.image = c.index.ensures ∙ get_or_default c.self.inside.items.items c.place_of-place.result c.index.result.now d within ∙ same in
    let never : false ≡ true = c.if-eq.ensures ∙ same_image c.index.result.now c.args.image here in
    cc in
    rw (← c.self.view_is) (nowhere_else c.self.inside.items.items c.args.image c.place_of-place.result c.self.invariant searched within other)
