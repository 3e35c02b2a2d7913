use Rattle.std.proofs.Common.{◌≡◌, ◌<◌, ◌≤◌, length, get_or, sym, rules}
use Rattle.sx_moment.specs.Firsts.{IsSearched}
use Rattle.sx_moment.proofs.Listed.{searched_some, searched_other, searched_none}
use Rattle.sx_moment.proofs.first_images.FirstImages.find.Goals as goal

pub returns-then-place-len : goal.returns-then-place-len
returns-then-place-len c =
    let searched : IsSearched c.args.page c.self.inside.items.items c.place_of-place.result = rw (← c.deref.ensures.value) c.place_of-place.ensures.searched in
    let past : length c.self.inside.items.items ≤ c.place_of-place.result = search rules in
    rw (← c.self.view_is) (sym (searched_none c.self.inside.items.items c.args.page c.place_of-place.result searched past))

pub returns-then-image-page : goal.returns-then-image-page
returns-then-image-page c =
    let within : c.place_of-place.result < length c.self.inside.items.items = search rules in
    let at : c.index-image.result.now ≡ get_or c.self.inside.items.items c.place_of-place.result c.index-image.result.now = search rules in
    rw (← c.self.view_is) (sym (searched_some c.self.inside.items.items c.args.page c.place_of-place.result c.index-image.result.now c.self.invariant within at (search rules)))

pub returns-else-image-page : goal.returns-else-image-page
returns-else-image-page c =
    let searched : IsSearched c.args.page c.self.inside.items.items c.place_of-place.result = rw (← c.deref.ensures.value) c.place_of-place.ensures.searched in
    let within : c.place_of-place.result < length c.self.inside.items.items = search rules in
    let at : c.index-image.result.now ≡ get_or c.self.inside.items.items c.place_of-place.result c.index-image.result.now = search rules in
    rw (← c.self.view_is) (sym (searched_other c.self.inside.items.items c.args.page c.place_of-place.result c.index-image.result.now c.self.invariant searched within at (search rules)))
