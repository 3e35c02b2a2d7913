use Rattle.std.proofs.Common.{◌<◌, ◌∙◌, length, sym}
use Rattle.std.proofs.lemmas.Bool.{ltb-true}
use Rattle.std.proofs.lemmas.List.{get_or_default}
use Rattle.sx_walk.proofs.RenumberLemmas.{place_listed}
use Rattle.sx_walk.proofs.renumber.page_of_rank.Goals as goal

pub returns : goal.returns
returns c =
    let numbers = c.args.numbers.now in
    let touched = c.args.touched.now in
    let rank = c.in_ok-rank.field-0.now in
    let page = c.in_ok-no.field-0.now in
    let within : c.args.place < length touched = ltb-true c.args.place (length touched) (sym c.in_ok-rank.ensures.lookup.0) in
    let low : rank < length numbers = ltb-true rank (length numbers) (sym c.in_ok-no.ensures.lookup.0) in
    place_listed numbers touched c.args.place rank page c.requires within
    (get_or_default touched c.args.place 0 rank within ∙ sym c.in_ok-rank.ensures.lookup.1) low
    (get_or_default numbers rank 0 page low ∙ sym c.in_ok-no.ensures.lookup.1)
