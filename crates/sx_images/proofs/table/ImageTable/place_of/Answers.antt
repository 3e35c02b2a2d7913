use Rattle.std.proofs.Common.{sym, ap, ◌∙◌, arith, subst, Some}
use Rattle.sx_images.specs.Images.{Table, length_of}
use Rattle.sx_images.specs.Read.{IsTable}
use Rattle.sx_images.proofs.Imaged.{held_once, holds_places, places_hold, place_there, place_nowhere}
use Rattle.sx_images.proofs.table.ImageTable.place_of.Goals as goal

pub returns-then-place-of-clause-once : goal.returns-then-place-of-clause-once
returns-then-place-of-clause-once c = held_once c.args.self.now c.args.place.part c.args.place.offset (subst IsTable c.self.view_is c.self.invariant)

pub returns-clause-once : goal.returns-clause-once
returns-clause-once c = held_once c.args.self.now c.args.place.part c.args.place.offset (subst IsTable c.self.view_is c.self.invariant)

pub returns-then-place-of-clause-image : goal.returns-then-place-of-clause-image
returns-then-place-of-clause-image c =
    let long = c.of.ensures ∙ ap (λ (t : Table). length_of t.lengths c.args.place.part) c.self.view_is in
    let laid : IsTable c.args.self.now = subst IsTable c.self.view_is c.self.invariant in
    let none = sym (place_nowhere c.args.self.now c.args.place (omega (arith, long, c.if-place-of.true))) in
    λ i b. (λ is. places_hold c.args.self.now i b c.args.place laid (sym none ∙ is), λ held. none ∙ holds_places c.args.self.now i b c.args.place laid held)

pub returns-clause-image : goal.returns-clause-image
returns-clause-image c =
    let long = c.of.ensures ∙ ap (λ (t : Table). length_of t.lengths c.args.place.part) c.self.view_is in
    let laid : IsTable c.args.self.now = subst IsTable c.self.view_is c.self.invariant in
    let there = ap Some c.place_in.ensures ∙ sym (place_there c.args.self.now c.args.place (omega (arith, long, c.if-place-of.false))) in
    λ i b. (λ is. places_hold c.args.self.now i b c.args.place laid (sym there ∙ is), λ held. there ∙ holds_places c.args.self.now i b c.args.place laid held)
