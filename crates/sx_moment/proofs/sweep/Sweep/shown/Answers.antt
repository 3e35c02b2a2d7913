use Rattle.std.proofs.Common.{◌≡◌, ◌≤◌, ◌<◌, None, length, slice_index, slice_index_or, ap, ◌∙◌, arith}
use Rattle.std.proofs.lemmas.List.{get_or_default}
use Rattle.sx_moment.specs.Gathered.{size_at}
use Rattle.sx_moment.specs.Sweep.{Swept}
use Rattle.sx_moment.proofs.Swept.{shown_within, shown_past, shown_stands}
use Rattle.sx_moment.proofs.sweep.Sweep.shown.Goals as goal

pub returns-then-number-size : goal.returns-then-number-size
returns-then-number-size c =
    let s = c.self.inside in
    let case = s.snapshot.case.now in
    let numbers : s.ranks ≡ c.args.self.now.numbers = ap (λ (v : Swept). v.numbers) c.self.view_is in
    let below : c.args.rank < length s.ranks = omega (arith, ap length numbers, c.requires) in
    let size : c.size-size.result ≡ size_at case s.snapshot.moment = rw (← c.sources.ensures.same) c.size-size.ensures in
    let within : slice_index s.ranks c.args.rank ≤ size_at case s.snapshot.moment = omega (arith, size, c.number.ensures, c.if-number-size.true) in
    let inside : c.args.rank < length s.origins.items = omega (arith, below, c.self.invariant.origins_are.long) in
    let image : c.index.result.now ≡ slice_index_or s.origins.items c.args.rank None = c.index.ensures ∙ get_or_default s.origins.items c.args.rank c.index.result.now None inside in
    rw (← c.self.view_is) (record {
      origin = shown_within case s.place s.snapshot.moment s.ranks s.origins.items s.changes.settled s.changes.turns c.args.rank c.index.result.now c.self.invariant below within image;
      stands = shown_stands case s.place s.snapshot.moment s.ranks s.origins.items s.changes.settled s.changes.turns c.args.rank c.index.result.now c.self.invariant below c.sources.ensures.gathered s.snapshot.listed image;
    })

pub returns-else-number-size : goal.returns-else-number-size
returns-else-number-size c =
    let s = c.self.inside in
    let case = s.snapshot.case.now in
    let numbers : s.ranks ≡ c.args.self.now.numbers = ap (λ (v : Swept). v.numbers) c.self.view_is in
    let below : c.args.rank < length s.ranks = omega (arith, ap length numbers, c.requires) in
    let size : c.size-size.result ≡ size_at case s.snapshot.moment = rw (← c.sources.ensures.same) c.size-size.ensures in
    let past : size_at case s.snapshot.moment < slice_index s.ranks c.args.rank = omega (arith, size, c.number.ensures, c.if-number-size.false) in
    rw (← c.self.view_is) (record {
      origin = shown_past case s.place s.snapshot.moment s.ranks s.origins.items s.changes.settled s.changes.turns c.args.rank c.self.invariant below past;
      stands = tt;
    })
