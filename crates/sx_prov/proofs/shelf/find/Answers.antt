use Rattle.std.proofs.Common.{◌≡◌, ◌<◌, None, sym, ◌∙◌, arith, rules}
use Rattle.sx_base.proofs.Places.{reach}
use Rattle.sx_prov.proofs.Finding.{sought_begin, sought_next, found_here, found_nowhere, goes_back, apart}
use Rattle.sx_prov.proofs.shelf.find.Goals as goal

pub loop-found-init : goal.loop-found-init
loop-found-init c = sought_begin c.args.kept.now c.args.image c.args.key c.args.view.now c.args.newest c.requires.newest

pub returns-then-is_of-clause-some : goal.returns-then-is_of-clause-some
returns-then-is_of-clause-some c =
    let sought = rw c.in-Some.is at c.loop-found.invariant in
    let yes = c.is_of.ensures.yes c.if-is_of.true in
    found_here c.args.kept.now c.args.image c.args.key c.args.view.now c.in-Some.place c.index-kept-place.result sought c.index-kept-place.is yes.0 yes.1

pub loop-found-smaller : goal.loop-found-smaller
loop-found-smaller c =
    let sought = rw c.in-Some.is at c.loop-found.invariant in
    let back = goes_back c.args.kept.now c.in-Some.place c.index-kept-place.result c.requires.chained (omega (arith, sought.within)) c.index-kept-place.is in
    let less : reach c.index-kept-place.result.before < reach c.loop-found.found = rw c.in-Some.is back in
    less

pub loop-found-preserved : goal.loop-found-preserved
loop-found-preserved c =
    let sought = rw c.in-Some.is at c.loop-found.invariant in
    sought_next c.args.kept.now c.args.image c.args.key c.args.view.now c.in-Some.place c.index-kept-place.result c.requires.chained sought c.index-kept-place.is
    (λ key view. apart (sym c.if-is_of.false ∙ c.is_of.ensures.no key view))

pub returns-clause-none : goal.returns-clause-none
returns-clause-none c =
    let none : c.loop-found.found ≡ None = search rules in
    let sought = rw none at c.loop-found.invariant in
    found_nowhere c.args.kept.now c.args.image c.args.key c.args.view.now sought
