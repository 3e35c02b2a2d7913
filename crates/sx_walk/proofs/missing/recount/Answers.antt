use Rattle.std.proofs.Common.{◌≡◌, ◌<◌, ℕ, length, is_some, sym, subst, arith}
use Rattle.sx_walk.specs.Missing.{Recounts}
use Rattle.sx_walk.proofs.MissingLemmas.{recounts_one, recounts_other}
use Rattle.sx_walk.proofs.missing.recount.Goals as goal

pub returns-in-Some : goal.returns-in-Some
returns-in-Some g c = λ yes.
    let numbers = c.args.numbers.now in
    let before = c.args.missing.now in
    let within = c.in-Some.ensures.within in
    let long = c.requires.long in
    let low : c.in-Some.rank < length before = omega (arith, within, long) in
    subst (Recounts (λ (number : ℕ). is_some (g.P.PageViews.view c.args.pages.now number)) (λ (page : ℕ). page ≡ c.args.no) c.args.sums.now numbers before) (sym (c.put.ensures yes))
    (recounts_one (λ (number : ℕ). is_some (g.P.PageViews.view c.args.pages.now number)) c.args.sums.now numbers before c.args.no c.in-Some.rank c.unsaid_count.result
    c.requires.rises c.requires.long (sym c.in-Some.ensures.value) low c.unsaid_count.ensures)

pub returns-in-None : goal.returns-in-None
returns-in-None g c = λ yes.
    recounts_other (λ (number : ℕ). is_some (g.P.PageViews.view c.args.pages.now number)) c.args.sums.now c.args.numbers.now c.args.missing.now c.args.no c.requires.rises (sym c.in-None.ensures.value)
