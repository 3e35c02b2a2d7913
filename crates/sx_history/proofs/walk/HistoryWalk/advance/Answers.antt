use Rattle.std.proofs.Common.{◌≡◌, ◌∙◌, ap, length, map, option_copied, subst, sym, ℕ, arith, w64, to_z, of_z}
use Rattle.std.proofs.Math.Facts.{to_z-of_z}
use Rattle.sx_history.specs.History.{found_of}
use Rattle.sx_history.specs.Marks.{AreLinkedBut, AreMarked, AreNamedBut, IsWhole}
use Rattle.sx_history.specs.Standing.{Covers, StandBut}
use Rattle.sx_history.proofs.Keeping.{all_whole, first_standing, has_whole, if_standing, linked_but, named_but}
use Rattle.sx_history.proofs.walk.HistoryWalk.advance.Goals as goal

pub mark_again-requires-clause-whole : goal.mark_again-requires-clause-whole
mark_again-requires-clause-whole g c =
    let next = g.P.PageViews.view c.args.pages.now in
    all_whole c.args.usable next c.deref-5.result.now (map option_copied c.deref-7.result.now) (ap (map option_copied) c.deref-7.ensures.value ∙ c.look_again-2.ensures.looked)
    (λ n. has_whole c.args.usable (g.P.PageViews.page_size c.args.pages.now) (next n) c.requires.within c.requires.small (λ page is. c.size-size.ensures.whole n page is))

pub mark_again-requires-clause-named : goal.mark_again-requires-clause-named
mark_again-requires-clause-named g c same =
    let inside = c.self.inside in
    let numbers = inside.numbers.items in
    let views = map option_copied inside.views.items in
    let next = g.P.PageViews.view c.args.pages.now in
    let setting = inside.setting in
    let fits = c.marks_fit-fits.ensures same in
    let covers : Covers numbers next = subst (λ walk. Covers walk.numbers next) (sym c.self.view_is) c.requires.covered in
    let stand : StandBut c.args.changed.now numbers views next = subst (λ walk. StandBut c.args.changed.now walk.numbers walk.views next) (sym c.self.view_is) c.requires.stand in
    let kept = if_standing inside.stands numbers views setting.size setting.usable setting.root inside.rowid inside.history inside.nodes.items inside.chains.items fits.0 c.self.invariant.4 in
    let whole : (n : ℕ) → IsWhole setting.usable (next n) = λ n. subst (λ u. IsWhole u (next n)) (sym fits.1)
    (has_whole c.args.usable (g.P.PageViews.page_size c.args.pages.now) (next n) c.requires.within c.requires.small (λ page is. c.size-size.ensures.whole n page is)) in
    let named = named_but numbers views setting.usable setting.root inside.nodes.items inside.chains.items kept.watched next c.args.changed.now covers stand whole in
    let looked : map option_copied c.deref-7.result.now ≡ map next numbers = ap (map option_copied) c.deref-7.ensures.value ∙ c.look_again-2.ensures.looked ∙ ap (map next) c.deref-5.ensures.value in
    subst (λ ns. AreNamedBut ns (map option_copied c.deref-7.result.now) c.args.usable inside.nodes.items inside.chains.items c.args.changed.now) (sym c.deref-6.ensures.value)
    (subst (λ vs. AreNamedBut numbers vs c.args.usable inside.nodes.items inside.chains.items c.args.changed.now) (sym looked)
    (subst (λ u. AreNamedBut numbers (map next numbers) u inside.nodes.items inside.chains.items c.args.changed.now) fits.1 named))

pub mark_again-requires-clause-linked : goal.mark_again-requires-clause-linked
mark_again-requires-clause-linked g c same =
    let inside = c.self.inside in
    let numbers = inside.numbers.items in
    let views = map option_copied inside.views.items in
    let next = g.P.PageViews.view c.args.pages.now in
    let setting = inside.setting in
    let fits = c.marks_fit-fits.ensures same in
    let covers : Covers numbers next = subst (λ walk. Covers walk.numbers next) (sym c.self.view_is) c.requires.covered in
    let stand : StandBut c.args.changed.now numbers views next = subst (λ walk. StandBut c.args.changed.now walk.numbers walk.views next) (sym c.self.view_is) c.requires.stand in
    let kept = if_standing inside.stands numbers views setting.size setting.usable setting.root inside.rowid inside.history inside.nodes.items inside.chains.items fits.0 c.self.invariant.4 in
    let whole : (n : ℕ) → IsWhole setting.usable (next n) = λ n. subst (λ u. IsWhole u (next n)) (sym fits.1)
    (has_whole c.args.usable (g.P.PageViews.page_size c.args.pages.now) (next n) c.requires.within c.requires.small (λ page is. c.size-size.ensures.whole n page is)) in
    let linked = linked_but numbers views setting.usable setting.root inside.nodes.items inside.chains.items kept.watched next c.args.changed.now covers stand whole in
    let looked : map option_copied c.deref-7.result.now ≡ map next numbers = ap (map option_copied) c.deref-7.ensures.value ∙ c.look_again-2.ensures.looked ∙ ap (map next) c.deref-5.ensures.value in
    subst (λ ns. AreLinkedBut ns (map option_copied c.deref-7.result.now) inside.chains.items c.args.changed.now) (sym c.deref-6.ensures.value)
    (subst (λ vs. AreLinkedBut numbers vs inside.chains.items c.args.changed.now) (sym looked) linked)

pub invariant_of-self-2 : goal.invariant_of-self-2
invariant_of-self-2 g c =
    let inside = c.self.inside in
    let numbers = inside.numbers.items in
    let views = map option_copied c.look_again-2.new.views.items in
    let next = g.P.PageViews.view c.args.pages.now in
    let pages = g.P.PageViews.pages c.args.pages.now in
    let nodes = c.mark_again.new.nodes.items in
    let chains = c.mark_again.new.chains.items in
    let read : to_z w64 (of_z w64 inside.rowid) ≡ inside.rowid = grind (arith, to_z-of_z) in
    let covers : Covers numbers next = subst (λ walk. Covers walk.numbers next) (sym c.self.view_is) c.requires.covered in
    let whole : (n : ℕ) → IsWhole c.args.usable (next n) =
    λ n. has_whole c.args.usable (g.P.PageViews.page_size c.args.pages.now) (next n) c.requires.within c.requires.small (λ page is. c.size-size.ensures.whole n page is) in
    let are : views ≡ map next numbers = c.look_again-2.ensures.looked ∙ ap (map next) c.deref-5.ensures.value in
    let viewed : map option_copied c.deref-7.result.now ≡ views = ap (map option_copied) c.deref-7.ensures.value in
    let marked : AreMarked numbers views c.args.usable c.args.root nodes chains =
    subst (λ ns. AreMarked ns views c.args.usable c.args.root nodes chains) c.deref-6.ensures.value
    (subst (λ vs. AreMarked c.deref-6.result.now vs c.args.usable c.args.root nodes chains) viewed c.in_ok-mark_again.ensures.marked) in (
      c.self.invariant.0,
      c.look_again-2.ensures.views ∙ ap length c.deref-5.ensures.value,
      c.mark_again.ensures.nodes ∙ ap length c.deref-6.ensures.value,
      c.mark_again.ensures.chains ∙ ap length c.deref-6.ensures.value,
      first_standing numbers views c.size-size.result pages c.args.usable c.args.root inside.rowid c.in_ok-self-inside.field-0 nodes chains next covers are c.requires.least whole
          c.size-size.ensures.size (c.in_ok-self-inside.ensures.found ∙ ap (found_of pages next c.args.usable c.args.root) read) c.in_ok-self-inside.ensures.faults marked,
    )
