use Rattle.std.proofs.Common.{◌≡◌, ◌∙◌, sym, ap, subst, map, option_copied, ℕ, arith, w64, to_z, of_z}
use Rattle.std.proofs.Math.Facts.{to_z-of_z}
use Rattle.sx_history.specs.History.{faults_of, found_of}
use Rattle.sx_history.specs.Marks.{IsWhole}
use Rattle.sx_history.specs.Standing.{AreSteady}
use Rattle.sx_history.proofs.Keeping.{faults_still, found_still, has_whole, if_standing, standing_still}
use Rattle.sx_history.proofs.walk.stands_still.Goals as goal

pub returns-clause-found : goal.returns-clause-found
returns-clause-found g c still =
    let numbers = c.args.numbers.now in
    let views = map option_copied c.args.views.now in
    let before = c.args.before.now in
    let setting = c.args.setting.now in
    let nodes = c.args.nodes.now in
    let chains = c.args.chains.now in
    let next = g.P.PageViews.view c.args.pages.now in
    let same = c.same_setting.ensures c.if-not-same_setting.false in
    let kept = if_standing c.args.stands numbers views before.size before.usable before.root c.args.rowid c.args.history.now nodes chains c.if-not-stands.false c.requires.standing in
    let whole : (n : ℕ) → IsWhole before.usable (next n) = λ n. subst (λ u. IsWhole u (next n)) (sym (ap (λ s. s.usable) same))
    (has_whole setting.usable (g.P.PageViews.page_size c.args.pages.now) (next n) c.requires.within c.requires.small (λ page is. c.size-size.ensures.whole n page is)) in
    let read : to_z w64 (of_z w64 c.args.rowid) ≡ c.args.rowid = grind (arith, to_z-of_z) in
    let steady = subst (λ u. AreSteady u c.args.rowid numbers views next nodes chains c.args.changed.now) (sym (ap (λ s. s.usable) same))
    (subst (λ z. AreSteady setting.usable z numbers views next nodes chains c.args.changed.now) read (c.in_ok-all_steady.ensures c.if-not-branch.false)) in
    found_still numbers views before.size before.usable before.root c.args.rowid c.args.history.now nodes chains kept next c.args.changed.now c.requires.covered c.requires.stand whole steady
    ∙ ap (λ s. found_of s.size next s.usable s.root c.args.rowid) same
    ∙ ap (λ n. found_of n next setting.usable setting.root c.args.rowid) c.requires.size

pub returns-clause-faults : goal.returns-clause-faults
returns-clause-faults g c still =
    let numbers = c.args.numbers.now in
    let views = map option_copied c.args.views.now in
    let before = c.args.before.now in
    let setting = c.args.setting.now in
    let nodes = c.args.nodes.now in
    let chains = c.args.chains.now in
    let next = g.P.PageViews.view c.args.pages.now in
    let same = c.same_setting.ensures c.if-not-same_setting.false in
    let kept = if_standing c.args.stands numbers views before.size before.usable before.root c.args.rowid c.args.history.now nodes chains c.if-not-stands.false c.requires.standing in
    let whole : (n : ℕ) → IsWhole before.usable (next n) = λ n. subst (λ u. IsWhole u (next n)) (sym (ap (λ s. s.usable) same))
    (has_whole setting.usable (g.P.PageViews.page_size c.args.pages.now) (next n) c.requires.within c.requires.small (λ page is. c.size-size.ensures.whole n page is)) in
    let read : to_z w64 (of_z w64 c.args.rowid) ≡ c.args.rowid = grind (arith, to_z-of_z) in
    let steady = subst (λ u. AreSteady u c.args.rowid numbers views next nodes chains c.args.changed.now) (sym (ap (λ s. s.usable) same))
    (subst (λ z. AreSteady setting.usable z numbers views next nodes chains c.args.changed.now) read (c.in_ok-all_steady.ensures c.if-not-branch.false)) in
    faults_still numbers views before.size before.usable before.root c.args.rowid c.args.history.now nodes chains kept next c.args.changed.now c.requires.covered c.requires.stand whole steady
    ∙ ap (λ s. faults_of s.size next s.usable s.root) same
    ∙ ap (λ n. faults_of n next setting.usable setting.root) c.requires.size

pub returns-clause-standing : goal.returns-clause-standing
returns-clause-standing g c still =
    let numbers = c.args.numbers.now in
    let views = map option_copied c.args.views.now in
    let before = c.args.before.now in
    let setting = c.args.setting.now in
    let nodes = c.args.nodes.now in
    let chains = c.args.chains.now in
    let next = g.P.PageViews.view c.args.pages.now in
    let same = c.same_setting.ensures c.if-not-same_setting.false in
    let kept = if_standing c.args.stands numbers views before.size before.usable before.root c.args.rowid c.args.history.now nodes chains c.if-not-stands.false c.requires.standing in
    let whole : (n : ℕ) → IsWhole before.usable (next n) = λ n. subst (λ u. IsWhole u (next n)) (sym (ap (λ s. s.usable) same))
    (has_whole setting.usable (g.P.PageViews.page_size c.args.pages.now) (next n) c.requires.within c.requires.small (λ page is. c.size-size.ensures.whole n page is)) in
    let read : to_z w64 (of_z w64 c.args.rowid) ≡ c.args.rowid = grind (arith, to_z-of_z) in
    let steady = subst (λ u. AreSteady u c.args.rowid numbers views next nodes chains c.args.changed.now) (sym (ap (λ s. s.usable) same))
    (subst (λ z. AreSteady setting.usable z numbers views next nodes chains c.args.changed.now) read (c.in_ok-all_steady.ensures c.if-not-branch.false)) in
    (c.if-not-stands.false, standing_still numbers views before.size before.usable before.root c.args.rowid c.args.history.now nodes chains kept next c.args.changed.now c.requires.covered c.requires.stand whole steady)
