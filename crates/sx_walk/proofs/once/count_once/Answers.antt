use Rattle.std.proofs.Common.{◌≡◌, ◌∙◌, ℕ, ◌<◌, List, Option, None, map, length, option_copied, refl, sym, ap, subst, arith}
use Rattle.std.proofs.lemmas.List.{length-replicate}
use Rattle.std.specs.List.{All, range_with_len}
use Rattle.sx_base.specs.Sheets.{sheet_view}
use Rattle.sx_walk.specs.Walks.{RanksStand}
use Rattle.sx_walk.proofs.NoPages.{no_view, none_covered, none_kept, all_within, none_stands}
use Rattle.sx_walk.proofs.StepLemmas.{next_kept}
use Rattle.sx_walk.proofs.once.count_once.Goals as goal

pub follow_step-requires : goal.follow_step-requires
follow_step-requires g c κs =
    let numbers = c.args.numbers.now in
    let usable = c.args.layout.now.usable in
    let none = c.new-none.result in
    let view = sheet_view none.page_size none.sheets.now in
    let unseen : (number : ℕ) → view number ≡ None = no_view none.page_size none.sheets.now c.new-none.ensures.sheets in
    let views : List (Option (List ℕ)) = map option_copied c.in_ok-views.views.items in
    let ranks : c.deref.result.now ≡ range_with_len 0 (length numbers) = c.deref.ensures.value ∙ c.in_ok-ranks.ensures in
    let are : views ≡ map view numbers = ap (map option_copied) c.in_ok-views.ensures ∙ none_kept numbers view unseen in
    let sized : none.page_size ≡ usable = c.new-none.ensures.page_size in
    let within = c.requires.within in
    let small = c.requires.small in
    let counted = c.in_ok-before.before in
    let told = c.in_ok-before.ensures in (
      (refl, tt),
      (
        c.requires.rises,
        (
          ap length c.in_ok-views.ensures ∙ length-replicate (length numbers) None,
          (
            subst (All (λ rank. rank < length numbers)) (sym ranks) (all_within numbers),
            (
              c.requires.covered,
              (
                subst (λ list. RanksStand list numbers views (g.P.PageViews.view c.args.pages.now)) (sym ranks) (none_stands numbers views (g.P.PageViews.view c.args.pages.now)),
                (
                  c.requires.page_size,
                  (
                    c.requires.least,
                    (
                      c.requires.within,
                      (
                        c.requires.small,
                        next_kept numbers views (length none.sheets.now) c.args.layout.now c.args.roots.now counted.table counted.sums counted.roots counted.missing view none.page_size usable refl
                            (none_covered numbers view unseen) are (omega (arith, sized)) (omega (arith, sized, within, small)) c.size-size.ensures.whole (λ number past. unseen number) (unseen 0) told.good told.wide told.table told.sums told.roots told.missing,
                      ),
                    ),
                  ),
                ),
              ),
            ),
          ),
        ),
      ),
    )
