use Rattle.std.proofs.Common.{◌≡◌, ◌∙◌, ap, length, refl, subst, sym, arith, [], ◌∷◌, ◌<◌}
use Rattle.sx_base.specs.Sheets.{sheet_view}
use Rattle.std.proofs.lemmas.List.Elements.{All-nil}
use Rattle.sx_history.specs.Marks.{view_at}
use Rattle.sx_history.specs.Standing.{Covers}
use Rattle.sx_history.proofs.Keeping.{map_at}
use Rattle.sx_history.proofs.TwoPages.{two, ranks, two_rises, two_covers, none_other, ranks_within}
use Rattle.sx_history.proofs.tests.entries_at_last.Goals as goal

pub start-requires : goal.start-requires
start-requires g c =
    let same = ap length c.new-pages.ensures.sheets in
    let long : length c.new-pages.result.sheets.now ≡ 2 = omega (arith, same) in
    λ k. (
      (refl, tt),
      (two_rises, (two_covers c.new-pages.result.page_size c.new-pages.result.sheets.now long, (omega arith, (omega arith, omega arith)))),
    )

pub advance-requires : goal.advance-requires
advance-requires g c =
    let same = ap length c.new-pages.ensures.sheets in
    let long : length c.new-pages.result.sheets.now ≡ 2 = omega (arith, same) in
    let numbers : c.in_ok-walk.walk.numbers ≡ two = c.in_ok-walk.ensures.numbers in
    let view = sheet_view c.new-pages.result.page_size c.new-pages.result.sheets.now in
    λ k. (
      (refl, tt),
      (
        subst (λ all. Covers all view) (sym numbers) (two_covers c.new-pages.result.page_size c.new-pages.result.sheets.now long),
        (
          All-nil (λ rank. rank < length c.in_ok-walk.walk.numbers),
          (λ rank within other. ap (λ views. view_at views rank) c.in_ok-walk.ensures.stands.views ∙ map_at view c.in_ok-walk.walk.numbers rank within, (omega arith, (omega arith, omega arith))),
        ),
      ),
    )

pub advance-requires-2 : goal.advance-requires-2
advance-requires-2 g c =
    let same = ap length c.new.ensures.sheets in
    let long : length c.new.result.sheets.now ≡ 2 = omega (arith, same) in
    let numbers : c.advance.new.self.numbers ≡ two = c.in_ok-advance.ensures.numbers ∙ c.in_ok-walk.ensures.numbers in
    let one : length c.advance.new.self.numbers ≡ 2 = ap length numbers in
    let view = sheet_view c.new.result.page_size c.new.result.sheets.now in
    λ k. (
      (refl, tt),
      (
        subst (λ all. Covers all view) (sym numbers) (two_covers c.new.result.page_size c.new.result.sheets.now long),
        (
          ranks_within c.advance.new.self.numbers one,
          (λ rank within other. none_other rank (omega (arith, one, within)) other, (omega arith, (omega arith, omega arith))),
        ),
      ),
    )
