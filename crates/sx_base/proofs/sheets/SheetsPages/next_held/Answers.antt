use Rattle.std.proofs.Common.{◌≡◌, ◌+◌, List, ℕ, Option, Some, None, Bor, option_copied, is_some, refl, sym, ◌∙◌, ap, length, arith}
use Rattle.sx_base.specs.Sheets.{sheet_view}
use Rattle.sx_base.proofs.HeldPages.{is_next_held, is_none_held}
use Rattle.sx_base.proofs.sheets.SheetsPages.next_held.Goals as goal

copied_some : (found : Option (Bor (List ℕ))) → is_some (option_copied found) ≡ is_some found
copied_some None = refl
copied_some (Some page) = refl

pub returns-then-is_some : goal.returns-then-is_some
returns-then-is_some c =
    let size = length c.args.self.now.sheets.now in
    let view = sheet_view c.args.self.now.page_size c.args.self.now.sheets.now in
    sym (is_next_held size view c.args.after (c.loop-place.place + 1) (record {
      above = omega (arith, c.loop-place.auto.place);
      low = omega arith;
      high = omega (arith, c.loop-place-test.true);
      passes = ap is_some (sym c.page.ensures.view) ∙ copied_some c.page.result ∙ sym c.is_some.ensures ∙ c.if-is_some.true;
      between = λ number low above below. c.loop-place.invariant number above (omega arith);
    }))

pub returns : goal.returns
returns c =
    let size = length c.args.self.now.sheets.now in
    let view = sheet_view c.args.self.now.page_size c.args.self.now.sheets.now in
    sym (is_none_held size view c.args.after (λ number low high above. c.loop-place.invariant number above (omega (arith, c.loop-place-test.false))))
