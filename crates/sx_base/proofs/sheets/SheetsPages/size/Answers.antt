use Rattle.sx_base.proofs.SheetViews.{view_whole}
use Rattle.sx_base.proofs.sheets.SheetsPages.size.Goals as goal

pub returns-clause-whole : goal.returns-clause-whole
returns-clause-whole c = view_whole c.args.self.now.page_size c.args.self.now.sheets.now
