use Rattle.std.proofs.Common.{rules}
use Rattle.sx_report.specs.Facts.{facts_by}
use Rattle.sx_report.proofs.Joined.{report_joined}
use Rattle.sx_report.proofs.text.case_json.Goals as goal

pub returns : goal.returns
returns c = let joined = report_joined (facts_by c.args.facts.now) in search rules
