use Rattle.sx_record.proofs.Layouts.{record_both, headless_both}
use Rattle.sx_record.proofs.fields.records_both_ways.Goals as goal

pub returns-clause-record : goal.returns-clause-record
returns-clause-record c = record_both

pub returns-clause-header_size : goal.returns-clause-header_size
returns-clause-header_size c = headless_both
