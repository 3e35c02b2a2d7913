-- No part of a report is a number with a fraction.
use Rattle.std.proofs.Common.{◌≡◌, false, Option, None, Some, refl}
use Rattle.serde_json.specs.Written.{has_float}
use Rattle.sx_report.specs.Facts.{Log, Journal}
use Rattle.sx_report.specs.Report.{wal_data, journal_data}

pub no_float_in_log : (log : Option Log) → has_float (wal_data log) ≡ false
no_float_in_log None = refl
no_float_in_log (Some log) = refl

pub no_float_in_journal : (journal : Option Journal) → has_float (journal_data journal) ≡ false
no_float_in_journal None = refl
no_float_in_journal (Some journal) = refl
