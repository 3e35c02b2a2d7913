-- The lengths of the three files of a case, in bytes.
use Rattle.std.specs.Prelude.{length}
use Rattle.std.specs.Option.{option_map}
use Rattle.sx_images.specs.declared.lengths.Lengths.{Lengths}
use Rattle.sx_moment.specs.Gathered.{Gathered}

abbrev pub lengths_in : Gathered → Lengths
lengths_in case = record {
  database = length case.database;
  wal = option_map length case.wal_bytes;
  journal = option_map length case.journal_bytes;
}
