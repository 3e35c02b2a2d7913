-- A schema as it is given.
use Rattle.std.specs.Prelude.{List}
use Rattle.sx_schema.specs.declared.listing.Schema.{Schema}
use Rattle.sx_schema.specs.Entries.{Entry}
use Rattle.sx_schema.specs.GivenEntries.{all_by}

-- the entries of a schema
abbrev pub entries_by : Schema → List Entry
entries_by schema = all_by schema.entries.items
