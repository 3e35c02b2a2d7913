-- Entries as they are given.
use Rattle.std.specs.Prelude.{List, map}
use Rattle.std.specs.Option.{option_map}
use Rattle.sx_schema.specs.declared.entry.Entry.{Entry as GivenEntry}
use Rattle.sx_schema.specs.Entries.{Entry}

-- what an entry is
abbrev pub entry_by : GivenEntry → Entry
entry_by entry =
    record { is_table = entry.is_table; name = entry.name.items; root = entry.root; sql = option_map (λ sql. sql.items) entry.sql }

-- what entries are
abbrev pub all_by : List GivenEntry → List Entry
all_by entries = map entry_by entries
