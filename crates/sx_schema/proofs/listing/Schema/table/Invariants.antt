use Rattle.std.proofs.Common.{◌≡◌, drop}
use Rattle.std.specs.List.{position_from}
use Rattle.sx_schema.specs.Entries.{is_table_named}
use Rattle.sx_schema.specs.GivenEntries.{all_by}
use Rattle.sx_schema.proofs.listing.Schema.table.Given as goal

-- no entry before is a table of that name
abbrev pub invariant-loop-place : goal.invariant-loop-place
invariant-loop-place l =
    position_from (is_table_named l.name) 0 (all_by l.self.entries.items)
    ≡ position_from (is_table_named l.name) l.place (all_by (drop l.place l.self.entries.items))
