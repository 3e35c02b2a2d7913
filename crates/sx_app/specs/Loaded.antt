-- Evidence as it was loaded, and the evidence that it is.
use Rattle.std.specs.Prelude.{ℕ, ◌≤◌, List, length, Option, IfSome}
use Rattle.std.specs.Option.{option_map}
use Rattle.std.specs.declared.alloc.Global.{Global}
use Rattle.std.specs.declared.vec.Vec.{Vec}
use Rattle.sx_edge.specs.declared.whole_file.TheConstants.{GREATEST_FILE}
use Rattle.sx_app.specs.Evidence.{Opened, Companions, Evidence}
use Rattle.sx_app.specs.declared.database.Database.{Database as LoadedDatabase}
use Rattle.sx_app.specs.declared.loaded.Companions.{Companions as LoadedCompanions}
use Rattle.sx_app.specs.declared.loaded.Loaded.{Loaded}

-- a database as it was loaded, without where it lies in memory
abbrev pub opened_by : LoadedDatabase → Opened
opened_by database = record { header = database.header; bytes = database.bytes.items }

-- the bytes of a file as it was loaded, where there is one
abbrev pub bytes_by : Option (Vec ℕ Global) → Option (List ℕ)
bytes_by file = option_map (λ bytes. bytes.items) file

-- the files beside a database as they were loaded
abbrev pub companions_by : LoadedCompanions → Companions
companions_by beside = record { wal = bytes_by beside.wal; journal = bytes_by beside.journal }

-- the evidence as it was loaded
abbrev pub evidence_by : Loaded → Evidence
evidence_by loaded = record {
  database = opened_by loaded.database;
  wal = bytes_by loaded.beside.wal;
  journal = bytes_by loaded.beside.journal;
}

-- a file that was loaded has at most so many bytes
abbrev pub IsWithin : Option (Vec ℕ Global) → Type 0
IsWithin file = IfSome file (λ bytes. length bytes.items ≤ GREATEST_FILE)
