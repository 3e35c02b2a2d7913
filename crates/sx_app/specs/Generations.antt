-- The lines of `generations` over gathered evidence.
use Rattle.std.specs.Prelude.{ℕ, List}
use Rattle.sx_generations.specs.Confirmed.{confirmed_of}
use Rattle.sx_generations.specs.Older.{older_of}
use Rattle.sx_generations_text.specs.Generations.{generations_lines}
use Rattle.sx_moment.specs.Gathered.{Gathered, bytes_in}

-- those of the runs in the log, and of the groups in the journal
unfoldable pub generations_of : Gathered → List (List ℕ)
generations_of case =
    generations_lines case.wal.slots (older_of case.header.page_size (bytes_in case.wal_bytes)) (confirmed_of case.header.page_size (bytes_in case.journal_bytes))
