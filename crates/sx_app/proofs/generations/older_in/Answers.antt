use Rattle.std.proofs.Common.{◌∙◌, ap}
use Rattle.std.proofs.lemmas.Result.{IfOk-weaker}
use Rattle.sx_generations.specs.Older.{older_of}
use Rattle.sx_moment.specs.Gathered.{bytes_in}
use Rattle.sx_app.proofs.Indexes.{log_at}
use Rattle.sx_app.proofs.generations.older_in.Goals as goal

pub older-requires : goal.older-requires
older-requires c = record {
  page_size = c.args.case.now.header.page_size;
  are = log_at _ _ _ _ _ c.header-header.ensures.ranges.page_size (c.or_empty.ensures ∙ ap bytes_in c.evidence.ensures.wal) c.wal.ensures.wal c.wal.ensures.read;
}

pub returns : goal.returns
returns c =
    IfOk-weaker c.older.result _ _
    (λ runs told.
    told c.args.case.now.header.page_size
    (log_at _ _ _ _ _ c.header-header.ensures.ranges.page_size (c.or_empty.ensures ∙ ap bytes_in c.evidence.ensures.wal) c.wal.ensures.wal c.wal.ensures.read)
    ∙ ap (older_of c.args.case.now.header.page_size) (c.or_empty.ensures ∙ ap bytes_in c.evidence.ensures.wal))
    c.older.ensures
