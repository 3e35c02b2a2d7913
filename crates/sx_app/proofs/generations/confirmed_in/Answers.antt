use Rattle.std.proofs.Common.{◌∙◌, ap}
use Rattle.std.proofs.lemmas.Result.{IfOk-weaker}
use Rattle.sx_generations.specs.Confirmed.{confirmed_of}
use Rattle.sx_moment.specs.Gathered.{bytes_in}
use Rattle.sx_app.proofs.Indexes.{journal_at}
use Rattle.sx_app.proofs.generations.confirmed_in.Goals as goal

pub confirmed-requires : goal.confirmed-requires
confirmed-requires c = record {
  page_size = c.args.case.now.header.page_size;
  are = journal_at _ _ _ _ _ c.header-header.ensures.ranges.page_size (c.or_empty.ensures ∙ ap bytes_in c.evidence.ensures.journal) c.journal.ensures.journal c.journal.ensures.read;
}

pub returns : goal.returns
returns c =
    IfOk-weaker c.confirmed.result _ _
    (λ groups told.
    told c.args.case.now.header.page_size
    (journal_at _ _ _ _ _ c.header-header.ensures.ranges.page_size (c.or_empty.ensures ∙ ap bytes_in c.evidence.ensures.journal) c.journal.ensures.journal c.journal.ensures.read)
    ∙ ap (confirmed_of c.args.case.now.header.page_size) (c.or_empty.ensures ∙ ap bytes_in c.evidence.ensures.journal))
    c.confirmed.ensures
