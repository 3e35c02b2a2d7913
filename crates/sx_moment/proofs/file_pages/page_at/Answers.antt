use Rattle.std.proofs.Common.{arith}
use Rattle.sx_moment.proofs.FilePages.{few_pages}
use Rattle.sx_moment.proofs.file_pages.page_at.Goals as goal

pub overflow_add-place : goal.overflow_add-place
overflow_add-place c =
    let few = few_pages c.args.lock c.args.count c.args.place c.requires.within in
    omega (arith, few, c.requires.few)

pub overflow_add-result-else-place-lock : goal.overflow_add-result-else-place-lock
overflow_add-result-else-place-lock c =
    let few = few_pages c.args.lock c.args.count c.args.place c.requires.within in
    omega (arith, few, c.requires.few)
