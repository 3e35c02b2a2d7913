use Rattle.std.proofs.Common.{ℕ, List, ap, length, arith, ◌∙◌, length-append}
use Rattle.sx_generations.specs.Older.{commits_in}
use Rattle.sx_generations.proofs.Listings.{few_commits}
use Rattle.sx_generations.proofs.listing.list_run.Goals as goal

pub overflow_cast-result : goal.overflow_cast-result
overflow_cast-result c =
    let few = few_commits c.args.frames.now.page_size c.args.frames.now.bytes.now c.args.streak in
    let all = ap (λ (xs : List ℕ). length xs) c.in_ok-list_commits.ensures
    ∙ length-append c.args.commits.now.items (commits_in c.args.frames.now.page_size c.args.frames.now.bytes.now c.args.streak) in
    let most = c.args.frames.now.few in
    omega arith
