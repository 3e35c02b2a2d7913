use Rattle.std.proofs.Common.{◌≡◌, ◌+◌, ◌-◌, ◌∷◌, ◌++◌, [], cond, map, Some, None, length, ap, sym, ◌∙◌, rules}
use Rattle.std.specs.List.{range_with_len, last_or}
use Rattle.sx_base.specs.declared.moment.Moment.TheVariants.{Journal, File, Commit}
use Rattle.sx_moment.specs.Gathered.{is_live_state}
use Rattle.sx_moment.proofs.Moments.{last_commit}
use Rattle.sx_moment.proofs.case.Case.last.Goals as goal

pub returns-in_default : goal.returns-in_default
returns-in_default c =
    let one : c.commits.result - 1 + 1 ≡ c.commits.result = search rules in
    let all : c.commits.result - 1 + 1 ≡ length c.args.self.now.wal.commits = search rules in
    let live = is_live_state c.args.self.now.journal.state in
    ap (λ n. last_or None (cond live (Journal ∷ []) [] ++ File ∷ map Commit (range_with_len 1 n))) (sym all)
    ∙ last_commit live (c.commits.result - 1)
    ∙ ap (λ n. Some (Commit n)) one
