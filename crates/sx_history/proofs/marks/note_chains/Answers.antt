use Rattle.std.proofs.Common.{◌≡◌, ◌++◌, ◌∷◌, [], map, option_copied, rules}
use Rattle.sx_history.proofs.Marking.{linked_next}
use Rattle.sx_history.proofs.marks.note_chains.Goals as goal

pub loop-rank-preserved : goal.loop-rank-preserved
loop-rank-preserved c =
    let before = c.loop-rank.invariant in
    let after = c.in_ok-note_link.ensures in
    let taken : c.loop-rank.work.items ≡ c.pop.new.self.items ++ c.in-Some.rank ∷ [] = search rules in
    record {
      chains = after.chains;
      ranks = after.ranks;
      linked = linked_next c.args.numbers.now (map option_copied c.args.views.now) c.loop-rank.chains.items c.note_link.new.chains.items c.pop.new.self.items c.loop-rank.work.items
          c.note_link.new.work.items c.in-Some.rank taken before.linked after.grown after.linked;
      kept = λ rank is. after.grown.kept rank (before.kept rank is);
    }
