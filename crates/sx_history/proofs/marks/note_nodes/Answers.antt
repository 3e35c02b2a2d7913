use Rattle.std.proofs.Common.{◌≡◌, ◌++◌, ◌∷◌, [], map, option_copied, rules}
use Rattle.sx_history.proofs.Marking.{grows_then, named_next}
use Rattle.sx_history.proofs.marks.note_nodes.Goals as goal

pub loop-rank-preserved : goal.loop-rank-preserved
loop-rank-preserved c =
    let before = c.loop-rank.invariant in
    let after = c.in_ok-note_names.ensures in
    let taken : c.loop-rank.work.items ≡ c.pop.new.self.items ++ c.in-Some.rank ∷ [] = search rules in
    record {
      nodes = after.nodes;
      chains = after.chains;
      ranks = after.ranks;
      later = after.later;
      named = named_next c.args.numbers.now (map option_copied c.args.views.now) c.args.usable c.loop-rank.nodes.items c.note_names.new.nodes.items c.loop-rank.chains.items
          c.note_names.new.chains.items c.pop.new.self.items c.loop-rank.work.items c.note_names.new.work.items c.loop-rank.later.items c.note_names.new.later.items c.in-Some.rank
          taken before.named after.grown after.chained after.named;
      kept = λ rank is. after.grown.kept rank (before.kept rank is);
      chained = grows_then c.args.chains.now.items c.loop-rank.chains.items c.note_names.new.chains.items c.args.later.now.items c.loop-rank.later.items c.note_names.new.later.items
          before.chained after.chained;
    }
