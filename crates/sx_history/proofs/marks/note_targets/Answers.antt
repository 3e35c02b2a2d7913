use Rattle.std.proofs.Common.{◌≡◌, ◌∷◌, rules}
use Rattle.sx_node.specs.declared.targets.NodeTarget.TheVariants.{Child, Overflow, Right}
use Rattle.sx_history.proofs.Marking.{grows_then, named_target}
use Rattle.sx_history.proofs.marks.note_targets.Goals as goal

pub loop-target-preserved-in-Continue-1 : goal.loop-target-preserved-in-Continue-1
loop-target-preserved-in-Continue-1 c =
    let before = c.loop-target.invariant in
    let after = c.in_ok-note-in-Child.ensures in
    let first : c.loop-target.targets ≡ Child c.in-Child.cell c.in-Child.page ∷ c.next.new.self = search rules in
    record {
      iterator = (tt, tt);
      nodes = after.marks;
      chains = before.chains;
      ranks = after.ranks;
      later = before.later;
      grown = grows_then c.args.nodes.now.items c.loop-target.nodes.items c.note.new.marks.items c.args.work.now.items c.loop-target.work.items c.note.new.work.items before.grown after.grown;
      chained = before.chained;
      named = named_target c.args.numbers.now c.loop-target.nodes.items c.note.new.marks.items c.loop-target.chains.items c.loop-target.chains.items c.args.targets c.loop-target.targets c.next.new.self
          (Child c.in-Child.cell c.in-Child.page) after.grown.kept (λ rank is. is) after.noted first before.named;
    }

pub loop-target-preserved-in-Continue-branch-2 : goal.loop-target-preserved-in-Continue-branch-2
loop-target-preserved-in-Continue-branch-2 c =
    let before = c.loop-target.invariant in
    let after = c.in_ok-note-in-Overflow.ensures in
    let first : c.loop-target.targets ≡ Overflow c.in-Overflow.cell c.in-Overflow.page c.in-Overflow.rest ∷ c.next.new.self = search rules in
    record {
      iterator = (tt, tt);
      nodes = before.nodes;
      chains = after.marks;
      ranks = before.ranks;
      later = after.ranks;
      grown = before.grown;
      chained = grows_then c.args.chains.now.items c.loop-target.chains.items c.note-in-Overflow.new.marks.items c.args.later.now.items c.loop-target.later.items c.note-in-Overflow.new.work.items before.chained after.grown;
      named = named_target c.args.numbers.now c.loop-target.nodes.items c.loop-target.nodes.items c.loop-target.chains.items c.note-in-Overflow.new.marks.items c.args.targets c.loop-target.targets c.next.new.self
          (Overflow c.in-Overflow.cell c.in-Overflow.page c.in-Overflow.rest) (λ rank is. is) after.grown.kept after.noted first before.named;
    }

pub loop-target-preserved : goal.loop-target-preserved
loop-target-preserved c =
    let before = c.loop-target.invariant in
    let after = c.in_ok-note-in-Right.ensures in
    let first : c.loop-target.targets ≡ Right c.in-Right.page ∷ c.next.new.self = search rules in
    record {
      iterator = (tt, tt);
      nodes = after.marks;
      chains = before.chains;
      ranks = after.ranks;
      later = before.later;
      grown = grows_then c.args.nodes.now.items c.loop-target.nodes.items c.note-in-Right.new.marks.items c.args.work.now.items c.loop-target.work.items c.note-in-Right.new.work.items before.grown after.grown;
      chained = before.chained;
      named = named_target c.args.numbers.now c.loop-target.nodes.items c.note-in-Right.new.marks.items c.loop-target.chains.items c.loop-target.chains.items c.args.targets c.loop-target.targets c.next.new.self
          (Right c.in-Right.page) after.grown.kept (λ rank is. is) after.noted first before.named;
    }
