use Rattle.std.proofs.Common.{sym, subst, [], map, option_copied}
use Rattle.std.proofs.lemmas.Result.{on_ok_weaker}
use Rattle.sx_history.specs.Marks.{AreKept, AreNamedBut, AreLinkedBut}
use Rattle.sx_history.proofs.Marking.{linked_grown, named_grown, noted_still, names_kept, on_ok_both}
use Rattle.sx_history.proofs.marks.mark_on.Goals as goal

pub note_nodes-requires-clause-named : goal.note_nodes-requires-clause-named
note_nodes-requires-clause-named c =
    let views = map option_copied c.args.views.now in
    named_grown c.args.numbers.now views c.args.usable c.args.nodes.now.items c.note.new.marks.items c.args.chains.now.items c.args.chains.now.items c.in_ok-work.work.items c.note.new.work.items
    (subst (AreNamedBut c.args.numbers.now views c.args.usable c.args.nodes.now.items c.args.chains.now.items) (sym c.in_ok-work.ensures) c.requires.named)
    c.in_ok-note.ensures.grown (λ rank is. is)

pub note_chains-requires-clause-linked : goal.note_chains-requires-clause-linked
note_chains-requires-clause-linked c =
    let views = map option_copied c.args.views.now in
    linked_grown c.args.numbers.now views c.args.chains.now.items c.note_nodes.new.chains.items c.in_ok-later.later.items c.note_nodes.new.later.items
    (subst (AreLinkedBut c.args.numbers.now views c.args.chains.now.items) (sym c.in_ok-later.ensures) c.requires.linked)
    c.in_ok-note_nodes.ensures.chained

pub returns-clause-marked : goal.returns-clause-marked
returns-clause-marked c =
    let views = map option_copied c.args.views.now in
    on_ok_weaker c.note_chains.result (λ linked. record {
      at_root = noted_still c.args.numbers.now c.note.new.marks.items c.note_nodes.new.nodes.items c.args.root c.in_ok-note_nodes.ensures.kept c.in_ok-note.ensures.noted;
      named = names_kept c.args.numbers.now views c.args.usable c.note_nodes.new.nodes.items c.note_nodes.new.chains.items c.note_chains.new.chains.items linked.1 c.in_ok-note_nodes.ensures.named;
      linked = linked.0;
    }) (on_ok_both (AreLinkedBut c.args.numbers.now views c.note_chains.new.chains.items []) (AreKept c.note_nodes.new.chains.items c.note_chains.new.chains.items) c.note_chains.result c.note_chains.ensures.linked c.note_chains.ensures.kept)
