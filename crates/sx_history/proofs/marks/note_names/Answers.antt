use Rattle.std.proofs.Common.{◌≡◌, ◌∙◌, Some, Ok, option_copied, map, sym, ap, refl, subst, slice_index}
use Rattle.std.specs.List.{All}
use Rattle.std.proofs.lemmas.Result.{on_ok_weaker}
use Rattle.sx_node.specs.Nodes.{node_of}
use Rattle.sx_node.specs.Targets.{targets_of}
use Rattle.sx_history.specs.Closed.{IsNamed}
use Rattle.sx_history.specs.Marks.{IsNoted, IsWhole, view_at}
use Rattle.sx_history.proofs.Marking.{view_is}
use Rattle.sx_history.proofs.marks.note_names.Goals as goal

pub read_node-requires-clause-within : goal.read_node-requires-clause-within
read_node-requires-clause-within c =
    let is = view_is option_copied c.args.views.now c.args.rank (Some c.in-Some.page) refl c.in-Some.is in
    (subst (IsWhole c.args.usable) is (c.requires.whole c.args.rank)).0

pub read_node-requires-clause-small : goal.read_node-requires-clause-small
read_node-requires-clause-small c =
    let is = view_is option_copied c.args.views.now c.args.rank (Some c.in-Some.page) refl c.in-Some.is in
    (subst (IsWhole c.args.usable) is (c.requires.whole c.args.rank)).1

pub returns-in-Ok-clause-named : goal.returns-in-Ok-clause-named
returns-in-Ok-clause-named c =
    let is : view_at (map option_copied c.args.views.now) c.args.rank ≡ Some c.in-Some.page.now = view_is option_copied c.args.views.now c.args.rank (Some c.in-Some.page) refl c.in-Some.is in
    on_ok_weaker c.note_targets.result (λ named marked page node there read.
    let own : Some page ≡ Some c.in-Some.page.now = sym there ∙ is in
    let same : page ≡ c.in-Some.page.now = cc in
    let exact : Ok c.in-Ok.node ≡ node_of c.in-Some.page.now (slice_index c.args.numbers.now c.args.rank) c.args.usable = c.in-Ok.ensures.exact in
    let both : Ok c.in-Ok.node ≡ Ok node = exact ∙ ap (λ p. node_of p (slice_index c.args.numbers.now c.args.rank) c.args.usable) (sym same) ∙ read in
    let nodes : c.in-Ok.node ≡ node = cc in
    subst (All (IsNamed (IsNoted c.args.numbers.now c.note_targets.new.nodes.items) (IsNoted c.args.numbers.now c.note_targets.new.chains.items)))
    (c.targets.ensures.value ∙ ap targets_of nodes) named) c.note_targets.ensures.named
