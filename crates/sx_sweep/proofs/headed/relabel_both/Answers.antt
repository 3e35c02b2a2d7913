use Rattle.std.proofs.Common.{subst}
use Rattle.sx_moment.specs.Turns.{is_among}
use Rattle.sx_sweep.specs.Passing.{Passes}
use Rattle.sx_sweep.proofs.PassLemmas.{both_gone}
use Rattle.sx_sweep.proofs.WalkLemmas.{on_ok}
use Rattle.sx_sweep.proofs.headed.relabel_both.Goals as goal

pub returns : goal.returns
returns c =
    on_ok c.relabel_listed-2.result
    (both_gone c.args.scene.now.sweep.now c.args.scene.now.table.now c.args.scene.now.layout.now c.args.scene.now.images.now c.args.known.now.owned c.relabel_listed.new.known.owned c.relabel_listed-2.new.known.owned
    c.args.known.now.sums c.relabel_listed.new.known.sums c.relabel_listed-2.new.known.sums c.args.touched.now c.requires.others
    (subst (λ list. Passes c.args.scene.now.sweep.now.case c.args.scene.now.sweep.now.moment c.args.scene.now.sweep.now.numbers c.args.scene.now.table.now c.args.scene.now.layout.now c.args.scene.now.images.now c.args.known.now.owned c.relabel_listed.new.known.owned c.args.known.now.sums c.relabel_listed.new.known.sums (is_among list)) c.changed.ensures.value c.in_ok-relabel_listed.ensures))
    c.relabel_listed-2.ensures
