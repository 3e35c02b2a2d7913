use Rattle.std.proofs.Common.{◌≡◌, ◌∙◌, ◌++◌, [], ap, sym, subst}
use Rattle.std.specs.List.{flat_map}
use Rattle.sx_closure.proofs.Walks.{seen_by}
use Rattle.sx_follow.specs.Rising.{rose_all}
use Rattle.sx_follow.specs.Risen.{IsRising, HasRisen}
use Rattle.sx_follow.specs.Falling.{fell_all, IsFalling}
use Rattle.sx_follow.proofs.FallLemmas.{pairs_in}
use Rattle.sx_follow.proofs.FollowLemmas.{come_rising, gone_falling, checked_followed}
use Rattle.sx_follow.proofs.KeepLemmas.{followed_kept, ifsome_named}
use Rattle.sx_follow.proofs.followed.follow.Goals as goal

pub rise-requires : goal.rise-requires
rise-requires g c =
    let graph = g.N.Names.graph c.args.names.now in
    let can = c.requires in
    let made : c.give.new.receiver ≡ rose_all (record { sums = c.args.sums; named = []; todo = [] }) c.args.come.now =
    c.in_ok-give.ensures ∙ ap (λ state. rose_all state c.args.come.now) c.from-rising.ensures in
    record {
      lost = pairs_in c.args.gone.now;
      base = can.followed.met;
      first = c.args.come.now ++ seen_by can.before can.followed.met;
      rising = subst (IsRising graph (pairs_in c.args.gone.now) can.followed.met (c.args.come.now ++ seen_by can.before can.followed.met)) (sym made)
          (come_rising graph c.args.sums c.args.come.now c.args.gone.now (g.met.N.Names.sound c.args.names.now) can);
    }

pub fall-requires : goal.fall-requires
fall-requires g c =
    let graph = g.N.Names.graph c.args.names.now in
    let can = c.requires in
    let gone = c.args.gone.now in
    let first = c.args.come.now ++ seen_by can.before can.followed.met in
    let begun : c.give.new.receiver ≡ rose_all (record { sums = c.args.sums; named = []; todo = [] }) c.args.come.now =
    c.in_ok-give.ensures ∙ ap (λ state. rose_all state c.args.come.now) c.from-rising.ensures in
    let risen : HasRisen graph (pairs_in gone) can.followed.met first c.rise.new.rising =
    c.in_ok-rise.ensures.risen (pairs_in gone) can.followed.met first
    (subst (IsRising graph (pairs_in gone) can.followed.met first) (sym begun)
    (come_rising graph c.args.sums c.args.come.now gone (g.met.N.Names.sound c.args.names.now) can)) in
    let made : c.give-2.new.receiver ≡ fell_all (record { sums = c.rise.new.rising.sums; lost = []; todo = [] }) gone =
    c.in_ok-give-2.ensures ∙ ap (λ state. fell_all state gone) (c.from-falling.ensures ∙ ap (λ sums. record { sums = sums; lost = []; todo = [] }) c.parts-risen.ensures.sums) in
    subst (λ state. IsFalling graph (flat_map graph.targets state.todo) state) (sym made)
    (gone_falling graph c.args.sums c.args.come.now gone c.rise.new.rising (g.met.N.Names.sound c.args.names.now) can risen)

pub returns-clause-followed : goal.returns-clause-followed
returns-clause-followed g c =
    checked_followed (g.N.Names.graph c.args.names.now) c.fall.new.falling c.checked.result (g.met.N.Names.sound c.args.names.now) (g.met.N.Names.sourced c.args.names.now)
    c.in_ok-fall.ensures.fallen c.checked.ensures.sums c.checked.ensures.ways

pub returns-clause-kept : goal.returns-clause-kept
returns-clause-kept g c =
    let begun : c.give.new.receiver ≡ rose_all (record { sums = c.args.sums; named = []; todo = [] }) c.args.come.now =
    c.in_ok-give.ensures ∙ ap (λ state. rose_all state c.args.come.now) c.from-rising.ensures in
    let took : c.give-2.new.receiver ≡ fell_all (record { sums = c.rise.new.rising.sums; lost = []; todo = [] }) c.args.gone.now =
    c.in_ok-give-2.ensures
    ∙ ap (λ state. fell_all state c.args.gone.now) (c.from-falling.ensures ∙ ap (λ sums. record { sums = sums; lost = []; todo = [] }) c.parts-risen.ensures.sums) in
    let named = ifsome_named c.checked.result c.parts-risen.result.1.items c.rise.new.rising.named c.checked.ensures.named c.parts-risen.ensures.named in
    followed_kept c.args.sums c.args.come.now c.args.gone.now c.give.new.receiver c.rise.new.rising c.give-2.new.receiver c.fall.new.falling c.checked.result
    begun c.in_ok-rise.ensures.kept took c.in_ok-fall.ensures.kept c.checked.ensures.sums named c.checked.ensures.lost
