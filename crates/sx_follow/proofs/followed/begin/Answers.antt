use Rattle.std.proofs.Common.{◌≡◌, ◌∙◌, ◌++◌, [], map, ap, sym, subst}
use Rattle.sx_follow.specs.Sums.{nothing}
use Rattle.sx_follow.specs.Rising.{rose_all}
use Rattle.sx_follow.specs.Risen.{IsRising}
use Rattle.sx_follow.specs.Following.{HasFollowed}
use Rattle.sx_follow.proofs.FollowLemmas.{roots_rising, begin_end}
use Rattle.sx_follow.proofs.followed.begin.Goals as goal

pub rise-requires : goal.rise-requires
rise-requires g c =
    let graph = g.N.Names.graph c.args.names.now in
    let held = c.args.held.items in
    let made : c.give.new.receiver ≡ rose_all (record { sums = record { held = held; sums = map (λ page. nothing) held; dead = 0 }; named = []; todo = [] }) graph.roots =
    c.in_ok-give.ensures ∙ ap (rose_all c.from-rising.result) c.requires.roots
    ∙ ap (λ state. rose_all state graph.roots) (c.from-rising.ensures ∙ ap (λ sums. record { sums = sums; named = []; todo = [] }) c.in_ok-fresh.ensures) in
    record {
      lost = [];
      base = [];
      first = graph.roots ++ [];
      rising = subst (IsRising graph [] [] (graph.roots ++ [])) (sym made) (roots_rising graph held (g.met.N.Names.sound c.args.names.now) c.requires.held);
    }

pub returns : goal.returns
returns g c =
    let graph = g.N.Names.graph c.args.names.now in
    let held = c.args.held.items in
    let made : c.give.new.receiver ≡ rose_all (record { sums = record { held = held; sums = map (λ page. nothing) held; dead = 0 }; named = []; todo = [] }) graph.roots =
    c.in_ok-give.ensures ∙ ap (rose_all c.from-rising.result) c.requires.roots
    ∙ ap (λ state. rose_all state graph.roots) (c.from-rising.ensures ∙ ap (λ sums. record { sums = sums; named = []; todo = [] }) c.in_ok-fresh.ensures) in
    subst (HasFollowed graph) (sym c.parts-sums.ensures.sums)
    (begin_end graph c.rise.new.rising (g.met.N.Names.sound c.args.names.now)
    (c.in_ok-rise.ensures.risen [] [] (graph.roots ++ [])
    (subst (IsRising graph [] [] (graph.roots ++ [])) (sym made) (roots_rising graph held (g.met.N.Names.sound c.args.names.now) c.requires.held))))
