use Rattle.std.proofs.Common.{◌≡◌, ◌+◌, ◌<◌, true, false, length, refl, subst, sym, arith}
use Rattle.sx_moment.specs.Gathered.{Gathered, moments_of}
use Rattle.sx_moment.specs.Upkeep.{IsSwept}
use Rattle.sx_moment.proofs.Swept.{swept_next, moments_follow}
use Rattle.sx_moment.proofs.sweep.Sweep.next.Goals as goal

pub turn-requires : goal.turn-requires
turn-requires c =
    let s = c.self.inside in
    record {
      case = c.snapshot_at-next.ensures.case;
      follows = moments_follow s.snapshot.case.now s.place s.snapshot.moment c.snapshot_at-next.result.moment c.self.invariant.there c.snapshot_at-next.ensures.moment;
      ranked = c.self.invariant.ranked;
      origins = c.self.invariant.origins_are;
      long = c.self.invariant.long;
      later = omega (arith, c.self.invariant.settled_within);
    }

pub invariant_of-self : goal.invariant_of-self
invariant_of-self c =
    let s = c.self.inside in
    subst (λ (case : Gathered). IsSwept case (s.place + 1) c.snapshot_at-next.result.moment s.ranks c.turn.new.origins.items c.turn.new.changes.settled c.turn.new.changes.turns)
    (sym c.snapshot_at-next.ensures.case)
    (swept_next s.snapshot.case.now s.place s.snapshot.moment c.snapshot_at-next.result.moment s.ranks s.origins.items c.turn.new.origins.items s.changes.settled c.turn.new.changes.settled
    s.changes.turns c.turn.new.changes.turns c.self.invariant c.snapshot_at-next.ensures.moment c.turn.ensures.origins c.turn.ensures.passed c.turn.ensures.settled)

pub returns : goal.returns
returns c =
    let s = c.self.inside in
    let less : s.place + 1 < length (moments_of s.snapshot.case.now) = omega (arith, c.if-self-moments.false, c.moments-moments.ensures) in
    rw (← c.self.view_is) (record {
      more = (λ yes. less, λ within. refl);
      next = λ yes. record { case = c.snapshot_at-next.ensures.case; place = refl; numbers = refl; settled = c.turn.ensures.settled };
      last = λ stays. absurd (let never : true ≡ false = stays in cc);
    })
