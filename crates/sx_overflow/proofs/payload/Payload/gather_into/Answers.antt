use Rattle.std.proofs.Common.{refl, sym, ◌∙◌, arith}
use Rattle.sx_overflow.proofs.Pieces.{first_of}
use Rattle.sx_overflow.proofs.WholeLemmas.{few_to_come}
use Rattle.sx_overflow.proofs.payload.Payload.gather_into.Goals as goal

pub loop-piece-init : goal.loop-piece-init
loop-piece-init g c =
    let few = few_to_come (g.P.PageViews.pages c.self.inside.pages.now) (g.P.PageViews.view c.self.inside.pages.now)
    c.self.inside.usable (first_of c.self.inside.local) c.self.inside.link c.self.inside.left in
    let come = rw c.self.view_is at few in
    record {
      joined = rw c.in_ok-reserve.ensures.items refl;
      room = omega (arith, come, c.in_ok-reserve.ensures.ok, c.in_ok-reserve.ensures.len, c.len_of.ensures);
      sound = sym c.is_whole.ensures ∙ c.if-not-is_whole.false;
      whole = refl;
    }
