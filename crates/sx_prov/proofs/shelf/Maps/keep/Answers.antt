use Rattle.std.proofs.Common.{◌≡◌, None, rules}
use Rattle.sx_prov.proofs.Finding.{asked_made}
use Rattle.sx_prov.proofs.shelf.Maps.keep.Goals as goal

pub returns : goal.returns
returns c =
    let none : c.find.result ≡ None = search rules in
    let never = rw none at c.find.ensures.none in
    rw (← c.self.view_is) (asked_made c.self.inside.kept.items c.push.new.kept.items _ c.push.result (rw c.deref.ensures.value at never) c.push.ensures.ok c.push.ensures.place c.push.ensures.err)
