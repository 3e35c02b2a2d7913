use Rattle.std.proofs.Common.{ap}
use Rattle.sx_edge.specs.Shelf.{number_of}
use Rattle.sx_edge.proofs.Shelves.{number_at}
use Rattle.sx_edge.proofs.shelf.Shelf.number_of.Goals as goal

pub returns-clause-number : goal.returns-clause-number
returns-clause-number c =
    let at = number_at c.self.inside.files.items c.args.name.now in
    let here = ap (λ shelf. number_of shelf.files c.args.name.now) c.self.view_is in
    cc
