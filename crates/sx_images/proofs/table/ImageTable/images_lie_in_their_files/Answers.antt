use Rattle.std.proofs.Common.{subst}
use Rattle.sx_images.specs.Read.{IsTable}
use Rattle.sx_images.proofs.Lying.{images_lie, images_small}
use Rattle.sx_images.proofs.table.ImageTable.images_lie_in_their_files.Goals as goal

pub returns-clause-within : goal.returns-clause-within
returns-clause-within c = λ i image is. images_lie c.args.self.now i image (subst IsTable c.self.view_is c.self.invariant) is

pub returns-clause-small : goal.returns-clause-small
returns-clause-small c = λ i image is. images_small c.args.self.now i image (subst IsTable c.self.view_is c.self.invariant) is
