use Rattle.std.proofs.Common.{arith}
use Rattle.sx_tree.proofs.tests.assert_items.Goals as goal

pub new-pages-requires : goal.new-pages-requires
new-pages-requires c = omega arith
