use Rattle.sx_ddl.specs.Tokens.{lexed_by}
use Rattle.sx_ddl.proofs.ShapeLemmas.{text_given}
use Rattle.sx_ddl.proofs.shape.read_table.Goals as goal

pub returns-in-Ok : goal.returns-in-Ok
returns-in-Ok c = text_given c.args.sql.now c.as_slice.result.now (lexed_by c.in-Ok.read) c.read_statement.result _ c.in-Ok.ensures c.as_slice.ensures.value c.read_statement.ensures
