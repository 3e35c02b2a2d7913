use Rattle.std.proofs.Common.{◌≡◌, drop, true}
use Rattle.sx_ddl.specs.declared.options.Due.TheVariants.{First}
use Rattle.sx_ddl.specs.Options.{rowid_behind}
use Rattle.sx_ddl.proofs.options.read_options.Given as goal

-- the tokens from here on say it
abbrev pub invariant-loop-place : goal.invariant-loop-place
invariant-loop-place l = rowid_behind l.end First true l.tokens ≡ rowid_behind l.end l.due l.rowid (drop l.place l.tokens)
