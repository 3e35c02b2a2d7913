use Rattle.std.proofs.Common.{Ok, not, ap, sym, subst, ◌∙◌}
use Rattle.sx_map_text.specs.Map.{map_lines}
use Rattle.sx_moment.specs.Gathered.{size_at}
use Rattle.sx_moment.specs.Heads.{layout_of}
use Rattle.sx_moment.specs.Views.{view_of}
use Rattle.sx_app.specs.Labels.{graph_at, map_at}
use Rattle.sx_app.specs.Owed.{Gives}
use Rattle.sx_app.proofs.Layouts.{map_headed}
use Rattle.sx_app.proofs.Missing.{made_gives, memory_fails}
use Rattle.sx_app.proofs.commands.map_pages.Goals as goal

pub returns-in-Ok : goal.returns-in-Ok
returns-in-Ok g c =
    let case = c.args.snapshot.now.case.now in
    let moment = c.args.snapshot.now.moment in
    let lines = map_lines (graph_at case moment) (layout_of case moment) (view_of case moment) (size_at case moment) in
    let headed = map_headed case moment c.head.result c.head.ensures (c.is_none.ensures ∙ ap not c.if-is_none.false) in
    c.finish-in-Ok.ensures (Ok (map_at case moment))
    (subst (λ lines. Gives (λ made. made) c.map_lines.result (Ok lines)) (sym headed) (made_gives (λ made. made) c.map_lines.result lines c.map_lines.ensures.told c.map_lines.ensures.may))

pub returns-in-Err : goal.returns-in-Err
returns-in-Err g c =
    c.finish-in-Err.ensures (Ok (map_at c.args.snapshot.now.case.now c.args.snapshot.now.moment))
    (memory_fails c.in-Err.refused (Ok (map_at c.args.snapshot.now.case.now c.args.snapshot.now.moment)) c.in-Err.ensures.may)
