use Rattle.std.proofs.Common.{◌&&◌, not, string_bytes, sym, ◌∙◌, ap}
use Rattle.std.specs.List.{list_any}
use Rattle.std.specs.Str.{bytes_eq}
use Rattle.sx_edge.specs.Shelf.{files_of, names_differ}
use Rattle.sx_edge.proofs.Shelves.{names_differ_after}
use Rattle.sx_edge.proofs.shelf.names_differ.Goals as goal

pub returns-then-is_among : goal.returns-then-is_among
returns-then-is_among c =
    let first = c.in-Some.first.now in
    let after = c.in-Some.after.now in
    let split = names_differ_after c.loop-first.rest.now first after c.in-Some.ensures.cases.0 in
    let among = sym c.if-is_among.true ∙ c.is_among.ensures ∙ ap (λ name. list_any (λ file. bytes_eq (string_bytes file.0) name) after) c.as_str.ensures.value in
    sym (c.loop-first.invariant ∙ split ∙ ap (λ found. not found && names_differ (files_of after)) (sym among))

pub loop-first-preserved : goal.loop-first-preserved
loop-first-preserved c =
    let first = c.in-Some.first.now in
    let after = c.in-Some.after.now in
    let split = names_differ_after c.loop-first.rest.now first after c.in-Some.ensures.cases.0 in
    let among = sym c.if-is_among.false ∙ c.is_among.ensures ∙ ap (λ name. list_any (λ file. bytes_eq (string_bytes file.0) name) after) c.as_str.ensures.value in
    c.loop-first.invariant ∙ split ∙ ap (λ found. not found && names_differ (files_of after)) (sym among)
