-- The table is that of the moment's graph.
use Rattle.std.proofs.Common.{◌∙◌, ap}
use Rattle.sx_images.specs.Images.{images_of}
use Rattle.sx_moment.specs.Gathered.{size_at}
use Rattle.sx_moment.specs.Views.{view_of}
use Rattle.sx_schema.specs.Entries.{schema_of, roots_of}
use Rattle.sx_sweep.proofs.WalkLemmas.{moment_pages, same_size, on_ok}
use Rattle.sx_sweep.proofs.moment.add_headed.Goals as goal

pub returns : goal.returns
returns c =
    let case = c.args.snapshot.now.case.now in
    let moment = c.args.snapshot.now.moment in
    let layout = c.layout-layout.result in
    on_ok c.add_pages.result
    (moment_pages c.in_ok-refs.refs layout case moment (images_of c.args.images.now) c.roots.result.now c.args.owned.now c.add_pages.new.owned
    (λ page bytes held. c.size-size.ensures.whole page bytes held ∙ same_size case moment layout c.layout-layout.ensures.layout)
    c.in_ok-refs.ensures
    c.layout-layout.ensures.layout
    (c.roots.ensures ∙ ap roots_of (c.in_ok-schema.ensures ∙ ap (schema_of (size_at case moment) (view_of case moment) layout.usable) c.encoding.ensures)))
    c.add_pages.ensures
