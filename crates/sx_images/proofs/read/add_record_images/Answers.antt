use Rattle.std.proofs.Common.{◌∙◌, ◌++◌, [], ◌∷◌, ap, sym, append_assoc, map, take}
use Rattle.sx_images.specs.Images.{record_image}
use Rattle.sx_images.proofs.Lists.{front_more}
use Rattle.sx_images.proofs.read.add_record_images.Goals as goal

pub loop-i-preserved : goal.loop-i-preserved
loop-i-preserved c =
    let front = map record_image (take c.loop-i.i c.args.journal.now.entries) in
    c.in_ok-push.ensures.items ∙ ap (λ list. list ++ record_image c.entry-entry.result ∷ []) c.loop-i.invariant
    ∙ append_assoc c.args.stored.now.items front (record_image c.entry-entry.result ∷ [])
    ∙ ap (λ list. c.args.stored.now.items ++ list) (sym (front_more record_image c.args.journal.now.entries c.loop-i.i c.entry-entry.result c.entry-entry.ensures))
