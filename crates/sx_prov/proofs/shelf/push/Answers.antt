use Rattle.std.proofs.Common.{◌≡◌, ◌+◌, ◌<◌, ◌^◌, ◌++◌, ◌∷◌, [], Some, nat_eq, cond, length, ap, ◌∙◌, rules}
use Rattle.std.specs.Ordering.{nat_cmp}
use Rattle.std.specs.BTreeMap.{get}
use Rattle.sx_prov.proofs.Finding.{kept_more}
use Rattle.sx_prov.proofs.shelf.push.Goals as goal

pub returns-in-Ok-clause-kept : goal.returns-in-Ok-clause-kept
returns-in-Ok-clause-kept c =
    let kept = c.args.kept.now.items in
    let one = c.args.one in
    let items : c.push.new.self.items ≡ kept ++ one ∷ [] = search rules in
    let few : length kept + 1 < 2 ^ 32 = search rules in
    rw items (kept_more kept one (get nat_cmp c.args.newest.now) (get nat_cmp c.note.new.newest) c.requires.kept c.requires.before c.requires.made few
    (λ image. c.in-Ok.ensures.ok image ∙ ap (λ n. cond (nat_eq one.image image) (Some n) (get nat_cmp c.args.newest.now image)) (search rules)))
