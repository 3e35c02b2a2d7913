use Rattle.std.proofs.Common.{◌∙◌, refl}
use Rattle.sx_prov.proofs.Filling.{put_all}
use Rattle.sx_prov.proofs.keyed.put_all.Goals as goal

pub returns : goal.returns
returns c = c.in_ok-put.ensures ∙ put_all (λ at. c.args.label) c.args.map.now c.args.usable c.args.label c.requires.none (λ at below. refl)
