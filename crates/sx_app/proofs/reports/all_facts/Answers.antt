use Rattle.std.proofs.Common.{◌≡◌, List, ◌<◌, ◌++◌, ◌∷◌, [], length, take, map, sym, ap, ◌∙◌, rules}
use Rattle.std.proofs.lemmas.List.{map-append, take_more}
use Rattle.std.proofs.lemmas.Option.{get_or_from_slice_get}
use Rattle.sx_base.specs.declared.moment.Moment.{Moment}
use Rattle.sx_moment.specs.Gathered.{moments_of}
use Rattle.sx_report.specs.declared.facts.MomentFacts.{MomentFacts}
use Rattle.sx_timeline_text.proofs.Listed.{listed_is}
use Rattle.sx_app.specs.Reports.{moment_facts}
use Rattle.sx_app.proofs.Swept.{swept_there}
use Rattle.sx_app.proofs.reports.all_facts.Goals as goal

pub facts_at-told-requires-clause-there : goal.facts_at-told-requires-clause-there
facts_at-told-requires-clause-there c = listed_is c.args.case.now c.loop-i.i c.moment.result c.moment.ensures

pub facts_at-told-requires-clause-swept : goal.facts_at-told-requires-clause-swept
facts_at-told-requires-clause-swept c = swept_there c.args.case.now c.loop-i.i c.moment.result c.args.totals.now c.requires c.moment.ensures

pub loop-i-preserved : goal.loop-i-preserved
loop-i-preserved c =
    let all = moments_of c.args.case.now in
    let facts = moment_facts c.args.case.now in
    let below : c.loop-i.i < length all = search rules in
    let put : c.push.new.self.items ≡ c.loop-i.facts.items ++ c.facts_at-told.result ∷ [] = search rules in
    put
    ∙ ap (λ (l : List MomentFacts). l ++ c.facts_at-told.result ∷ []) c.loop-i.invariant
    ∙ ap (λ (told : MomentFacts). map facts (take c.loop-i.i all) ++ told ∷ []) c.facts_at-told.ensures
    ∙ sym (map-append facts (take c.loop-i.i all) (c.moment.result ∷ []))
    ∙ ap (λ (m : Moment). map facts (take c.loop-i.i all ++ m ∷ [])) (sym (get_or_from_slice_get all c.loop-i.i c.moment.result c.moment.result c.moment.ensures))
    ∙ ap (map facts) (sym (take_more all c.loop-i.i c.moment.result below))
