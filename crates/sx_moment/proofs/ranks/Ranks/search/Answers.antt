use Rattle.std.proofs.Common.{◌≡◌, Err, Contains, List, ℕ, sym, subst, ◌∙◌}
use Rattle.std.specs.List.Sorted.{IsStrictlyIncreasing}
use Rattle.std.proofs.lemmas.List.Sorted.{searched}
use Rattle.sx_chain.proofs.Linked.{rise_upto, not_found}
use Rattle.sx_moment.proofs.Numbered.{not_among}
use Rattle.sx_moment.proofs.ranks.Ranks.search.Goals as goal

pub returns-in-Err-clause-none : goal.returns-in-Err-clause-none
returns-in-Err-clause-none c =
    let same : c.deref.result.now ≡ c.args.self.now = c.deref.ensures.value ∙ c.self.view_is in
    let rising : IsStrictlyIncreasing c.deref.result.now = subst IsStrictlyIncreasing (sym c.deref.ensures.value) c.self.invariant.rising in
    let found = searched c.deref.result.now c.args.no (Err c.in-Err.field-0) c.in-Err.ensures.position (rise_upto c.deref.result.now rising) in
    not_among c.args.self.now c.args.no (λ there. not_found c.deref.result.now c.args.no c.in-Err.field-0 found.1 found.2 (subst (λ (l : List ℕ). Contains l c.args.no) (sym same) there))
