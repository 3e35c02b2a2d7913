use Rattle.std.proofs.Common.{◌≡◌, ◌∙◌, ap, map, option_copied, length, subst, sym, ℕ, rules}
use Rattle.std.proofs.lemmas.List.{length-map}
use Rattle.std.specs.List.Sorted.{IsStrictlyIncreasing}
use Rattle.sx_history.specs.Marks.{AreMarked, IsWhole}
use Rattle.sx_history.specs.Schemas.{IsSchemaKept}
use Rattle.sx_history.proofs.Keeping.{all_whole, has_whole}
use Rattle.sx_history.proofs.KeptSchema.{first_kept}
use Rattle.sx_history.proofs.schemas.SchemaWalk.start.Goals as goal

pub mark_on-requires-clause-whole : goal.mark_on-requires-clause-whole
mark_on-requires-clause-whole g c =
    let next = g.P.PageViews.view c.args.pages.now in
    all_whole c.args.usable next c.args.numbers.now (map option_copied c.deref.result.now) (ap (map option_copied) c.deref.ensures.value ∙ c.in_ok-views.ensures)
    (λ n. has_whole c.args.usable (g.P.PageViews.page_size c.args.pages.now) (next n) c.requires.within c.requires.small (λ page is. c.size-size.ensures.whole n page is))

pub invariant_of-result : goal.invariant_of-result
invariant_of-result g c =
    let numbers = c.in_ok-numbers.numbers.items in
    let next = g.P.PageViews.view c.args.pages.now in
    let pages = g.P.PageViews.pages c.args.pages.now in
    let views = map option_copied c.in_ok-views.views.items in
    let same : numbers ≡ c.args.numbers.now = search rules in
    let are : views ≡ map next c.args.numbers.now = c.in_ok-views.ensures in
    let viewed : map option_copied c.deref.result.now ≡ views = ap (map option_copied) c.deref.ensures.value in
    let marked : AreMarked c.args.numbers.now views c.args.usable 1 c.mark_on.new.nodes.items c.mark_on.new.chains.items =
    subst (λ vs. AreMarked c.args.numbers.now vs c.args.usable 1 c.mark_on.new.nodes.items c.mark_on.new.chains.items) viewed c.in_ok-mark_on.ensures.marked in
    let whole : (n : ℕ) → IsWhole c.args.usable (next n) =
    λ n. has_whole c.args.usable (g.P.PageViews.page_size c.args.pages.now) (next n) c.requires.within c.requires.small (λ page is. c.size-size.ensures.whole n page is) in
    let standing : IsSchemaKept c.args.numbers.now views c.size-size.result c.args.usable c.args.encoding c.in_ok-schema.schema c.mark_on.new.nodes.items c.mark_on.new.chains.items =
    first_kept c.args.numbers.now views c.size-size.result pages c.args.usable c.args.encoding c.in_ok-schema.schema c.mark_on.new.nodes.items c.mark_on.new.chains.items next
    c.requires.covered are c.requires.least whole c.size-size.ensures.size c.in_ok-schema.ensures marked in
    let long : length c.in_ok-views.views.items ≡ length numbers =
    sym (length-map c.in_ok-views.views.items option_copied) ∙ ap length are ∙ length-map c.args.numbers.now next ∙ ap length (sym same) in (
      subst IsStrictlyIncreasing (sym same) c.requires.rising,
      long,
      c.in_ok-mark_on.ensures.nodes ∙ ap length (sym same),
      c.in_ok-mark_on.ensures.chains ∙ ap length (sym same),
      subst (λ ns. IsSchemaKept ns views c.size-size.result c.args.usable c.args.encoding c.in_ok-schema.schema c.mark_on.new.nodes.items c.mark_on.new.chains.items) (sym same) standing,
    )
