use Rattle.std.proofs.Common.{◌∙◌, sym, ap, subst, map, option_copied, ℕ}
use Rattle.sx_schema.specs.Entries.{schema_of}
use Rattle.sx_history.specs.Marks.{IsWhole}
use Rattle.sx_history.proofs.Keeping.{has_whole}
use Rattle.sx_history.proofs.KeptSchema.{if_kept, kept_still, schema_still}
use Rattle.sx_history.proofs.schemas.schema_stands.Goals as goal

pub returns-clause-entries : goal.returns-clause-entries
returns-clause-entries g c stands =
    let numbers = c.args.numbers.now in
    let views = map option_copied c.args.views.now in
    let before = c.args.before.now in
    let read = c.args.read.now in
    let nodes = c.args.nodes.now in
    let chains = c.args.chains.now in
    let next = g.P.PageViews.view c.args.pages.now in
    let same = c.same_read.ensures c.if-not-same_read.false in
    let kept = if_kept c.args.stands numbers views before.size before.usable before.encoding c.args.schema.now nodes chains c.if-not-stands.false c.requires.kept in
    let whole : (n : ℕ) → IsWhole before.usable (next n) = λ n. subst (λ u. IsWhole u (next n)) (sym (ap (λ r. r.usable) same))
    (has_whole read.usable (g.P.PageViews.page_size c.args.pages.now) (next n) c.requires.within c.requires.small (λ page is. c.size-size.ensures.whole n page is)) in
    let still = c.all_still.ensures c.if-not-all_still.false in
    schema_still numbers views before.size before.usable before.encoding c.args.schema.now nodes chains kept next c.args.changed.now c.requires.covered c.requires.stand whole still
    ∙ ap (λ r. schema_of r.size next r.usable r.encoding) same
    ∙ ap (λ n. schema_of n next read.usable read.encoding) c.requires.size

pub returns-clause-kept : goal.returns-clause-kept
returns-clause-kept g c stands =
    let numbers = c.args.numbers.now in
    let views = map option_copied c.args.views.now in
    let before = c.args.before.now in
    let read = c.args.read.now in
    let nodes = c.args.nodes.now in
    let chains = c.args.chains.now in
    let next = g.P.PageViews.view c.args.pages.now in
    let same = c.same_read.ensures c.if-not-same_read.false in
    let kept = if_kept c.args.stands numbers views before.size before.usable before.encoding c.args.schema.now nodes chains c.if-not-stands.false c.requires.kept in
    let whole : (n : ℕ) → IsWhole before.usable (next n) = λ n. subst (λ u. IsWhole u (next n)) (sym (ap (λ r. r.usable) same))
    (has_whole read.usable (g.P.PageViews.page_size c.args.pages.now) (next n) c.requires.within c.requires.small (λ page is. c.size-size.ensures.whole n page is)) in
    let still = c.all_still.ensures c.if-not-all_still.false in
    (c.if-not-stands.false, kept_still numbers views before.size before.usable before.encoding c.args.schema.now nodes chains kept next c.args.changed.now c.requires.covered c.requires.stand whole still)
