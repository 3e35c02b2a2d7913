use Rattle.std.proofs.Common.{◌≡◌, ◌+◌, ◌≤◌, length, sum, ap, ◌∙◌, arith}
use Rattle.sx_base.specs.declared.moment.Moment.TheVariants.{Commit}
use Rattle.sx_moment.specs.Gathered.{limit_at}
use Rattle.sx_moment.specs.Counts.{seen_below}
use Rattle.sx_moment.proofs.Seen.{counted_start, counted_more, counted_all}
use Rattle.sx_moment.proofs.counts.counts_at_commits.Goals as goal

pub loop-k-init : goal.loop-k-init
loop-k-init c =
    counted_start c.args.sources.now c.args.images.now c.len.result c.in_ok-seen.seen c.in_ok-counts.counts.items c.len.ensures.value c.in_ok-seen.ensures c.in_ok-counts.ensures.items

pub loop-k-preserved : goal.loop-k-preserved
loop-k-preserved c =
    let limit = c.limit.ensures.value in
    let few : sum c.see_slots.new.seen ≤ limit_at c.args.sources.now (Commit (c.loop-k.k + 1)) = omega (arith, c.see_slots.ensures.few, limit) in
    counted_more c.args.sources.now c.args.images.now c.loop-k.k c.within-within.result c.size.result c.front.result
    c.loop-k.seen c.loop-k.counts.items c.see_slots.new.seen c.push.new.self.items c.loop-k.invariant
    (c.see_slots.ensures.seen ∙ ap (λ n. seen_below n c.args.images.now) limit) few
    c.within-within.ensures.bound c.within-within.ensures.searched c.size.ensures c.front.ensures c.in_ok-push.ensures.items

pub returns : goal.returns
returns c =
    let all : c.loop-k.k ≡ length c.args.sources.now.wal.commits = omega (arith, c.loop-k-test.false, c.loop-k.auto.k-end, c.commits-k-end.ensures.value) in
    counted_all c.args.sources.now c.args.images.now c.loop-k.k c.loop-k.seen c.loop-k.counts.items c.loop-k.invariant all
