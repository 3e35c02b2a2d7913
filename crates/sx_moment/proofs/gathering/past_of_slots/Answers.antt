use Rattle.std.proofs.Common.{◌<◌, ◌≤◌, ◌++◌, length, take, slice_index, sym, ap, ◌∙◌, subst, rules}
use Rattle.std.proofs.lemmas.List.{take_all}
use Rattle.sx_moment.specs.Firsts.{Rises, first_in}
use Rattle.sx_moment.specs.Images.{first_slot, past_only}
use Rattle.sx_moment.specs.Gathering.{image_with, firsts_of}
use Rattle.sx_moment.proofs.Firsts.{firsts_more, firsts_rise, past_zero, past_none}
use Rattle.sx_moment.proofs.gathering.past_of_slots.Goals as goal

pub loop-i-preserved : goal.loop-i-preserved
loop-i-preserved c =
    let first = past_only c.args.sources.now (first_slot c.args.sources.now) in
    let pages = c.numbers-pages.result.now in
    let below : c.loop-i.i < length pages = search rules in
    c.in_ok-push_first.ensures
    ∙ ap (λ l. l ++ image_with (slice_index pages c.loop-i.i) c.past_slot.result) c.loop-i.invariant
    ∙ ap (λ o. firsts_of first (take c.loop-i.i pages) ++ image_with (slice_index pages c.loop-i.i) o) c.past_slot.ensures
    ∙ firsts_more first pages c.loop-i.i below

pub new-requires : goal.new-requires
new-requires c =
    let first = past_only c.args.sources.now (first_slot c.args.sources.now) in
    let pages = c.numbers-pages.result.now in
    let end : length pages ≤ c.loop-i.i = search rules in
    let all = c.loop-i.invariant ∙ ap (firsts_of first) (take_all c.loop-i.i pages end) in
    subst (Rises 1) (sym all) (firsts_rise first pages c.numbers-pages.ensures.rising (past_zero c.args.sources.now (first_slot c.args.sources.now)))

pub returns : goal.returns
returns c = λ number.
    let first = past_only c.args.sources.now (first_slot c.args.sources.now) in
    let pages = c.numbers-pages.result.now in
    let end : length pages ≤ c.loop-i.i = search rules in
    let all = c.loop-i.invariant ∙ ap (firsts_of first) (take_all c.loop-i.i pages end) in
    ap (λ l. first_in l number) (c.new.ensures ∙ all)
    ∙ past_none c.args.sources.now c.args.frames.now pages number c.requires c.numbers-pages.ensures
