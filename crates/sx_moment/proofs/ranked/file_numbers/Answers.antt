use Rattle.std.proofs.Common.{◌≡◌, ◌+◌, ◌||◌, ◌&&◌, ◌==◌, not, ap, ◌∙◌, arith}
use Rattle.sx_moment.specs.Gathered.{page_count}
use Rattle.sx_moment.specs.Images.{is_in_file}
use Rattle.sx_moment.specs.Turns.{is_among}
use Rattle.sx_moment.proofs.Numbered.{file_more, file_none}
use Rattle.sx_moment.proofs.ranked.file_numbers.Goals as goal

pub loop-place-init : goal.loop-place-init
loop-place-init c number = ap (λ l. is_among l number) c.in_ok-numbers.ensures.items ∙ file_none c.lock_page-lock.result number

pub loop-place-preserved : goal.loop-place-preserved
loop-place-preserved c number =
    c.in_ok-push_other.ensures number
    ∙ ap (λ b. b || (c.loop-place.place + 1 == number && not (number == c.lock_page-lock.result))) (c.loop-place.invariant number)
    ∙ file_more c.lock_page-lock.result c.loop-place.place number

pub returns : goal.returns
returns c number =
    let all : c.loop-place.place ≡ page_count c.args.sources.now = omega (arith, c.page_count-count.ensures.value) in
    c.loop-place.invariant number ∙ ap (λ n. is_in_file c.lock_page-lock.result n number) all ∙ ap (λ n. is_in_file n (page_count c.args.sources.now) number) c.lock_page-lock.ensures.value
