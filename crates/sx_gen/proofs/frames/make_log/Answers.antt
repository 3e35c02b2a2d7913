use Rattle.std.proofs.Common.{◌≡◌, length, [], ◌∷◌, ◌++◌, ◌∙◌, ap, sym, arith}
use Rattle.sx_gen.specs.Pages.{words_bytes}
use Rattle.std.specs.List.{flat_map, range_with_len}
use Rattle.sx_gen.specs.Log.{log_head, log_bytes, commit_frame}
use Rattle.sx_gen.proofs.Lists.{piece_more}
use Rattle.sx_gen.proofs.Summing.{sums_first, head_first, sums_more, frame_put, log_len}
use Rattle.sx_gen.proofs.frames.make_log.Goals as goal

pub loop-k-init : goal.loop-k-init
loop-k-init c =
    let start = c.deref.result.now in
    let through = c.sums-through.result in
    let is_start = c.deref.ensures.value ∙ c.in_ok-log.ensures.value in
    record {
      sums = sums_first c.args.seed c.args.letters.now c.args.leaves c.args.taken.now start through is_start c.sums-through.ensures;
      so_far = head_first c.args.seed start c.put_words.new.out.items through is_start c.sums-through.ensures
          (c.in_ok-put_words.ensures ∙ ap (λ bytes. bytes ++ words_bytes (through.0 ∷ through.1 ∷ [])) (sym c.deref.ensures.value));
    }

pub loop-k-preserved : goal.loop-k-preserved
loop-k-preserved c =
    let seed = c.args.seed in
    let letters = c.args.letters.now in
    let leaves = c.args.leaves in
    let taken = c.args.taken.now in
    let through =
    sums_more seed letters leaves taken c.loop-k.k c.loop-k.through c.sums.result c.sums-through-in-loop-k.result c.deref-in-loop-k.result.now c.deref-in-loop-k-2.result.now c.requires.letters c.requires.there (omega arith)
    c.loop-k.invariant.sums (c.deref-in-loop-k.ensures.value ∙ c.in_ok-start.ensures.value) (c.deref-in-loop-k-2.ensures.value ∙ c.in_ok-page.ensures.value) c.sums.ensures c.sums-through-in-loop-k.ensures in
    record {
      sums = through;
      so_far = piece_more (commit_frame seed letters leaves taken) c.loop-k.k (log_head seed) c.loop-k.log.items c.put_frame.new.log.items c.loop-k.invariant.so_far
          (frame_put seed letters leaves taken c.loop-k.k c.sums-through-in-loop-k.result c.loop-k.log.items c.put_frame.new.log.items c.deref-in-loop-k-3.result.now c.deref-in-loop-k-4.result.now
          (c.deref-in-loop-k-3.ensures.value ∙ c.in_ok-start.ensures.value) (c.deref-in-loop-k-4.ensures.value ∙ c.in_ok-page.ensures.value) through c.in_ok-put_frame.ensures);
    }

pub returns-clause-len : goal.returns-clause-len
unfolding log_bytes
returns-clause-len c =
    let letters = c.args.letters.now in
    let taken = c.args.taken.now in
    let end : c.loop-k.k ≡ length taken = omega (arith, c.loop-k.auto.k-end) in
    ap length (c.loop-k.invariant.so_far ∙ ap (λ n. log_head c.args.seed ++ flat_map (commit_frame c.args.seed letters c.args.leaves taken) (range_with_len 0 n)) end)
    ∙ log_len c.args.seed letters c.args.leaves taken c.requires.letters c.requires.there
