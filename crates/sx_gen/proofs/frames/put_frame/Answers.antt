use Rattle.std.proofs.Common.{[], ◌∷◌, ◌++◌, ◌∙◌, ap}
use Rattle.sx_gen.specs.Pages.{words_bytes}
use Rattle.sx_gen.specs.Log.{frame_rest}
use Rattle.sx_gen.proofs.Lists.{put_then}
use Rattle.sx_gen.proofs.frames.put_frame.Goals as goal

pub returns : goal.returns
returns c =
    let last = c.extend_from_slice-2.new.self.items in
    let start = c.extend_from_slice.new.self.items in
    let rest = frame_rest c.args.seed c.args.through in
    put_then c.args.log.now.items c.args.start.now (rest ++ c.args.page.now) start last c.in_ok-extend_from_slice.ensures.items
    (put_then start rest c.args.page.now c.put_words.new.out.items last
    (c.in_ok-put_words.ensures ∙ ap (λ salt. start ++ words_bytes (0x01020304 ∷ salt ∷ c.args.through.0 ∷ c.args.through.1 ∷ [])) c.second_salt.ensures)
    c.in_ok-extend_from_slice-2.ensures.items)
