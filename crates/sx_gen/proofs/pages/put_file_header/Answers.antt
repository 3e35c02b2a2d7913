use Rattle.sx_gen.specs.Pages.{file_header, header_start}
use Rattle.sx_gen.proofs.Lists.{put_then}
use Rattle.sx_gen.proofs.pages.put_file_header.Goals as goal

pub returns : goal.returns
unfolding file_header header_start
returns c = put_then _ _ _ _ _ c.in_ok-extend_from_slice.ensures.items c.in_ok-put_words.ensures
