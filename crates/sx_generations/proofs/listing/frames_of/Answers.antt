use Rattle.std.proofs.Common.{ℕ, ◌≡◌, ◌∙◌, sym, subst, arith}
use Rattle.sx_bytes.specs.PageSize.{IsPageSize}
use Rattle.sx_generations.specs.Older.{AreTestedFrames}
use Rattle.sx_generations.proofs.Logs.{stated, tested_frames}
use Rattle.sx_generations.proofs.listing.frames_of.Goals as goal

pub be32-requires : goal.be32-requires
be32-requires c = let header = (stated _ _ _ c.requires.log.are c.requires.some).0 in omega arith

pub invariant_of-result : goal.invariant_of-result
invariant_of-result c =
    let is : c.be32.result ≡ c.requires.log.page_size = c.be32.ensures ∙ (stated _ _ _ c.requires.log.are c.requires.some).1 in
    record {
      size = subst IsPageSize (sym is) c.requires.log.are.size;
      few = c.requires.few;
      tested = subst (λ (n : ℕ). AreTestedFrames n c.args.bytes.now c.args.wal.now.slots) (sym is) (tested_frames _ _ _ c.requires.log.are);
    }

pub returns-clause-size : goal.returns-clause-size
returns-clause-size c = λ page_size are. c.be32.ensures ∙ (stated page_size _ _ are c.requires.some).1
