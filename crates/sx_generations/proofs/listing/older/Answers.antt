use Rattle.std.proofs.Common.{◌∙◌, sym, ap}
use Rattle.std.proofs.lemmas.Result.{IfOk-weaker}
use Rattle.sx_wal.specs.Wal.{Wal}
use Rattle.sx_generations.proofs.Listings.{none_without_slots, runs_are}
use Rattle.sx_generations.proofs.listing.older.Goals as goal

pub returns-then-slots-eq0 : goal.returns-then-slots-eq0
returns-then-slots-eq0 c = λ page_size are. c.nothing.ensures ∙ none_without_slots page_size _ _ are (sym c.slots.ensures ∙ c.if-slots-eq0.true)

pub returns : goal.returns
returns c =
    IfOk-weaker c.list.result _ _
    (λ runs is page_size are.
    runs_are page_size _ _ _ _ _ _ are (c.frames_of.ensures.size page_size are) c.frames_of.ensures.bytes (ap (λ (wal : Wal). wal.slots) c.frames_of.ensures.slots) is)
    c.list.ensures
