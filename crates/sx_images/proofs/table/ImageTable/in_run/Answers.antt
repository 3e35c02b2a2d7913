use Rattle.std.proofs.Common.{◌≡◌, ℕ, ◌+◌, ◌-◌, ◌/◌, ◌%◌, ◌<◌, ◌++◌, sym, ap, ◌∙◌, arith, subst, Option, rules}
use Rattle.std.proofs.Math.Nat.{mod-lt}
use Rattle.sx_images.specs.Images.{Table, kept, pages_of}
use Rattle.sx_images.specs.declared.physical.Physical.{Physical}
use Rattle.sx_images.specs.declared.stretch.Stretch.{Stretch}
use Rattle.sx_images.specs.Places.{place_among, run_things, gap_things}
use Rattle.sx_images.specs.Read.{IsTable}
use Rattle.sx_images.proofs.Journals.{run_head, run_pad, run_last, run_gap, run_record_here, by_records, record_room}
use Rattle.sx_images.proofs.table.ImageTable.in_run.Goals as goal

-- what the function owes, over a table
abbrev Shows : ℕ → Stretch → Option Stretch → ℕ → Physical → Table → Type 0
Shows number run next at result table = result ≡ place_among (run_things table number run ++ gap_things table run next) (run.head + at)

pub returns-then-at-self : goal.returns-then-at-self
returns-then-at-self c =
    subst (Shows c.args.number c.args.run c.args.next c.args.at _) c.self.view_is
    (sym (run_head (kept c.self.inside.page_size c.self.inside.lengths c.self.inside.frames c.self.inside.stored.items c.self.inside.head_len c.self.inside.sector c.self.inside.stretches.items) c.args.number c.args.run c.args.next c.args.at c.if-at-self.true))

pub returns-then-at-self-2 : goal.returns-then-at-self-2
returns-then-at-self-2 c =
    subst (Shows c.args.number c.args.run c.args.next c.args.at _) c.self.view_is
    (sym (run_pad (kept c.self.inside.page_size c.self.inside.lengths c.self.inside.frames c.self.inside.stored.items c.self.inside.head_len c.self.inside.sector c.self.inside.stretches.items) c.args.number c.args.run c.args.next c.args.at c.if-at-self.false c.if-at-self-2.true))

pub overflow_add-run : goal.overflow_add-run
overflow_add-run c =
    let laid : IsTable c.args.self.now = subst IsTable c.self.view_is c.self.invariant in
    let room = record_room c.args.self.now c.args.number c.args.run laid c.requires.there in
    let fits : c.args.run.first + (c.args.at - c.self.inside.sector) / (c.self.inside.page_size + 8) < 4294967296 = omega (arith, room, laid.few, c.if-nth-run.true) in
    search (rules, fits)

pub in_record-requires-clause-few : goal.in_record-requires-clause-few
in_record-requires-clause-few c =
    let laid : IsTable c.args.self.now = subst IsTable c.self.view_is c.self.invariant in
    let room = record_room c.args.self.now c.args.number c.args.run laid c.requires.there in
    let frames : c.self.inside.frames ≡ c.args.self.now.frames = ap (λ (t : Table). t.frames) c.self.view_is in
    omega (arith, room, laid.few, c.if-nth-run.true, c.pages.ensures, frames)

pub returns-then-nth-run : goal.returns-then-nth-run
returns-then-nth-run c =
    let size = c.self.inside.page_size + 8 in
    let q = (c.args.at - c.self.inside.sector) / size in
    let b = (c.args.at - c.self.inside.sector) % size in
    let pages : c.pages.result ≡ pages_of (kept c.self.inside.page_size c.self.inside.lengths c.self.inside.frames c.self.inside.stored.items c.self.inside.head_len c.self.inside.sector c.self.inside.stretches.items) = c.pages.ensures ∙ sym (ap pages_of c.self.view_is) in
    subst (Shows c.args.number c.args.run c.args.next c.args.at _) c.self.view_is
    (run_record_here (kept c.self.inside.page_size c.self.inside.lengths c.self.inside.frames c.self.inside.stored.items c.self.inside.head_len c.self.inside.sector c.self.inside.stretches.items) c.args.number c.args.run c.args.next q b c.args.at c.in_record.result
    c.self.invariant.sector (by_records c.args.at c.self.inside.sector size c.if-at-self-2.false) (mod-lt (c.args.at - c.self.inside.sector) (omega arith)) c.if-nth-run.true
    (c.pages.result + c.self.inside.frames) (ap (λ n. n + c.self.inside.frames) pages) c.in_record.ensures)

pub returns-in-Some : goal.returns-in-Some
returns-in-Some c =
    let size = c.self.inside.page_size + 8 in
    subst (Shows c.args.number c.args.run c.args.next c.args.at _) c.self.view_is
    (rw c.in-Some.is (sym (run_gap (kept c.self.inside.page_size c.self.inside.lengths c.self.inside.frames c.self.inside.stored.items c.self.inside.head_len c.self.inside.sector c.self.inside.stretches.items) c.args.number c.args.run c.in-Some.field-0 ((c.args.at - c.self.inside.sector) / size) ((c.args.at - c.self.inside.sector) % size) c.args.at
    c.self.invariant.sector (by_records c.args.at c.self.inside.sector size c.if-at-self-2.false) c.if-nth-run.false (c.requires.nearer c.in-Some.field-0 c.in-Some.is))))

pub returns-in-None : goal.returns-in-None
returns-in-None c =
    let size = c.self.inside.page_size + 8 in
    subst (Shows c.args.number c.args.run c.args.next c.args.at _) c.self.view_is
    (rw c.in-None.is (sym (run_last (kept c.self.inside.page_size c.self.inside.lengths c.self.inside.frames c.self.inside.stored.items c.self.inside.head_len c.self.inside.sector c.self.inside.stretches.items) c.args.number c.args.run ((c.args.at - c.self.inside.sector) / size) ((c.args.at - c.self.inside.sector) % size) c.args.at
    c.self.invariant.sector (by_records c.args.at c.self.inside.sector size c.if-at-self-2.false) c.if-nth-run.false)))
