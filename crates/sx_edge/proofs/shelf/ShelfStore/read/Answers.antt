use Rattle.std.proofs.Common.{◌≡◌, ◌<◌, ◌++◌, drop, length, take, sym, ◌∙◌, ap, arith, length-append, length-drop, length-take-le}
use Rattle.sx_edge.specs.Shelf.{files_of, bytes_of, bytes_left}
use Rattle.sx_edge.proofs.Shelves.{read_on, read_out}
use Rattle.sx_edge.proofs.shelf.ShelfStore.read.Goals as goal

pub returns-clause-bytes : goal.returns-clause-bytes
returns-clause-bytes c =
    let bytes = bytes_of (files_of c.self.inside.files.items) c.self.inside.started in
    let at = c.self.inside.at in
    let n = c.reach-n.result in
    let buf = c.args.buf.now in
    let piece = c.copy_from_slice.new.self in
    let here : bytes_left c.args.self.now ≡ drop at bytes = sym (ap bytes_left c.self.view_is) in
    let left = ap length here in
    let free = sym c.is_read_barred.ensures ∙ c.if-is_read_barred.false in
    let moves : 0 < length buf → 0 < length (drop at bytes) → 0 < n = λ room more. c.reach-n.ensures.moves free room (omega (arith, left, more)) in
    let given = c.copy_from_slice.ensures.after ∙ ap (take n) (c.bytes_left.ensures.bytes ∙ here) in
    let whole : length buf ≡ length (piece ++ drop n buf) =
    omega (arith, length-append piece (drop n buf), length-drop n buf, c.copy_from_slice.ensures.len, length-take-le n buf c.reach-n.ensures.within.0, c.reach-n.ensures.within.0) in (
      here ∙ read_on bytes at n piece (drop n buf) given (omega (arith, c.reach-n.ensures.within.1, left)),
      λ none some. read_out bytes at n (length buf) moves none (omega (arith, whole, some)),
    )
