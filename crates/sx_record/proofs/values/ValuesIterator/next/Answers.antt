use Rattle.std.proofs.Common.{sym}
use Rattle.sx_record.proofs.Columns.{body_there, filled_behind}
use Rattle.sx_record.proofs.values.ValuesIterator.next.Goals as goal

pub split_at-requires : goal.split_at-requires
split_at-requires c =
    let found = c.in_ok-serial_type in
    rw c.body_len.ensures.value
    (body_there c.self.inside.types.now c.self.inside.bodies.now found.serial_type found.len (sym found.ensures.value) found.ensures.some found.ensures.within c.self.invariant)

pub invariant_of-self : goal.invariant_of-self
invariant_of-self c =
    let found = c.in_ok-serial_type in
    rw (c.split_at-2.ensures.back, c.split_at.ensures.back, c.body_len.ensures.value)
    (filled_behind c.self.inside.types.now c.self.inside.bodies.now found.serial_type found.len (sym found.ensures.value) found.ensures.some found.ensures.within c.self.invariant)
