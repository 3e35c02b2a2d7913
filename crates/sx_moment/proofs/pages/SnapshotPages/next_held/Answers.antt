use Rattle.std.proofs.Common.{◌≡◌, ◌≤◌, ℕ, Option, None, Some, find, length, nat_lt, sym, ap, ◌∙◌}
use Rattle.std.specs.Option.{option_or}
use Rattle.sx_moment.specs.Gathered.{size_at, limit_at}
use Rattle.sx_moment.specs.Firsts.{below, taken}
use Rattle.sx_moment.specs.Images.{bound_at, file_pages_at}
use Rattle.sx_moment.proofs.HeldAt.{AreParts, held_next}
use Rattle.sx_moment.proofs.pages.SnapshotPages.next_held.Goals as goal

pub returns-in-Some : goal.returns-in-Some
returns-in-Some c =
    let case = c.args.self.now.case.now in
    let moment = c.args.self.now.moment in
    let same = c.sources-sources.ensures.same in
    let within : limit_at case moment ≤ length case.wal.slots = rw (← same) c.bound-bound.ensures.seen in
    let bound : c.bound-bound.result ≡ bound_at case moment = rw (← same) c.bound-bound.ensures.value in
    let size : c.size-size.result ≡ size_at case moment = rw (← same) c.size-size.ensures in
    let parts : AreParts case moment c.past-past.result.now c.bound-bound.result c.size-size.result =
    record { within = within; rise = c.past-past.ensures.rise; are = c.past-past.ensures.are; bound_is = bound; size_is = size } in
    let after : c.file_after.result ≡ find (nat_lt c.args.after) (file_pages_at case moment) = rw (← same) c.file_after.ensures in
    let found : find (nat_lt c.args.after) (file_pages_at case moment) ≡ Some c.in-Some.page = sym after ∙ c.in-Some.is in
    sym (held_next case moment c.past-past.result.now c.bound-bound.result c.size-size.result c.args.after parts
    ∙ ap (λ (o : Option ℕ). option_or o (find (nat_lt c.args.after) (taken (below c.bound-bound.result) c.size-size.result c.past-past.result.now))) found)

pub returns-in-None : goal.returns-in-None
returns-in-None c =
    let case = c.args.self.now.case.now in
    let moment = c.args.self.now.moment in
    let same = c.sources-sources.ensures.same in
    let within : limit_at case moment ≤ length case.wal.slots = rw (← same) c.bound-bound.ensures.seen in
    let bound : c.bound-bound.result ≡ bound_at case moment = rw (← same) c.bound-bound.ensures.value in
    let size : c.size-size.result ≡ size_at case moment = rw (← same) c.size-size.ensures in
    let parts : AreParts case moment c.past-past.result.now c.bound-bound.result c.size-size.result =
    record { within = within; rise = c.past-past.ensures.rise; are = c.past-past.ensures.are; bound_is = bound; size_is = size } in
    let after : c.file_after.result ≡ find (nat_lt c.args.after) (file_pages_at case moment) = rw (← same) c.file_after.ensures in
    let found : find (nat_lt c.args.after) (file_pages_at case moment) ≡ None = sym after ∙ c.in-None.is in
    c.taken_after.ensures
    ∙ sym (held_next case moment c.past-past.result.now c.bound-bound.result c.size-size.result c.args.after parts
    ∙ ap (λ (o : Option ℕ). option_or o (find (nat_lt c.args.after) (taken (below c.bound-bound.result) c.size-size.result c.past-past.result.now))) found)
