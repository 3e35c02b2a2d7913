use Rattle.std.proofs.Common.{◌≡◌, ◌<◌, ◌≤◌, length, slice_index, arith, rules, refl}
use Rattle.sx_moment.specs.Gathered.{size_at, limit_at}
use Rattle.sx_moment.specs.Firsts.{below, taken}
use Rattle.sx_moment.specs.Images.{bound_at, file_pages_at}
use Rattle.sx_moment.proofs.HeldAt.{AreParts, held_count, held_front, held_back}
use Rattle.sx_moment.proofs.pages.SnapshotPages.held_at.Goals as goal

pub taken_at-requires : goal.taken_at-requires
taken_at-requires c =
    let case = c.args.self.now.case.now in
    let moment = c.args.self.now.moment in
    let same = c.sources-sources.ensures.same in
    let within : limit_at case moment ≤ length case.wal.slots = rw (← same) c.bound-bound.ensures.seen in
    let bound : c.bound-bound.result ≡ bound_at case moment = rw (← same) c.bound-bound.ensures.value in
    let size : c.size-size.result ≡ size_at case moment = rw (← same) c.size-size.ensures in
    let parts : AreParts case moment c.past-past.result.now c.bound-bound.result c.size-size.result =
    record { within = within; rise = c.past-past.ensures.rise; are = c.past-past.ensures.are; bound_is = bound; size_is = size } in
    let file : c.file_held-file.result ≡ length (file_pages_at case moment) = rw (← same) c.file_held-file.ensures in
    let sum = held_count case moment c.past-past.result.now c.bound-bound.result c.size-size.result c.file_held-file.result (length (taken (below c.bound-bound.result) c.size-size.result c.past-past.result.now)) parts file refl in
    let behind : c.file_held-file.result ≤ c.args.i = search rules in
    omega (arith, sum, c.requires, behind)

pub returns-then-i-file : goal.returns-then-i-file
returns-then-i-file c =
    let case = c.args.self.now.case.now in
    let moment = c.args.self.now.moment in
    let same = c.sources-sources.ensures.same in
    let within : limit_at case moment ≤ length case.wal.slots = rw (← same) c.bound-bound.ensures.seen in
    let bound : c.bound-bound.result ≡ bound_at case moment = rw (← same) c.bound-bound.ensures.value in
    let size : c.size-size.result ≡ size_at case moment = rw (← same) c.size-size.ensures in
    let parts : AreParts case moment c.past-past.result.now c.bound-bound.result c.size-size.result =
    record { within = within; rise = c.past-past.ensures.rise; are = c.past-past.ensures.are; bound_is = bound; size_is = size } in
    let file : c.file_held-file.result ≡ length (file_pages_at case moment) = rw (← same) c.file_held-file.ensures in
    let front : c.args.i < c.file_held-file.result = search rules in
    let inside : c.args.i < length (file_pages_at case moment) = omega (arith, file, front) in
    let page : c.file_at.result ≡ slice_index (file_pages_at case moment) c.args.i = rw (← same) c.file_at.ensures in
    held_front case moment c.past-past.result.now c.bound-bound.result c.size-size.result c.args.i c.file_at.result parts inside page

pub returns-else-i-file : goal.returns-else-i-file
returns-else-i-file c =
    let case = c.args.self.now.case.now in
    let moment = c.args.self.now.moment in
    let same = c.sources-sources.ensures.same in
    let within : limit_at case moment ≤ length case.wal.slots = rw (← same) c.bound-bound.ensures.seen in
    let bound : c.bound-bound.result ≡ bound_at case moment = rw (← same) c.bound-bound.ensures.value in
    let size : c.size-size.result ≡ size_at case moment = rw (← same) c.size-size.ensures in
    let parts : AreParts case moment c.past-past.result.now c.bound-bound.result c.size-size.result =
    record { within = within; rise = c.past-past.ensures.rise; are = c.past-past.ensures.are; bound_is = bound; size_is = size } in
    let file : c.file_held-file.result ≡ length (file_pages_at case moment) = rw (← same) c.file_held-file.ensures in
    let behind : c.file_held-file.result ≤ c.args.i = search rules in
    held_back case moment c.past-past.result.now c.bound-bound.result c.size-size.result c.file_held-file.result c.args.i c.taken_at.result parts file behind c.taken_at.ensures
