use Rattle.std.proofs.Common.{ℕ, ◌≡◌, ◌-◌, subst, arith}
use Rattle.sx_generations.specs.Confirmed.{AreRecordsOf}
use Rattle.sx_generations.proofs.Records.{records_apart}
use Rattle.sx_generations.proofs.confirming.page_size_of.Goals as goal

pub overflow_sub-result : goal.overflow_sub-result
overflow_sub-result c =
    let apart = records_apart _ _ _ _ _ c.requires.journal.are c.requires.zeroed c.entry-first.ensures c.entry-second.ensures in omega arith

pub overflow_sub-result-2 : goal.overflow_sub-result-2
overflow_sub-result-2 c =
    let apart = records_apart _ _ _ _ _ c.requires.journal.are c.requires.zeroed c.entry-first.ensures c.entry-second.ensures in omega arith

pub overflow_cast-result : goal.overflow_cast-result
overflow_cast-result c =
    let apart = records_apart _ _ _ _ _ c.requires.journal.are c.requires.zeroed c.entry-first.ensures c.entry-second.ensures in
    let most = c.requires.journal.are.size.greatest in
    omega arith

pub returns-clause-are : goal.returns-clause-are
returns-clause-are c =
    let apart = records_apart _ _ _ _ _ c.requires.journal.are c.requires.zeroed c.entry-first.ensures c.entry-second.ensures in
    let is : c.requires.journal.page_size ≡ c.entry-second.result.offset - c.entry-first.result.offset - 8 = omega arith in
    subst (λ (n : ℕ). AreRecordsOf n c.args.bytes.now c.args.journal.now) is c.requires.journal.are

pub returns-clause-size : goal.returns-clause-size
returns-clause-size c = λ page_size are.
    let apart = records_apart _ page_size _ _ _ are c.requires.zeroed c.entry-first.ensures c.entry-second.ensures in omega arith
