use Rattle.std.proofs.Common.{◌≡◌, ◌≤◌, length, true, false, sym, ap, ◌∙◌, arith, rules}
use Rattle.sx_moment.specs.Gathered.{size_at}
use Rattle.sx_moment.specs.Firsts.{taken, is_taken}
use Rattle.sx_moment.specs.Images.{is_bare}
use Rattle.sx_moment.proofs.Listed.{taken_few}
use Rattle.sx_moment.proofs.Uncertain.{mark_first, uncertain_taken, count_more, count_all}
use Rattle.sx_moment.proofs.snapshot.Snapshot.count_bare.Goals.{then-is_uncertain_mark, else-is_uncertain_mark}
use Rattle.sx_moment.proofs.snapshot.Snapshot.count_bare.Goals as goal

pub is_uncertain_mark-requires : goal.is_uncertain_mark-requires
is_uncertain_mark-requires c =
    mark_first c.args.self.now.case.now c.marks.result.images.now c.loop-i.i c.at.result c.marks.ensures.rise c.marks.ensures.are c.at.ensures

pub overflow_add-count : goal.overflow_add-count
overflow_add-count c =
    let test = is_bare c.args.self.now.case.now c.args.self.now.moment in
    let marks = c.marks.result.images.now in
    let few = taken_few test c.size-size.result marks c.marks.ensures.rise in
    let takes : is_taken test c.size-size.result c.at.result ≡ true = sym c.is_uncertain_mark.ensures ∙ c.if-is_uncertain_mark.true in
    let more = count_more test c.size-size.result marks c.loop-i.i c.at.result true c.at.ensures takes in
    omega (arith, few, more, c.loop-i.invariant, c.size-size.type_inv)

pub loop-i-preserved : goal.loop-i-preserved
loop-i-preserved c =
    let test = is_bare c.args.self.now.case.now c.args.self.now.moment in
    let marks = c.marks.result.images.now in
    elim c.if-is_uncertain_mark.branch [
      | then-is_uncertain_mark w ↦
          let takes : is_taken test c.size-size.result c.at.result ≡ true = sym c.is_uncertain_mark.ensures ∙ w.if-is_uncertain_mark.true in
          let more = count_more test c.size-size.result marks c.loop-i.i c.at.result true c.at.ensures takes in
          rw w.count-is (omega (arith, more, c.loop-i.invariant))
      | else-is_uncertain_mark w ↦
          let leaves : is_taken test c.size-size.result c.at.result ≡ false = sym c.is_uncertain_mark.ensures ∙ w.if-is_uncertain_mark.false in
          let more = count_more test c.size-size.result marks c.loop-i.i c.at.result false c.at.ensures leaves in
          rw w.count-is (omega (arith, more, c.loop-i.invariant))
    ]

pub returns : goal.returns
returns c =
    let case = c.args.self.now.case.now in
    let moment = c.args.self.now.moment in
    let marks = c.marks.result.images.now in
    let past : length marks ≤ c.loop-i.i = search rules in
    let all = count_all (is_bare case moment) c.size-size.result marks c.loop-i.i c.loop-i.count _ past c.loop-i.invariant in
    let size : c.size-size.result ≡ size_at case moment = rw (← c.sources.ensures.same) c.size-size.ensures in
    all
    ∙ ap (λ n. length (taken (is_bare case moment) n marks)) size
    ∙ ap length (sym (uncertain_taken case moment marks c.marks.ensures.rise c.marks.ensures.are))
