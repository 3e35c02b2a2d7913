use Rattle.std.proofs.Common.{◌≡◌, ◌∙◌, ◌<◌, ◌&&◌, ◌==◌, true, None, length, nat_le, slice_index, sym, ap, arith, subst, length-set, rules}
use Rattle.std.proofs.lemmas.List.{get_or_default, get_or-set_same, get_or-set_other}
use Rattle.sx_base.specs.declared.moment.Moment.TheVariants.{Journal, File}
use Rattle.sx_moment.specs.Changes.{AreMarked}
use Rattle.sx_moment.specs.Turning.{base_of, is_record, is_turned, is_within}
use Rattle.sx_moment.specs.Views.{file_page}
use Rattle.sx_moment.proofs.turning.put_file.Goals as goal

pub returns : goal.returns
returns c =
    let case = c.args.sources.now in
    let number = slice_index c.args.ranks.now c.args.rank in
    let within : c.args.rank < length c.args.origins.now.items = omega (arith, c.requires.long, c.requires.rank) in
    let image : c.index.result.now ≡ base_of case Journal number = c.index.ensures ∙ get_or_default c.args.origins.now.items c.args.rank c.index.result.now None within ∙ c.requires.here in
    let is : c.is_record.result ≡ true = search rules in
    let turned : is_record (base_of case Journal number) ≡ true = ap is_record (sym image) ∙ sym c.is_record.ensures ∙ is in
    let page : c.number-page.result ≡ number = c.number-page.ensures in
    let test : nat_le c.number-page.result c.args.step.within ≡ is_within (is_turned case File) c.args.step.within c.args.ranks.now c.args.rank =
    ap (λ n. nat_le n c.args.step.within) page ∙ ap (λ b. b && nat_le number c.args.step.within) (sym turned) in
    record {
      long = length-set c.args.origins.now.items c.args.rank c.file_origin.result ∙ c.requires.long;
      here = get_or-set_same c.args.origins.now.items c.args.rank c.file_origin.result None within ∙ c.file_origin.ensures ∙ ap (λ n. file_page case n) page;
      others = λ other apart. get_or-set_other c.args.origins.now.items c.args.rank other c.file_origin.result None apart;
      marked = subst (λ b. AreMarked (λ other. (other == c.args.rank) && b) c.args.step.turn c.args.changes.now.turns c.mark_if.new.changes.turns) test c.mark_if.ensures.marked;
      settled = c.mark_if.ensures.settled;
    }
