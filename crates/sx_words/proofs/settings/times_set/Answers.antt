use Rattle.std.proofs.Common.{◌≡◌, rules, sym, ◌∙◌, string_bytes}
use Rattle.std.specs.Prelude.{count_by}
use Rattle.sx_words.proofs.Lists.{count_map}
use Rattle.sx_words.specs.Words.{sets}
use Rattle.sx_words.proofs.settings.times_set.Goals as goal

pub returns : goal.returns
returns c =
    let over : c.count.result ≡ count_by (λ word. sets c.args.key (string_bytes word)) c.args.words.now = search rules in
    over ∙ sym (count_map string_bytes (sets c.args.key) c.args.words.now)
