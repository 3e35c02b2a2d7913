use Rattle.std.proofs.Common.{◌≡◌, drop}
use Rattle.sx_words.specs.Words.{texts, value_of}
use Rattle.sx_words.proofs.settings.value_of.Given as goal

-- the words so far don't set the key
abbrev pub invariant-loop-word : goal.invariant-loop-word
invariant-loop-word l = value_of l.key (texts l.words) ≡ value_of l.key (texts (drop l.word-index l.words))
