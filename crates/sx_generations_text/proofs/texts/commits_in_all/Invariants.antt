use Rattle.std.proofs.Common.{◌≡◌, ◌≤◌, ◌*◌, length, take, sum_by}
use Rattle.sx_generations_text.proofs.texts.commits_in_all.Given as goal

abbrev pub invariant-loop-i : goal.invariant-loop-i
invariant-loop-i l = record {
  few : l.commits ≤ 4294967295 * l.i;
  counted : l.commits ≡ sum_by (λ run. length run.1) (take l.i l.older);
}
