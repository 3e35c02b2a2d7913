use Rattle.std.proofs.Common.{◌≡◌, ◌++◌, false, drop, string_bytes}
use Rattle.sx_report.specs.Rest.{moments_rest}
use Rattle.sx_report.proofs.text.put_items.Given as goal

abbrev pub invariant-loop-moment : goal.invariant-loop-moment
invariant-loop-moment l =
    string_bytes l.text ++ moments_rest l.later (drop l.moment-index l.moments) ≡ string_bytes l.initial.text ++ moments_rest false l.moments
