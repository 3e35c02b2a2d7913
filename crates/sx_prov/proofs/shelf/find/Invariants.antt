use Rattle.sx_base.proofs.Places.{reach}
use Rattle.sx_prov.proofs.Finding.{IsSought}
use Rattle.sx_prov.proofs.shelf.find.Given as goal

-- none behind the one in hand is the one that is sought
abbrev pub invariant-loop-found : goal.invariant-loop-found
invariant-loop-found l = IsSought l.kept l.image l.key l.view l.found

abbrev pub decreases-loop-found : goal.decreases-loop-found
decreases-loop-found l = reach l.found
