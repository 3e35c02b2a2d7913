use Rattle.sx_chain.proofs.tests.newest.Given as goal

abbrev pub ghosts-newest_of : goal.ghosts-newest_of
ghosts-newest_of a = record { name = a.blank.name; parts = a.blank.parts }
