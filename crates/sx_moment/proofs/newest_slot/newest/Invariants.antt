use Rattle.sx_moment.proofs.newest_slot.newest.Given as goal

abbrev pub ghosts-newest_of : goal.ghosts-newest_of
ghosts-newest_of a = record { name = a.blank.name; parts = a.blank.parts }
