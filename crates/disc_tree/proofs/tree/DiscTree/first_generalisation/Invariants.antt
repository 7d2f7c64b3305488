use Rattle.disc_tree.proofs.tree.DiscTree.first_generalisation.Given as goal

abbrev pub ghosts-first_from : goal.ghosts-first_from
ghosts-first_from g a = record { name = a.blank.name; parts = a.blank.parts }
