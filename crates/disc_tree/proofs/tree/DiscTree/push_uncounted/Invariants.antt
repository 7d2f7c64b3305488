use Rattle.disc_tree.proofs.tree.DiscTree.push_uncounted.Given as goal

abbrev pub ghosts-push_from : goal.ghosts-push_from
ghosts-push_from a = record { name = a.blank.name; parts = a.blank.parts }
