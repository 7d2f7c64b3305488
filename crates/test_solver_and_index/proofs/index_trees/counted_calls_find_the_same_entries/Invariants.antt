use Rattle.test_solver_and_index.proofs.index_trees.counted_calls_find_the_same_entries.Given as goal

abbrev pub ghosts-counted_calls_agree : goal.ghosts-counted_calls_agree
ghosts-counted_calls_agree g a = record { name = a.blank.name; parts = a.blank.parts }
