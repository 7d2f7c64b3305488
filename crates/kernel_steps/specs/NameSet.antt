-- Sets of signed names that are kept by their numbers, those of each sign apart. Only private functions cite this.
use Rattle.std.specs.Prelude.{ℕ, true, false, List, ◌++◌, map}
use Rattle.plain_types.specs.declared.sequence.NameLit.{NameLit}
use Rattle.plain_types.specs.Names.{signed}
use Rattle.kernel_steps.specs.Names.{sorted_names}

-- the names with these numbers, sorted
abbrev pub names_in : List ℕ → List ℕ → List NameLit
names_in negative positive = sorted_names (map (signed false) negative ++ map (signed true) positive)
