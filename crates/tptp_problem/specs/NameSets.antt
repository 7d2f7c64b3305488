-- Sets of names.
use Rattle.std.specs.Prelude.{◌≡◌, ℕ, List, map}
use Rattle.std.specs.HashSet.{HashSet, contains}
use Rattle.std.specs.declared.hash.DefaultHasher.{DefaultHasher}
use Rattle.std.specs.declared.hash.BuildHasherDefault.{BuildHasherDefault}
use Rattle.tptp_token.specs.Spelling.{is_one_of}
use Rattle.tptp_reader.specs.declared.source.Name.{Name}
use Rattle.tptp_reader.specs.Bound.{bytes_of, same_name}
use Rattle.tptp_problem.specs.Languages.{PlacedTree, Language}

-- the set has these names and no others
abbrev pub HasNames : List (List ℕ) → HashSet Name (BuildHasherDefault DefaultHasher) → Type 0
HasNames names set = (n : Name) → contains same_name set n ≡ is_one_of names (bytes_of n)

abbrev pub names_among : {Tree Cause : Type 0} → Language Tree Cause → List (PlacedTree Tree) → List (List ℕ)
names_among language formulas = map (λ f. language.name f.tree) formulas
