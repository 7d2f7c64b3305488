-- The levels of brackets of general terms and of sources; a reader's limit on notes is a limit of these levels.
use Rattle.std.specs.Prelude.{◌≡◌, ℕ, suc, ◌≤◌, max, List, [], Some, ◌↔◌}
use Rattle.tptp_token.specs.Lexemes.{Lexeme}
use Rattle.tptp_tree.specs.Causes.{notes_causes}
use Rattle.tptp_tree.specs.LevelLaws.{NoneTooDeep}
use Rattle.tptp_source.specs.General.{GeneralTree, variable, word, dollar, number, distinct, negated, listed, joined, GeneralTrees, no_trees, tree_then, trees_of}
use Rattle.tptp_source.specs.Sources.{SourceTree, file_source, inference_source, component_source, opposite_source, IsSource, SpellsSource}
use Rattle.tptp_source.specs.Spelling.{SpellsGeneral}

abbrev mutual
  pub general_levels : GeneralTree → ℕ
  general_levels (variable x) = 0
  general_levels (word f ts) = general_arguments_levels ts
  general_levels (dollar d ts) = general_arguments_levels ts
  general_levels (number sign n) = 0
  general_levels (distinct d) = 0
  general_levels (negated f) = 0
  general_levels (listed ts) = suc (all_general_levels ts)
  general_levels (joined ts) = all_general_levels ts

  -- arguments with their brackets
  pub general_arguments_levels : GeneralTrees → ℕ
  general_arguments_levels no_trees = 0
  general_arguments_levels (tree_then t ts) = suc (max (general_levels t) (all_general_levels ts))

  pub all_general_levels : GeneralTrees → ℕ
  all_general_levels no_trees = 0
  all_general_levels (tree_then t ts) = max (general_levels t) (all_general_levels ts)

-- A name has no brackets. The lists of an inference's items and parents stand within its own brackets, and so does that of a definition,
-- in which the name stands in brackets again.
abbrev pub source_levels : SourceTree → ℕ
source_levels (file_source f n) = suc (general_levels f)
source_levels (inference_source rule items parents) = suc (max (general_levels rule) (suc (all_general_levels (trees_of items))))
source_levels (component_source n) = 3
source_levels (opposite_source n) = 3

-- ---- laws

-- Of tokens that spell a term none is too deep exactly where the term's levels are within the limit.
abbrev pub LimitIsOfGeneralLevels : Type 0
LimitIsOfGeneralLevels =
    (limit : ℕ) (tokens : List Lexeme) (t : GeneralTree) → SpellsGeneral tokens t
    → NoneTooDeep (notes_causes limit (Some []) tokens) ↔ (general_levels t ≤ limit)

abbrev pub SourcesHaveTheirLevels : Type 0
SourcesHaveTheirLevels = (t : GeneralTree) (s : SourceTree) → IsSource t s → general_levels t ≡ source_levels s

abbrev pub LimitIsOfSourceLevels : Type 0
LimitIsOfSourceLevels =
    (limit : ℕ) (tokens : List Lexeme) (s : SourceTree) → SpellsSource tokens s
    → NoneTooDeep (notes_causes limit (Some []) tokens) ↔ (source_levels s ≤ limit)
