-- The printed texts of general terms and of sources.
use Rattle.std.specs.Prelude.{ℕ, List, [], ◌∷◌, ◌++◌, map, codes, if◌then◌else◌}
use Rattle.tptp_token.specs.Words.{name_text}
use Rattle.tptp_tree.specs.Printing.{is_number_name}
use Rattle.tptp_source.specs.declared.sign.NumberSign.{NumberSign}
use Rattle.tptp_source.specs.declared.sign.NumberSign.TheVariants.{Unsigned, Plus, Minus}
use Rattle.tptp_source.specs.General.{GeneralTree, variable, word, dollar, number, distinct, negated, listed, joined, GeneralTrees, no_trees, tree_then}
use Rattle.tptp_source.specs.Sources.{SourceTree, file_source, inference_source, component_source, opposite_source, word_of, list_of, definition_by}

-- ---- general terms

abbrev pub sign_text : NumberSign → List ℕ
sign_text Unsigned = []
sign_text Plus = codes "+"
sign_text Minus = codes "-"

-- Arguments and items of a list stand between brackets, with a comma between two of them.
abbrev mutual
  pub general_text : GeneralTree → List ℕ
  general_text (variable x) = x
  general_text (word f ts) = name_text f ++ arguments_text ts
  general_text (dollar d ts) = d ++ arguments_text ts
  general_text (number sign n) = sign_text sign ++ n
  general_text (distinct d) = d
  general_text (negated f) = codes "~" ++ name_text f
  general_text (listed ts) = codes "[" ++ items_text ts
  general_text (joined ts) = parts_text ts

  pub arguments_text : GeneralTrees → List ℕ
  arguments_text no_trees = []
  arguments_text (tree_then t ts) = codes "(" ++ general_text t ++ more_text (codes ")") ts

  -- the items of a list, and the closing bracket
  pub items_text : GeneralTrees → List ℕ
  items_text no_trees = codes "]"
  items_text (tree_then t ts) = general_text t ++ more_text (codes "]") ts

  -- the terms from the second on, and the closing bracket
  pub more_text : List ℕ → GeneralTrees → List ℕ
  more_text close no_trees = close
  more_text close (tree_then t ts) = codes "," ++ general_text t ++ more_text close ts

  -- terms with a colon between two of them
  pub parts_text : GeneralTrees → List ℕ
  parts_text no_trees = []
  parts_text (tree_then t ts) = general_text t ++ more_parts_text ts

  pub more_parts_text : GeneralTrees → List ℕ
  more_parts_text no_trees = []
  more_parts_text (tree_then t ts) = codes ":" ++ general_text t ++ more_parts_text ts

-- ---- sources

-- the term that a name is: a number where it is of digits alone, else a word
abbrev pub name_term : List ℕ → GeneralTree
name_term n = if is_number_name n then number Unsigned n else word_of n []

-- the term that a source is
abbrev pub source_term : SourceTree → GeneralTree
source_term (file_source f n) = word_of (codes "file") (f ∷ name_term n ∷ [])
source_term (inference_source rule items parents) =
    word_of (codes "inference") (rule ∷ list_of items ∷ list_of (map name_term parents) ∷ [])
source_term (component_source n) = definition_by (codes "component") (name_term n)
source_term (opposite_source n) = definition_by (codes "opposite") (name_term n)

abbrev pub source_text : SourceTree → List ℕ
source_text s = general_text (source_term s)
