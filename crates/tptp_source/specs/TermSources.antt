-- The source that a general term is, as a function.
use Rattle.std.specs.Prelude.{ℕ, Bool, true, false, List, [], ◌∷◌, codes, bytes_eq, Option, None, Some, if◌then◌else◌}
use Rattle.std.specs.Option.{option_map, option_and_then}
use Rattle.tptp_source.specs.General.{GeneralTree, variable, word, dollar, number, distinct, negated, listed, joined, list_of_trees}
use Rattle.tptp_source.specs.Sources.{name_in, names_in, SourceTree, file_source, inference_source, component_source, opposite_source}

-- ---- lists of one, two and three terms

abbrev pub one_in : List GeneralTree → Option GeneralTree
one_in [] = None
one_in (t ∷ []) = Some t
one_in (t ∷ u ∷ us) = None

abbrev pub Pair : Type 0
Pair = GeneralTree × GeneralTree

abbrev pub two_in : List GeneralTree → Option Pair
two_in [] = None
two_in (t ∷ []) = None
two_in (t ∷ u ∷ []) = Some (t, u)
two_in (t ∷ u ∷ v ∷ vs) = None

abbrev pub Triple : Type 0
Triple = GeneralTree × GeneralTree × GeneralTree

abbrev pub three_in : List GeneralTree → Option Triple
three_in [] = None
three_in (t ∷ []) = None
three_in (t ∷ u ∷ []) = None
three_in (t ∷ u ∷ v ∷ []) = Some (t, u, v)
three_in (t ∷ u ∷ v ∷ w ∷ ws) = None

-- the terms of a list
abbrev pub items_in : GeneralTree → Option (List GeneralTree)
items_in (variable x) = None
items_in (word f ts) = None
items_in (dollar d ts) = None
items_in (number sign n) = None
items_in (distinct d) = None
items_in (negated f) = None
items_in (listed ts) = Some (list_of_trees ts)
items_in (joined ts) = None

-- a word and its arguments
abbrev pub Applied : Type 0
Applied = List ℕ × List GeneralTree

abbrev pub applied_in : GeneralTree → Option Applied
applied_in (variable x) = None
applied_in (word f ts) = Some (f, list_of_trees ts)
applied_in (dollar d ts) = None
applied_in (number sign n) = None
applied_in (distinct d) = None
applied_in (negated f) = None
applied_in (listed ts) = None
applied_in (joined ts) = None

-- ---- sources

abbrev pub file_by : Pair → Option SourceTree
file_by p = option_map (file_source p.0) (name_in p.1)

abbrev pub file_in : List GeneralTree → Option SourceTree
file_in ts = option_and_then file_by (two_in ts)

abbrev pub inference_from : GeneralTree → Option (List GeneralTree) → Option (List GeneralTree) → Option SourceTree
inference_from rule None parents = None
inference_from rule (Some items) None = None
inference_from rule (Some items) (Some parents) = option_map (inference_source rule items) (names_in parents)

abbrev pub inference_by : Triple → Option SourceTree
inference_by p = inference_from p.0 (items_in p.1) (items_in p.2)

abbrev pub inference_in : List GeneralTree → Option SourceTree
inference_in ts = option_and_then inference_by (three_in ts)

-- a definition by its way and its name
abbrev pub way_by : List ℕ → Option (List ℕ) → Option SourceTree
way_by way name =
    if bytes_eq way (codes "component") then option_map component_source name
    else if bytes_eq way (codes "opposite") then option_map opposite_source name
    else None

abbrev pub definition_by_word : Applied → Option SourceTree
definition_by_word a = way_by a.0 (option_and_then name_in (one_in a.1))

abbrev pub definition_in : GeneralTree → Option SourceTree
definition_in t = option_and_then definition_by_word (applied_in t)

abbrev pub no_arguments : List GeneralTree → Bool
no_arguments [] = true
no_arguments (t ∷ ts) = false

-- the word `definition`
abbrev pub is_definition : Option Applied → Bool
is_definition None = false
is_definition (Some a) = if bytes_eq a.0 (codes "definition") then no_arguments a.1 else false

abbrev pub introduced_by : Pair → Option SourceTree
introduced_by p =
    if is_definition (applied_in p.0) then option_and_then definition_in (option_and_then one_in (items_in p.1)) else None

abbrev pub introduced_in : List GeneralTree → Option SourceTree
introduced_in ts = option_and_then introduced_by (two_in ts)

abbrev pub source_by : Applied → Option SourceTree
source_by a =
    if bytes_eq a.0 (codes "file") then file_in a.1
    else if bytes_eq a.0 (codes "inference") then inference_in a.1
    else if bytes_eq a.0 (codes "introduced") then introduced_in a.1
    else None

abbrev pub source_in : GeneralTree → Option SourceTree
source_in t = option_and_then source_by (applied_in t)
