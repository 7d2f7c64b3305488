-- The bindings of items, by the numbers of a line and by all numbers that extend them.
use Rattle.std.specs.Prelude.{◌≡◌, ℕ, Bool, true, false, ◌&&◌, List, [], map, flat_map, codes, Option, None, Some, option_map, option_and_then, unwrap_or}
use Rattle.fol_base.specs.Tree.{Tree}
use Rattle.tptp_tree.specs.Term.{TermTree, variable, application, TermTrees, no_terms, term_then}
use Rattle.tptp_source.specs.General.{GeneralTree, variable as general_variable, word, listed, GeneralTrees, no_trees, tree_then, list_of_trees}
use Rattle.signature.specs.declared.symbol.Symbol.{Symbol}
use Rattle.signature.specs.Occurrences.{term_symbols}
use Rattle.signature.specs.Environment.{term_names}
use Rattle.clausal_form.specs.DerivationClause.{term_by}
use Rattle.clausal_form.specs.DerivationItems.{arguments, has_word, only_one, list_in, bindings_in}
use Rattle.tptp_source.specs.Items.{term_in}
use Rattle.tstp_lines.specs.declared.numbers.LineNumbers.{LineNumbers}
use Rattle.tstp_lines.specs.Numbers.{GoesOn, numbering_of}

-- whether a general term is a variable or a function term
abbrev mutual
  pub is_term : GeneralTree → Bool
  is_term (general_variable x) = true
  is_term (word f ts) = are_terms ts
  is_term t = false

  pub are_terms : GeneralTrees → Bool
  are_terms no_trees = true
  are_terms (tree_then t ts) = is_term t && are_terms ts

-- the term that it is
abbrev mutual
  pub as_term : GeneralTree → TermTree
  as_term (general_variable x) = variable x
  as_term (word f ts) = application f (as_terms ts)
  as_term t = variable []

  pub as_terms : GeneralTrees → TermTrees
  as_terms no_trees = no_terms
  as_terms (tree_then t ts) = term_then (as_term t) (as_terms ts)

abbrev pub symbols_of : GeneralTree → List Symbol
symbols_of g = term_symbols (as_term g)

abbrev pub names_of : GeneralTree → List (List ℕ)
names_of g = term_names (as_term g)

abbrev pub by_numbers : LineNumbers → GeneralTree → Tree
by_numbers m g = term_by (numbering_of m) (as_term g)

abbrev pub IsGeneralTerm : LineNumbers → GeneralTree → Tree → Type 0
IsGeneralTerm n g u = (m : LineNumbers) → GoesOn n m → u ≡ by_numbers m g

abbrev pub AreGeneralTerms : LineNumbers → List GeneralTree → List Tree → Type 0
AreGeneralTerms n gs us = (m : LineNumbers) → GoesOn n m → us ≡ map (by_numbers m) gs

-- ---- items

abbrev pub is_bind : GeneralTree → Bool
is_bind g = has_word (codes "bind") g

-- the list that is an item's only argument
abbrev pub list_at : GeneralTree → Option (List GeneralTree)
list_at (listed ts) = Some (list_of_trees ts)
list_at g = None

abbrev pub list_of_item : GeneralTree → Option (List GeneralTree)
list_of_item g = option_and_then list_at (only_one (arguments g))

-- the terms that an item binds, if its only argument is a list of terms
abbrev pub binding_in : GeneralTree → Option (List TermTree)
binding_in g = option_and_then (list_in term_in) (only_one (arguments g))

abbrev pub symbols_of_item : GeneralTree → List Symbol
symbols_of_item g = flat_map term_symbols (unwrap_or (binding_in g) [])

abbrev pub names_of_item : GeneralTree → List (List ℕ)
names_of_item g = flat_map term_names (unwrap_or (binding_in g) [])

abbrev pub binding_by : LineNumbers → GeneralTree → Option (List Tree)
binding_by m g = option_map (map (term_by (numbering_of m))) (binding_in g)

abbrev pub IsBinding : LineNumbers → GeneralTree → Option (List Tree) → Type 0
IsBinding n g o = (m : LineNumbers) → GoesOn n m → o ≡ binding_by m g

-- all that items bind
abbrev pub all_bound : List GeneralTree → List TermTree
all_bound gs = flat_map (λ o. unwrap_or o []) (bindings_in gs)

abbrev pub symbols_bound : List GeneralTree → List Symbol
symbols_bound gs = flat_map term_symbols (all_bound gs)

abbrev pub names_bound : List GeneralTree → List (List ℕ)
names_bound gs = flat_map term_names (all_bound gs)

abbrev pub AreBindings : LineNumbers → List GeneralTree → List (Option (List Tree)) → Type 0
AreBindings n gs os = (m : LineNumbers) → GoesOn n m → os ≡ map (option_map (map (term_by (numbering_of m)))) (bindings_in gs)
