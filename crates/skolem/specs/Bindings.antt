-- The innermost binding of a name is found by a chain: the bindings of a name are chained, from the innermost outwards. An entry also notes a
-- binding whose term has the same variables, and one whose variables are among its own.
use Rattle.std.specs.Prelude.{◌≡◌, ⊤, ℕ, zero, suc, ◌<◌, ◌≤◌, ◌==◌, true, List, [], length, map, get_or, bytes_eq, if◌then◌else◌}
use Rattle.std.specs.List.{list_any}
use Rattle.std.specs.Option.{unwrap_or}
use Rattle.std.specs.Map.{lookup}
use Rattle.fol_base.specs.Tree.{tree_variables}
use Rattle.skolem.specs.declared.name.VariableName.{VariableName}
use Rattle.skolem.specs.declared.bound_term.BoundTerm.TheVariants.{Closed}
use Rattle.skolem.specs.declared.bindings.Binding.{Binding}
use Rattle.skolem.specs.declared.bindings.Entry.{Entry}
use Rattle.skolem.specs.BoundTerm.{bound_tree}

abbrev pub no_binding : Binding
no_binding = record { name = []; term = Closed }

abbrev pub no_entry : Entry
no_entry = record { binding = no_binding; hidden = 0; alike = 0; covers = 0 }

abbrev pub name_at : List Entry → ℕ → List ℕ
name_at es i = (get_or es i no_entry).binding.name

-- one more than the last place below n that has the name, or 0 where there is none
abbrev pub innermost_below : List ℕ → List Entry → ℕ → ℕ
innermost_below x es zero = 0
innermost_below x es (suc n) = if bytes_eq (name_at es n) x then suc n else innermost_below x es n

-- one more than the place that a table has for a name, or 0
abbrev pub place_in : List (VariableName × ℕ) → List ℕ → ℕ
place_in heads x = unwrap_or (lookup (λ (k : VariableName). bytes_eq x k.text) heads) 0

abbrev pub entry_variables : List Entry → ℕ → List ℕ
entry_variables es i = tree_variables (bound_tree (get_or es i no_entry).binding.term)

-- 0 says nothing. Another number is one more than a place up to i, whose term has the same variables as that at i.
abbrev pub IsAlike : List Entry → ℕ → ℕ → Type 0
IsAlike es i zero = ⊤
IsAlike es i (suc j) = (j ≤ i) × (entry_variables es j ≡ entry_variables es i)

-- the numbers of the first list are all in the second
abbrev pub AreAmong : List ℕ → List ℕ → Type 0
AreAmong vs us = (v : ℕ) → list_any (λ w. v == w) vs ≡ true → list_any (λ w. v == w) us ≡ true

-- 0 says nothing. Another number is one more than a place before i, and the variables of the term there are among those at i.
abbrev pub IsCovered : List Entry → ℕ → ℕ → Type 0
IsCovered es i zero = ⊤
IsCovered es i (suc j) = (j < i) × AreAmong (entry_variables es j) (entry_variables es i)

-- Each entry leads to the binding of its name that it hides, and the table to the innermost of each name; and an entry may lead to one whose
-- term has the same variables, and to one further out whose variables its own term has too.
pub record IsChained (es : List Entry) (heads : List (VariableName × ℕ)) : Type 0 where
  pub hidden : (i : ℕ) → i < length es → (get_or es i no_entry).hidden ≡ innermost_below (name_at es i) es i
  pub innermost : (x : List ℕ) → place_in heads x ≡ innermost_below x es (length es)
  pub alike : (i : ℕ) → i < length es → IsAlike es i (get_or es i no_entry).alike
  pub covers : (i : ℕ) → i < length es → IsCovered es i (get_or es i no_entry).covers

abbrev pub bindings_of : List Entry → List Binding
bindings_of es = map (λ (e : Entry). e.binding) es

-- The place 0 says nothing. At another place, counted from 1, there is a binding, and its term has those variables.
abbrev pub HasVariables : List Binding → ℕ → List ℕ → Type 0
HasVariables bs zero vs = ⊤
HasVariables bs (suc i) vs = (i < length bs) × (tree_variables (bound_tree (get_or bs i no_binding).term) ≡ vs)

-- The place 0 says nothing. At another place, counted from 1, there is a binding, and its term's variables are among those.
abbrev pub Covers : List Binding → ℕ → List ℕ → Type 0
Covers bs zero vs = ⊤
Covers bs (suc i) vs = (i < length bs) × AreAmong (tree_variables (bound_tree (get_or bs i no_binding).term)) vs
