-- The clausal form of a problem (after Nonnengart, Weidenbach 2001): by recursion on the formula with its sign, the terms of the
-- variables in force, and the variables and symbols that were made so far.
use Rattle.std.specs.Prelude.{ℕ, ◌+◌, ◌*◌, Bool, true, false, not, ◌&&◌, ◌==◌, nat_le, nat_lt, if◌then◌else◌, List, [], ◌∷◌, ◌++◌, length, map, flat_map, filter}
use mathlib.Core.Bool.{beq}
use Rattle.std.specs.List.{list_any}
use Rattle.tptp_tree.specs.Formula.{implies, implied, equivalent, different, nor, nand, Quantifier, for_all, exists_some, FormulaTree, truth, falsity, predicate, equation, negation, conjunction, disjunction, connected, quantified, FormulaTrees, no_formulas, formula_then}
use Rattle.tptp_tree.specs.Entries.{is_conjecture}
use Rattle.tptp_tree.specs.declared.problem.Annotated.{Annotated}
use Rattle.fol_base.specs.Tree.{Tree, variable, application, trees_of, true_tree, tree_variables}
use Rattle.fol_base.specs.Clause.{TreeLiteral, TreeClause, literal_variables}
use Rattle.fol_base.specs.Canonical.{numbers_from, canonical_clause}
use Rattle.signature.specs.declared.symbol.Symbol.{Symbol}
use Rattle.signature.specs.Symbol.{predicate_symbol, number_of}
use Rattle.signature.specs.Occurrences.{terms_count}
use Rattle.signature.specs.Environment.{Environment, free_names, without_names, closed, term_in_force, term_under, terms_under}

-- ---- symbols, and the state of the work

-- The numbers of symbols: a symbol of the problem has its place, then come the Skolem symbols by their Skolem numbers, and then the
-- naming symbols by their naming numbers.
pub record SymbolNumbers : Type 0 where
  pub symbols : List Symbol
  pub first_skolem : ℕ
  pub first_naming : ℕ

-- a clause without names: the literals of a disjunction
abbrev pub Literals : Type 0
Literals = List TreeLiteral

-- The state of the work: the number of the formula's variables that were made, the Skolem symbols and the naming symbols that were made,
-- each by its number of arguments, and the clauses that define the formula's names.
pub record Made : Type 0 where
  pub variables : ℕ
  pub skolem_arities : List ℕ
  pub naming_arities : List ℕ
  pub defining : List Literals

-- the clauses of a formula, and the state after the work on it
pub record Worked : Type 0 where
  pub clauses : List Literals
  pub made : Made

-- the variables in force inside a quantifier, and the state with which the work on its body begins
pub record Scope : Type 0 where
  pub environment : Environment
  pub made : Made

-- of the variables below n those that occur, in the order in which they were made
abbrev pub made_in_order : ℕ → List ℕ → List ℕ
made_in_order n occurring = filter (λ v. list_any (λ w. v == w) occurring) (numbers_from 0 n)

-- a symbol applied to variables
abbrev pub applied : ℕ → List ℕ → Tree
applied symbol vs = application symbol (trees_of (map variable vs))

-- ---- quantifiers

-- the scope of a quantifier each of whose variables becomes a new one
abbrev pub with_variables : List (List ℕ) → Environment → Made → Scope
with_variables [] env m = record { environment = env; made = m }
with_variables (x ∷ xs) env m =
    with_variables xs ((x, variable m.variables) ∷ env)
    (record { variables = m.variables + 1; skolem_arities = m.skolem_arities; naming_arities = m.naming_arities; defining = m.defining })

-- The variables in the terms of a quantified formula's free variables, which are given.
abbrev pub skolem_arguments : List (List ℕ) → Environment → Made → List ℕ
skolem_arguments free env m = made_in_order m.variables (flat_map (λ x. tree_variables (term_in_force env x)) free)

-- Each variable becomes a Skolem term, the next Skolem symbol applied to the arguments. The names of the body's free variables are given.
abbrev pub with_skolem_terms : SymbolNumbers → List (List ℕ) → List (List ℕ) → Environment → Made → Scope
with_skolem_terms n free [] env m = record { environment = env; made = m }
with_skolem_terms n free (x ∷ xs) env m =
    let arguments : List ℕ = skolem_arguments (without_names (x ∷ xs) free) env m in
    with_skolem_terms n free xs ((x, applied (n.first_skolem + length m.skolem_arities) arguments) ∷ env)
    (record {
      variables = m.variables;
      skolem_arities = m.skolem_arities ++ length arguments ∷ [];
      naming_arities = m.naming_arities;
      defining = m.defining;
    })

-- under the sign + the variables of `!` become new ones, under the sign - those of `?`
abbrev pub makes_variables : Quantifier → Bool → Bool
makes_variables for_all sign = sign
makes_variables exists_some sign = not sign

-- The scope of a quantifier's body. Its variables become new variables if `new` holds, else Skolem terms over the body's free variables.
abbrev pub scope_of : SymbolNumbers → Bool → List (List ℕ) → FormulaTree → Environment → Made → Scope
scope_of n new xs body env m = if new then with_variables xs env m else with_skolem_terms n (free_names body) xs env m

-- ---- products

-- for each clause of the first list, and then each of the second, the literals of both
abbrev pub all_pairs : List Literals → List Literals → List Literals
all_pairs first second = flat_map (λ c. map (λ d. c ++ d) second) first

-- Whether the product of two lists of these lengths is large, so that one of them is named: each has at least 2 clauses, and the product
-- would have over 64.
abbrev pub is_large_count : ℕ → ℕ → Bool
is_large_count first second = nat_le 2 first && (nat_le 2 second && nat_lt 64 (first * second))

-- whether the product of two lists of clauses is large by their lengths
abbrev pub is_large : List Literals → List Literals → Bool
is_large first second = is_large_count (length first) (length second)

-- an atom as a literal under a sign: its equation with `$true`, or its disequation
abbrev pub atom_literal : Bool → Tree → TreeLiteral
atom_literal sign atom = record { positive = sign; left = atom; right = true_tree }

-- A list is named: the next naming symbol, applied to those of its variables that were made before the work on the product began,
-- stands for it, and implies each of its clauses.
abbrev pub named : SymbolNumbers → ℕ → List Literals → Made → Worked
named n began cs m =
    let arguments : List ℕ = made_in_order began (flat_map (λ c. flat_map literal_variables c) cs) in
    let name : Tree = applied (n.first_naming + length m.naming_arities) arguments in
    record {
      clauses = (atom_literal true name ∷ []) ∷ [];
      made =
          record {
            variables = m.variables;
            skolem_arities = m.skolem_arities;
            naming_arities = m.naming_arities ++ length arguments ∷ [];
            defining = m.defining ++ map (λ c. atom_literal false name ∷ c) cs;
          };
    }

-- The product of two lists. Of a large one the longer list is named first, the first one where they are equally long.
abbrev pub product : SymbolNumbers → ℕ → List Literals → List Literals → Made → Worked
product n began first second m =
    if not (is_large first second) then record { clauses = all_pairs first second; made = m }
    else if nat_lt (length first) (length second) then
    (let w : Worked = named n began second m in record { clauses = all_pairs first w.clauses; made = w.made })
    else (let w : Worked = named n began first m in record { clauses = all_pairs w.clauses second; made = w.made })

-- ---- the recursion

-- the work on a formula: from the state before it, its clauses and the state after it
abbrev pub Work : Type 0
Work = Made → Worked

-- two works, one after the other: their clauses in order (`listed`), or the product of their clauses
abbrev pub joined : SymbolNumbers → Bool → Work → Work → Work
joined n listed first second m =
    let w : Worked = first m in
    let v : Worked = second w.made in
    if listed then record { clauses = w.clauses ++ v.clauses; made = v.made } else product n m.variables w.clauses v.clauses v.made

-- the clauses of a truth value: none, or the empty one
abbrev pub truth_value : Bool → Work
truth_value true m = record { clauses = []; made = m }
truth_value false m = record { clauses = [] ∷ []; made = m }

-- the unit clause of a literal; nothing is made
abbrev pub one_literal : TreeLiteral → Work
one_literal l m = record { clauses = (l ∷ []) ∷ []; made = m }

-- The clauses of a formula with a sign: those of the formula under + (true), and of its negation under - (false). A formula that
-- stands twice in an equivalence is worked twice.
abbrev mutual
  pub clauses_of : SymbolNumbers → FormulaTree → Bool → Environment → Work
  clauses_of n truth sign env m = truth_value sign m
  clauses_of n falsity sign env m = truth_value (not sign) m
  clauses_of n (predicate p ts) sign env m =
      one_literal (atom_literal sign (application (number_of n.symbols (predicate_symbol p (terms_count ts))) (terms_under n.symbols env ts))) m
  clauses_of n (equation positive s t) sign env m =
      one_literal (record { positive = beq positive sign; left = term_under n.symbols env s; right = term_under n.symbols env t }) m
  clauses_of n (negation f) sign env m = clauses_of n f (not sign) env m
  clauses_of n (conjunction fs) true env m = listed_clauses n fs true env m
  clauses_of n (conjunction fs) false env m = product_clauses n m.variables ([] ∷ []) fs false env m
  clauses_of n (disjunction fs) true env m = product_clauses n m.variables ([] ∷ []) fs true env m
  clauses_of n (disjunction fs) false env m = listed_clauses n fs false env m
  clauses_of n (connected implies f g) sign env m = joined n (not sign) (clauses_of n f (not sign) env) (clauses_of n g sign env) m
  clauses_of n (connected implied f g) sign env m = joined n (not sign) (clauses_of n f sign env) (clauses_of n g (not sign) env) m
  clauses_of n (connected nor f g) sign env m = joined n sign (clauses_of n f (not sign) env) (clauses_of n g (not sign) env) m
  clauses_of n (connected nand f g) sign env m = joined n (not sign) (clauses_of n f (not sign) env) (clauses_of n g (not sign) env) m
  clauses_of n (connected equivalent f g) sign env m =
      joined n true
      (joined n false (clauses_of n f (not sign) env) (clauses_of n g true env))
      (joined n false (clauses_of n f sign env) (clauses_of n g false env)) m
  clauses_of n (connected different f g) sign env m =
      joined n true
      (joined n false (clauses_of n f sign env) (clauses_of n g true env))
      (joined n false (clauses_of n f (not sign) env) (clauses_of n g false env)) m
  clauses_of n (quantified q xs f) sign env m =
      let s : Scope = scope_of n (makes_variables q sign) xs f env m in
      clauses_of n f sign s.environment s.made

  -- the clauses of each formula, one after the other
  pub listed_clauses : SymbolNumbers → FormulaTrees → Bool → Environment → Work
  listed_clauses n no_formulas sign env m = truth_value true m
  listed_clauses n (formula_then f fs) sign env m = joined n true (clauses_of n f sign env) (listed_clauses n fs sign env) m

  -- their product with the clauses that are there, from left to right, two lists at a time
  pub product_clauses : SymbolNumbers → ℕ → List Literals → FormulaTrees → Bool → Environment → Work
  product_clauses n began cs no_formulas sign env m = record { clauses = cs; made = m }
  product_clauses n began cs (formula_then f fs) sign env m =
      let w : Worked = clauses_of n f sign env m in
      let v : Worked = product n began cs w.clauses w.made in
      product_clauses n began v.clauses fs sign env v.made

-- ---- problems

-- The state before a formula: its variables are numbered from 0, and no clause defines a name of it yet. Skolem and naming symbols go on.
abbrev pub begun : Made → Made
begun m = record { variables = 0; skolem_arities = m.skolem_arities; naming_arities = m.naming_arities; defining = [] }

-- The clauses of a formula, and after them those that define its names. The conjecture is negated.
abbrev pub annotated_clauses : SymbolNumbers → Annotated → Work
annotated_clauses n a m =
    let w : Worked = clauses_of n (closed a) (not (is_conjecture a.role)) [] (begun m) in
    record { clauses = w.clauses ++ w.made.defining; made = w.made }

-- the clauses of formulas, each with the place of its formula, and the state after them
pub record Formed : Type 0 where
  pub clauses : List TreeClause
  pub origins : List ℕ
  pub made : Made

-- the clause of a list of literals, its variables numbered from 0 by first occurrence
abbrev pub canonical_literals : Literals → TreeClause
canonical_literals c = canonical_clause (record { literals = c; names = [] })

-- the clauses of formulas in order, the first formula with the given place
abbrev pub formed : SymbolNumbers → ℕ → List Annotated → Made → Formed
formed n place [] m = record { clauses = []; origins = []; made = m }
formed n place (a ∷ fs) m =
    let w : Worked = annotated_clauses n a m in
    let rest : Formed = formed n (place + 1) fs w.made in
    record {
      clauses = map canonical_literals w.clauses ++ rest.clauses;
      origins = map (λ c. place) w.clauses ++ rest.origins;
      made = rest.made;
    }
