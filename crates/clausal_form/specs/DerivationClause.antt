-- The clause that a line of a derivation is written with: its ordinary literals over the symbols' numbers, and its names. A literal
-- of a nullary predicate that is introduced as a name is a name.
use mathlib.Core.Bool.{beq}
use Rattle.std.specs.Prelude.{ℕ, ◌+◌, Bool, true, false, ◌&&◌, List, [], ◌∷◌, ◌++◌, map, filter, filter_map, flat_map, fold, Option, None, option_map, is_some, is_none, position, bytes_eq, if◌then◌else◌}
use Rattle.std.specs.List.{list_all}
use Rattle.plain_types.specs.declared.sequence.NameLit.{NameLit}
use Rattle.plain_types.specs.Names.{signed}
use Rattle.fol_base.specs.Tree.{Tree, variable, application, true_tree}
use Rattle.fol_base.specs.Clause.{TreeLiteral, TreeClause}
use Rattle.tptp_tree.specs.Term.{TermTree, no_terms}
use Rattle.tptp_tree.specs.Formula.{FormulaTree, truth, falsity, predicate, equation, negation, disjunction, list_of_formulas}
use Rattle.signature.specs.declared.symbol.Symbol.{Symbol}
use Rattle.signature.specs.Symbol.{predicate_symbol, number_of, with_symbol}
use Rattle.signature.specs.Occurrences.{terms_count, term_symbols, formula_symbols}
use Rattle.signature.specs.Environment.{Environment, term_names, free_names, different_names, term_under, terms_under}
use Rattle.signature.specs.Clausal.{atom_literal}
use Rattle.kernel_steps.specs.Names.{are_sorted}

-- ---- literals as they are written

-- the literals of a `cnf` formula; `$false` is the clause without any
abbrev pub literals_of : FormulaTree → List FormulaTree
literals_of falsity = []
literals_of (disjunction fs) = list_of_formulas fs
literals_of f = f ∷ []

-- whether a literal has no `~`
abbrev pub is_positive : FormulaTree → Bool
is_positive (negation f) = false
is_positive f = true

-- the atom of a literal, without its `~`
abbrev pub atom_of : FormulaTree → FormulaTree
atom_of (negation f) = f
atom_of f = f

-- whether a formula is an atom: `$true`, a predicate, or an equation, `s != t` included; `$false` is none
abbrev pub is_atom : FormulaTree → Bool
is_atom truth = true
is_atom (predicate p ts) = true
is_atom (equation positive s t) = true
is_atom f = false

-- whether a formula is a literal: an atom or the negation of one
abbrev pub is_literal : FormulaTree → Bool
is_literal l = is_atom (atom_of l)

-- ---- names

-- the number of an introduced name is its place
abbrev pub name_number : List (List ℕ) → List ℕ → Option ℕ
name_number names p = position (bytes_eq p) names

-- the number of the introduced name that an atom is, if it is one
abbrev pub atom_name : List (List ℕ) → FormulaTree → Option ℕ
atom_name names (predicate p no_terms) = name_number names p
atom_name names f = None

-- the signed name that a literal is
abbrev pub literal_name : List (List ℕ) → FormulaTree → Option NameLit
literal_name names l = option_map (signed (is_positive l)) (atom_name names (atom_of l))

-- the literals of a `cnf` formula that are no introduced names
abbrev pub ordinary_literals : List (List ℕ) → FormulaTree → List FormulaTree
ordinary_literals names f = filter (λ l. is_none (literal_name names l)) (literals_of f)

-- the signed introduced names in a `cnf` formula
abbrev pub clause_names : List (List ℕ) → FormulaTree → List NameLit
clause_names names f = filter_map (literal_name names) (literals_of f)

-- whether after the first name in a list of literals there are names alone
abbrev pub names_come_last : List (List ℕ) → List FormulaTree → Bool
names_come_last names [] = true
names_come_last names (l ∷ ls) =
    if is_some (literal_name names l) then list_all (λ k. is_some (literal_name names k)) ls else names_come_last names ls

-- Whether a `cnf` formula is written as a clause is. `$false` stands only alone. The names stand after the ordinary literals, by
-- rising number, each once, of one name the negative one before the positive one.
abbrev pub is_written_clause : List (List ℕ) → FormulaTree → Bool
is_written_clause names f =
    list_all is_literal (literals_of f) && (names_come_last names (literals_of f) && are_sorted (clause_names names f))

-- ---- numbers

-- variables with numbers from n on, by their places in a list of names
abbrev pub numbered_from : ℕ → List (List ℕ) → Environment
numbered_from n [] = []
numbered_from n (x ∷ xs) = (x, variable n) ∷ numbered_from (n + 1) xs

-- the symbols of literals, and then of the terms of bindings, with repetitions
abbrev pub symbols_in : List FormulaTree → List TermTree → List Symbol
symbols_in literals bound = flat_map formula_symbols literals ++ flat_map term_symbols bound

-- the variables' names of literals, and then of the terms of bindings, with repetitions
abbrev pub variables_in : List FormulaTree → List TermTree → List (List ℕ)
variables_in literals bound = flat_map free_names literals ++ flat_map term_names bound

-- The numbers of a line's symbols and variables, both by first occurrence. Symbols of the form keep their numbers, and new ones come
-- after them, each once; variables are numbered from 0.
pub record Numbering : Type 0 where
  pub symbols : List Symbol
  pub variables : Environment

-- The numbering of a line with these literals and bound terms. The literals come first, so its clause is canonical.
abbrev pub numbering : List Symbol → List FormulaTree → List TermTree → Numbering
numbering known literals bound = record {
  symbols = fold with_symbol known (symbols_in literals bound);
  variables = numbered_from 0 (different_names (variables_in literals bound));
}

-- the tree of a term under a numbering
abbrev pub term_by : Numbering → TermTree → Tree
term_by n t = term_under n.symbols n.variables t

-- the literal of an atom under a sign and a numbering; `$true` is the atom that is neither a predicate nor an equation
abbrev pub atom_by : Numbering → Bool → FormulaTree → TreeLiteral
atom_by n positive (predicate p ts) =
    atom_literal positive (application (number_of n.symbols (predicate_symbol p (terms_count ts))) (terms_under n.symbols n.variables ts))
atom_by n positive (equation equal s t) = record { positive = beq equal positive; left = term_by n s; right = term_by n t }
atom_by n positive f = atom_literal positive true_tree

-- the literal of a written literal under a numbering
abbrev pub literal_by : Numbering → FormulaTree → TreeLiteral
literal_by n l = atom_by n (is_positive l) (atom_of l)

-- the clause of a `cnf` formula under a numbering: its ordinary literals in order, and its names
abbrev pub clause_by : Numbering → List (List ℕ) → FormulaTree → TreeClause
clause_by n names f = record { literals = map (literal_by n) (ordinary_literals names f); names = clause_names names f }
