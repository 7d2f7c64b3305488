-- Flat literals (McCune 1994): each term that isn't a variable has a slot, as each variable has, and a literal says of the values in
-- slots that one is the value of a symbol at others. A clause is true where its flat literals have a true one for all values in the slots.
use Rattle.std.specs.Prelude.{ℕ, ◌+◌, ◌^◌, Bool, false, ◌==◌, List, [], ◌∷◌, ◌++◌, map, sum_by, slice_index_or, if◌then◌else◌}
use mathlib.Core.Bool.{beq}
use Rattle.std.specs.List.{list_any, list_all}
use Rattle.fol_base.specs.Tree.{Tree, variable, application, Trees, no_trees, tree_then, true_symbol, is_truth}
use Rattle.fol_base.specs.Clause.{TreeLiteral, TreeClause}
use Rattle.fol_base.specs.Canonical.{numbers_from}
use Rattle.fol_base.specs.Interpretation.{sides_true}
use Rattle.finite_models.specs.declared.flat.FlatLiteral.{FlatLiteral}
use Rattle.finite_models.specs.declared.flat.FlatLiteral.TheVariants.{Entry, Same, Constant}
use Rattle.finite_models.specs.declared.flat.FlatClause.{FlatClause}
use Rattle.finite_models.specs.Digits.{digits}
use Rattle.finite_models.specs.Measure.{occurrences, all_occurrences, variable_count}

-- ---- terms

-- The slot of a term whose own slots begin at `first`: a variable's is its number, any other term's comes after those in it.
abbrev pub term_slot : ℕ → Tree → ℕ
term_slot first (variable v) = v
term_slot first (application f ts) = first + all_occurrences ts

abbrev pub terms_slots : ℕ → Trees → List ℕ
terms_slots first no_trees = []
terms_slots first (tree_then t ts) = term_slot first t ∷ terms_slots (first + occurrences t) ts

-- the terms in it, each with a literal that is true unless its slot has its value
abbrev mutual
  pub term_literals : ℕ → Tree → List FlatLiteral
  term_literals first (variable v) = []
  term_literals first (application f ts) =
      terms_literals first ts ++ Entry false f ((first + all_occurrences ts) ∷ terms_slots first ts) ∷ []

  pub terms_literals : ℕ → Trees → List FlatLiteral
  terms_literals first no_trees = []
  terms_literals first (tree_then t ts) = term_literals first t ++ terms_literals (first + occurrences t) ts

-- ---- literals

-- the term f(ts) is, or isn't, equal to another one; it needs no slot
abbrev pub headed_literals : ℕ → Bool → ℕ → Trees → Tree → List FlatLiteral
headed_literals first positive f ts other =
    terms_literals first ts
    ++ (term_literals (first + all_occurrences ts) other
    ++ Entry positive f (term_slot (first + all_occurrences ts) other ∷ terms_slots first ts) ∷ [])

abbrev pub equation_literals : ℕ → Bool → Tree → Tree → List FlatLiteral
equation_literals first positive (application f ts) other = headed_literals first positive f ts other
equation_literals first positive (variable x) (application g us) = headed_literals first positive g us (variable x)
equation_literals first positive (variable x) (variable y) = Same positive x y ∷ []

-- how many slots these take
abbrev pub equation_slots : Tree → Tree → ℕ
equation_slots (application f ts) other = all_occurrences ts + occurrences other
equation_slots (variable x) (application g us) = all_occurrences us
equation_slots (variable x) (variable y) = 0

abbrev pub atom_literals : ℕ → Bool → Tree → List FlatLiteral
atom_literals first positive (variable v) = Constant false ∷ []
atom_literals first positive (application f ts) =
    if f == true_symbol then Constant positive ∷ [] else terms_literals first ts ++ Entry positive f (terms_slots first ts) ∷ []

abbrev pub atom_slots : Tree → ℕ
atom_slots (variable v) = 0
atom_slots (application f ts) = if f == true_symbol then 0 else all_occurrences ts

abbrev pub literal_flattened : ℕ → TreeLiteral → List FlatLiteral
literal_flattened first l =
    if is_truth l.right then atom_literals first l.positive l.left else equation_literals first l.positive l.left l.right

abbrev pub literal_slots : TreeLiteral → ℕ
literal_slots l = if is_truth l.right then atom_slots l.left else equation_slots l.left l.right

-- ---- clauses

abbrev pub literals_flattened : ℕ → List TreeLiteral → List FlatLiteral
literals_flattened first [] = []
literals_flattened first (l ∷ ls) = literal_flattened first l ++ literals_flattened (first + literal_slots l) ls

-- the variables have the first slots
abbrev pub flat_clause : TreeClause → FlatClause
flat_clause c =
    record {
      slots = variable_count c + sum_by literal_slots c.literals;
      literals = literals_flattened (variable_count c) c.literals;
    }

-- ---- truth

-- Whether a list of values is an entry of a symbol's table: for a predicate its arguments where it holds, for a function its value,
-- and then its arguments.
abbrev pub Entries : Type 0
Entries = ℕ → List ℕ → Bool

-- the value in a slot
abbrev pub value_in : List ℕ → ℕ → ℕ
value_in values slot = slice_index_or values slot 0

abbrev pub flat_true : Entries → List ℕ → FlatLiteral → Bool
flat_true entries values (Entry positive f slots) = beq (entries f (map (value_in values) slots)) positive
flat_true entries values (Same positive x y) = sides_true positive (value_in values x) (value_in values y)
flat_true entries values (Constant truth) = truth

abbrev pub some_true : Entries → List FlatLiteral → List ℕ → Bool
some_true entries literals values = list_any (flat_true entries values) literals

-- for all values below the size in the slots
abbrev pub flat_clause_true : ℕ → Entries → FlatClause → Bool
flat_clause_true size entries c =
    list_all (λ number. some_true entries c.literals (digits size c.slots number)) (numbers_from 0 (size ^ c.slots))
