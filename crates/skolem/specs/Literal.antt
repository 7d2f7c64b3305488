-- A literal of a matrix before its terms are made: an atom of a formula, and the terms to which its variables are bound, in the order
-- in which these stand in it.
use Rattle.std.specs.Prelude.{◌≡◌, ⊤, ℕ, ◌+◌, ◌-◌, ◌^◌, min, Bool, List, ◌∷◌, ◌++◌, map, flat_map, length, drop, get_or}
use Rattle.tptp_tree.specs.Term.{TermTree, variable as named_variable, application as named_application, TermTrees, no_terms, term_then, terms_of}
use Rattle.tptp_tree.specs.Shape.{term_of}
use Rattle.fol_base.specs.Tree.{Tree, variable, application, Trees, no_trees, tree_then, tree_size, tree_variables}
use Rattle.fol_base.specs.Clause.{TreeLiteral, literal_size, literal_variables}
use Rattle.signature.specs.declared.symbol.Symbol.{Symbol}
use Rattle.signature.specs.Symbol.{predicate_symbol, function_symbol, number_of}
use Rattle.signature.specs.Occurrences.{terms_count, term_symbols, terms_symbols}
use Rattle.signature.specs.Environment.{Environment, term_names, terms_names, term_in_force, term_under, terms_under}
use Rattle.signature.specs.Clausal.{atom_literal}
use Rattle.skolem.specs.declared.literal.Atom.{Atom}
use Rattle.skolem.specs.declared.literal.Atom.TheVariants.{Pred, Equal}
use Rattle.skolem.specs.declared.literal.BoundLiteral.{BoundLiteral}
use Rattle.skolem.specs.declared.literal.Source.{Source}
use Rattle.skolem.specs.declared.literal.Source.TheVariants.{Bound, Named}
use Rattle.skolem.specs.BoundTerm.{bound_tree}
use Rattle.skolem.specs.Skolemized.{AreKnown}

-- the terms of names
abbrev pub terms_in_force : Environment → List (List ℕ) → List Tree
terms_in_force env xs = map (term_in_force env) xs

-- The tree of a term in which the first of the given terms stands for the first variable, the next for the next, and so on.
abbrev mutual
  pub filled : List Symbol → TermTree → List Tree → Tree
  filled known (named_variable x) us = get_or us 0 (variable 0)
  filled known (named_application f ts) us = application (number_of known (function_symbol f (terms_count ts))) (filled_terms known ts us)

  pub filled_terms : List Symbol → TermTrees → List Tree → Trees
  filled_terms known no_terms us = no_trees
  filled_terms known (term_then t ts) us = tree_then (filled known t us) (filled_terms known ts (drop (length (term_names t)) us))

-- the size of a term's tree
abbrev mutual
  pub size_under : Environment → TermTree → ℕ
  size_under env (named_variable x) = tree_size (term_in_force env x)
  size_under env (named_application f ts) = 1 + sizes_under env ts

  pub sizes_under : Environment → TermTrees → ℕ
  sizes_under env no_terms = 0
  sizes_under env (term_then t ts) = size_under env t + sizes_under env ts

-- ---- literals

abbrev pub atom_symbols : Atom → List Symbol
atom_symbols (Pred p ts) = predicate_symbol p.now (terms_count (terms_of ts.now)) ∷ terms_symbols (terms_of ts.now)
atom_symbols (Equal s t) = term_symbols (term_of s.now) ++ term_symbols (term_of t.now)

abbrev pub atom_names : Atom → List (List ℕ)
atom_names (Pred p ts) = terms_names (terms_of ts.now)
atom_names (Equal s t) = term_names (term_of s.now) ++ term_names (term_of t.now)

-- the size of an atom's literal
abbrev pub atom_size : Environment → Atom → ℕ
atom_size env (Pred p ts) = 2 + sizes_under env (terms_of ts.now)
atom_size env (Equal s t) = size_under env (term_of s.now) + size_under env (term_of t.now)

-- the literal of an atom under the variables in force
abbrev pub atom_under : List Symbol → Environment → Bool → Atom → TreeLiteral
atom_under known env positive (Pred p ts) =
    atom_literal positive
    (application (number_of known (predicate_symbol p.now (terms_count (terms_of ts.now)))) (terms_under known env (terms_of ts.now)))
atom_under known env positive (Equal s t) =
    record { positive = positive; left = term_under known env (term_of s.now); right = term_under known env (term_of t.now) }

-- the literal of an atom with those terms for its variables
abbrev pub atom_filled : List Symbol → Bool → Atom → List Tree → TreeLiteral
atom_filled known positive (Pred p ts) us =
    atom_literal positive
    (application (number_of known (predicate_symbol p.now (terms_count (terms_of ts.now)))) (filled_terms known (terms_of ts.now) us))
atom_filled known positive (Equal s t) us =
    record {
      positive = positive;
      left = filled known (term_of s.now) us;
      right = filled known (term_of t.now) (drop (length (term_names (term_of s.now))) us);
    }

abbrev pub bound_literal : BoundLiteral → TreeLiteral
bound_literal l = atom_filled l.signature.now l.positive l.atom (map bound_tree l.terms.items)

-- The atom's symbols are known, the size is that of the literal, and the terms have its variables.
pub record IsBound (l : BoundLiteral) : Type 0 where
  pub known : AreKnown l.signature.now (atom_symbols l.atom)
  pub size : l.size ≡ min (literal_size (bound_literal l)) (2 ^ 64 - 1)
  pub variables : flat_map tree_variables (map bound_tree l.terms.items) ≡ literal_variables (bound_literal l)

abbrev pub source_literal : Source → TreeLiteral
source_literal (Bound l) = bound_literal l
source_literal (Named positive t) = atom_literal positive (bound_tree t)

abbrev pub IsSource : Source → Type 0
IsSource (Bound l) = IsBound l
IsSource (Named positive t) = ⊤
