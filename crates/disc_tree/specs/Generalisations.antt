-- What stands in a query where an entry has its variables, and what a test of generalisations is asked.
use Rattle.std.specs.Prelude.{◌≡◌, ◌↔◌, ℕ, true, List, [], ◌∷◌, ◌++◌, map, Option, Result, if◌then◌else◌}
use Rattle.fol_base.specs.Tree.{Tree, variable, application, Trees, no_trees, tree_then, tree_variables}
use Rattle.fol_base.specs.Term.{tree_of}
use Rattle.fol_base.specs.Instance.{Substitution}
use Rattle.fol_base.specs.Unifier.{IsMatcher}
use Rattle.fol_base.specs.Compatible.{compatible_generalisation}
use Rattle.disc_tree.specs.declared.stars.Stars.{Stars, Nothing, More'}
use Rattle.disc_tree.specs.declared.stars.Generalisation.{Generalisation}

-- the subterms of a query at the places where an entry's term has its variables, from left to right
abbrev mutual
  pub stood_for : Tree → Tree → List Tree
  stood_for (variable v) u = u ∷ []
  stood_for (application f ts) (variable w) = []
  stood_for (application f ts) (application g us) = all_stood_for ts us

  pub all_stood_for : Trees → Trees → List Tree
  all_stood_for no_trees us = []
  all_stood_for (tree_then t ts) no_trees = []
  all_stood_for (tree_then t ts) (tree_then u us) = stood_for t u ++ all_stood_for ts us

-- an entry with these subterms
abbrev pub Match : Type 0
Match = (Tree × ℕ) × List Tree

-- of each entry whose term may be a generalisation of the query, in the list's order
abbrev pub generalisations : Tree → List (Tree × ℕ) → List Match
generalisations query [] = []
generalisations query (e ∷ es) =
    if compatible_generalisation e.0 query then (e, stood_for e.0 query) ∷ generalisations query es else generalisations query es

-- what stars stand for, the first one first
abbrev pub terms_of : Stars → List Tree
terms_of Nothing = []
terms_of (More' term p before) = terms_of before ++ tree_of term.now ∷ []

-- what a test is handed of an entry with its subterms
pub record IsHanded (m : Match) (g : Generalisation) : Type 0 where
  pub number : g.number ≡ m.0.1
  pub variables : g.variables.now ≡ tree_variables m.0.0
  pub stars : terms_of g.stars.now ≡ m.1

-- what a test answers of it
abbrev pub answers_of : {T E : Type 0} → (Generalisation → Result (Option T) E → Type 0) → Match → Result (Option T) E → Type 0
answers_of answers m r = (g : Generalisation) × IsHanded m g × answers g r

-- The matchers are read off: they turn the entry's variables, one by one, into these subterms.
abbrev pub MatchersAreReadOff : Type 0
MatchersAreReadOff =
    (entry query : Tree) (σ : Substitution)
    → compatible_generalisation entry query ≡ true
    → IsMatcher entry query σ ↔ (map σ (tree_variables entry) ≡ stood_for entry query)
