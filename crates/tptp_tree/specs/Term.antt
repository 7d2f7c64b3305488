-- Terms over names, as trees: a variable, or a name applied to a list of trees.
use Rattle.std.specs.Prelude.{ℕ, ◌+◌, List, [], ◌∷◌}

-- A term is a variable, by its name, or a name applied to a list of terms; a constant is a name applied to none.
mutual
  pub data TermTree : Type 0 where
    variable : List ℕ → TermTree
    application : List ℕ → TermTrees → TermTree

  pub data TermTrees : Type 0 where
    no_terms : TermTrees
    term_then : TermTree → TermTrees → TermTrees

-- the trees of a list
abbrev pub terms_of : List TermTree → TermTrees
terms_of [] = no_terms
terms_of (t ∷ ts) = term_then t (terms_of ts)

-- the list of trees
abbrev pub list_of_terms : TermTrees → List TermTree
list_of_terms no_terms = []
list_of_terms (term_then t ts) = t ∷ list_of_terms ts

-- how many occurrences of names and variables there are: 3 in `f(X,a)`
abbrev mutual
  pub term_size : TermTree → ℕ
  term_size (variable x) = 1
  term_size (application f ts) = 1 + terms_size ts

  pub terms_size : TermTrees → ℕ
  terms_size no_terms = 0
  terms_size (term_then t ts) = term_size t + terms_size ts
