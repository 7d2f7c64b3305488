-- What a table of terms remembers.
use Rattle.std.specs.Prelude.{◌≡◌, ℕ, slice_get, Option, Some}
use Rattle.fol_base.specs.Tree.{Tree}
use Rattle.fol_base.specs.Term.{tree_of}
use Rattle.fol_base.specs.Clause.{TreeClause}
use Rattle.fol_base.specs.declared.term.Term.{Term}
use Rattle.rewriting.specs.Redex.{inner, IsNormal}
use Rattle.rewriting.specs.declared.normal_terms.NormalTerms.{NormalTerms}

-- the term is in the table
pub record IsRemembered (table : NormalTerms) (t : Tree) : Type 0 where
  pub place : ℕ
  pub term : Term
  pub there : slice_get table.places.items place ≡ Some (Some term)
  pub same : tree_of term ≡ t

-- no term of the table has a redex of these clauses, wherever it stands below the root of a side
abbrev pub RemembersNormal : (ℕ → Option TreeClause) → NormalTerms → Type 0
RemembersNormal clauses table = (t : Tree) → IsRemembered table t → IsNormal clauses inner t
