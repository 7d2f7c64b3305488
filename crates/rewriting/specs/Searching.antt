-- What a search for redexes finds.
use Rattle.std.specs.Prelude.{◌≡◌, ℕ, Bool, true, List, [], ◌∷◌, ◌++◌, slice_get, Option, None, Some, IsTrue}
use Rattle.fol_base.specs.Tree.{Tree, VariablesBelow}
use Rattle.fol_base.specs.Instance.{Substitution}
use Rattle.fol_base.specs.Clause.{TreeLiteral, TreeClause}
use Rattle.fol_base.specs.Place.{subterm}
use Rattle.fol_base.specs.Sides.{side_of}
use Rattle.fol_base.specs.declared.clause.Side.{Side}
use Rattle.unifier.specs.Laws.{are_of_one_kind, AreFunctionPairs}
use Rattle.unifier.specs.Matching.{by_pairs, are_below}
use Rattle.rewriting.specs.Redex.{Spot, spot_at, root_spot, inner, IsRedex, HasRedex, IsNormal, IsNormalLiteral}
use Rattle.rewriting.specs.Units.{usable}
use Rattle.bank_clause.specs.Clause.{side_number}
use Rattle.rewriting.specs.declared.searching.Rewrite.{Rewrite}
use Rattle.rewriting.specs.declared.searching.Found.{Found}
use Rattle.rewriting.specs.declared.searching.Rewriters.{Rewriters}

-- the clauses of the units that may rewrite, by their numbers
abbrev pub usable_by : Rewriters → ℕ → Option TreeClause
usable_by r = usable r.units.now r.left_out r.asserted.now

-- what a side of an equation gives at a term: the pairs of the matcher, or no redex
pub record IsMatchedBy (e : TreeLiteral) (s : Side) (spot : Spot) (old : Tree) (pairs : List (ℕ × Tree)) : Type 0 where
  pub redex : IsRedex e s spot old (by_pairs pairs)
  pub counted : (count : ℕ) → VariablesBelow count (side_of s e) → are_below count pairs ≡ true
  pub function_terms :
      (is_predicate : ℕ → Bool) → IsTrue (are_of_one_kind is_predicate (side_of s e) old) → AreFunctionPairs is_predicate pairs

abbrev pub IsMatchedSide : TreeLiteral → Side → Spot → Tree → Option (List (ℕ × Tree)) → Type 0
IsMatchedSide e s spot old None = (σ : Substitution) → IsRedex e s spot old σ → ⊥
IsMatchedSide e s spot old (Some pairs) = IsMatchedBy e s spot old pairs

-- a unit that rewrites a term at a spot, with the pairs of its matcher
pub record IsRewrite (clauses : ℕ → Option TreeClause) (spot : Spot) (old : Tree) (r : Rewrite) : Type 0 where
  pub unit : TreeClause
  pub there : clauses r.number ≡ Some unit
  pub equation : TreeLiteral
  pub alone : unit.literals ≡ equation ∷ []
  pub positive : IsTrue equation.positive
  pub matched : IsMatchedBy equation r.side spot old r.terms

-- what one entry of the index gives: a rewrite, or no redex of that entry's side
abbrev pub NotBy : (ℕ → Option TreeClause) → Spot → Tree → ℕ → Type 0
NotBy clauses spot old entry = (h : HasRedex clauses spot old) → entry ≡ side_number h.number h.side → ⊥

abbrev pub IsTried : (ℕ → Option TreeClause) → Spot → Tree → ℕ → Option Rewrite → Type 0
IsTried clauses spot old entry None = NotBy clauses spot old entry
IsTried clauses spot old entry (Some r) = IsRewrite clauses spot old r

-- what all units give at one term
abbrev pub IsFoundAt : (ℕ → Option TreeClause) → Spot → Tree → Option Rewrite → Type 0
IsFoundAt clauses spot old None = HasRedex clauses spot old → ⊥
IsFoundAt clauses spot old (Some r) = IsRewrite clauses spot old r

-- a rewrite at a place of a term, which a path has after what it had before
pub record IsPlaced (clauses : ℕ → Option TreeClause) (spot : Spot) (t : Tree) (before path : List ℕ) (r : Rewrite) : Type 0 where
  pub place : List ℕ
  pub path_is : path ≡ before ++ place
  pub old : Tree
  pub old_there : subterm place t ≡ Some old
  pub rewrite : IsRewrite clauses (spot_at spot place) old r

-- what a search of a term gives
abbrev pub IsFoundIn : (ℕ → Option TreeClause) → Spot → Tree → List ℕ → List ℕ → Option Rewrite → Type 0
IsFoundIn clauses spot t before path None = (path ≡ before) × IsNormal clauses spot t
IsFoundIn clauses spot t before path (Some r) = IsPlaced clauses spot t before path r

-- what a search of an application's arguments gives
abbrev pub IsFoundInSome : (ℕ → Option TreeClause) → List Tree → List ℕ → List ℕ → Option Rewrite → Type 0
IsFoundInSome clauses ts before path None =
    (path ≡ before) × ((i : ℕ) (t : Tree) → slice_get ts i ≡ Some t → IsNormal clauses inner t)
IsFoundInSome clauses ts before path (Some r) =
    (i : ℕ) × (t : Tree) × (slice_get ts i ≡ Some t) × IsPlaced clauses inner t (before ++ i ∷ []) path r

-- a rewrite at a place of a side of a literal
pub record IsFoundAtSide (clauses : ℕ → Option TreeClause) (l : TreeLiteral) (index : ℕ) (side : Side) (f : Found) : Type 0 where
  pub of_literal : f.literal ≡ index
  pub of_side : f.side ≡ side
  pub old : Tree
  pub old_there : subterm f.place (side_of side l) ≡ Some old
  pub rewrite : IsRewrite clauses (spot_at (root_spot side l) f.place) old f.rewrite

-- what a search of a side gives
abbrev pub IsFoundOfSide : (ℕ → Option TreeClause) → TreeLiteral → ℕ → Side → Option Found → Type 0
IsFoundOfSide clauses l index side None = IsNormal clauses (root_spot side l) (side_of side l)
IsFoundOfSide clauses l index side (Some f) = IsFoundAtSide clauses l index side f

-- and of a literal
abbrev pub IsFoundOfLiteral : (ℕ → Option TreeClause) → TreeLiteral → ℕ → Option Found → Type 0
IsFoundOfLiteral clauses l index None = IsNormalLiteral clauses l
IsFoundOfLiteral clauses l index (Some f) = (side : Side) × IsFoundAtSide clauses l index side f

-- a rewrite at a place of a clause
pub record IsFoundOf (clauses : ℕ → Option TreeClause) (ls : List TreeLiteral) (f : Found) : Type 0 where
  pub literal : TreeLiteral
  pub literal_there : slice_get ls f.literal ≡ Some literal
  pub old : Tree
  pub old_there : subterm f.place (side_of f.side literal) ≡ Some old
  pub rewrite : IsRewrite clauses (spot_at (root_spot f.side literal) f.place) old f.rewrite
