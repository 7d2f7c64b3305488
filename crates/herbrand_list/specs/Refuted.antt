-- What `ground_refuted` answers.
use Rattle.std.specs.Prelude.{ℕ, Bool, List, map, ◌↔◌, IsTrue, IsFalse}
use Rattle.std.specs.List.{list_all}
use Rattle.fol_base.specs.Ground.{GroundClause, is_ground_clause}
use Rattle.fol_base.specs.Literal.{literal_of}
use Rattle.fol_base.specs.Interpretation.{Interpretation, IsInterpretation, clauses_true}
use Rattle.fol_base.specs.Entails.{IsRefuted}
use Rattle.fol_base.specs.WellFormed.{SymbolUse, are_literals_of}
use Rattle.fol_base.specs.declared.clause.Clause.{Clause}

-- the literals of each clause; names are no part of a ground clause
abbrev pub ground_clauses : List Clause → List GroundClause
ground_clauses cs = map (λ (c : Clause). map literal_of c.literals) cs

-- no clause has a variable
abbrev pub are_ground_clauses : List GroundClause → Bool
are_ground_clauses list = list_all is_ground_clause list

-- Whether no interpretation makes the clauses true: for each use of symbols that is theirs, true exactly where it is so.
abbrev pub TellsRefuted : List GroundClause → Bool → Type 0
TellsRefuted list answer =
    (usage : SymbolUse) → IsTrue (list_all (are_literals_of usage) list) → IsTrue answer ↔ IsRefuted usage.is_predicate list

-- An interpretation that makes the clauses true.
pub record HasInterpretation (is_predicate : ℕ → Bool) (list : List GroundClause) : Type 0 where
  pub interpretation : Interpretation
  pub interprets : IsInterpretation is_predicate interpretation
  pub makes_true : IsTrue (clauses_true interpretation list)

-- where the answer is false there is one, for each use of symbols that is the clauses'
abbrev pub TellsModel : List GroundClause → Bool → Type 0
TellsModel list answer =
    IsFalse answer → (usage : SymbolUse) → IsTrue (list_all (are_literals_of usage) list) → HasInterpretation usage.is_predicate list
