-- Clauses have no model that is a congruence exactly where no interpretation makes the ground clauses true.
use Rattle.std.proofs.Common.{◌≡◌, ◌<◌, ◌≤◌, ◌^◌, Bool, true, ◌&&◌, List, [], ◌∷◌, length, Result, Ok, Err, refl, sym, subst, ◌∙◌}
use Rattle.std.proofs.lemmas.Bool.{and_parts, and_from}
use Rattle.std.specs.Prelude.{◌↔◌, IfOk, IsTrue, IsFalse}
use Rattle.std.specs.List.{list_all}
use Rattle.fol_base.specs.Clause.{TreeLiteral}
use Rattle.fol_base.specs.Ground.{GroundClause}
use Rattle.fol_base.specs.Interpretation.{Interpretation, clause_true as clause_holds, literal_true as literal_holds, clauses_true as clauses_hold}
use Rattle.fol_base.specs.Kind.{is_literal}
use Rattle.fol_base.specs.WellFormed.{SymbolUse, has_arities, is_literal_of, are_literals_of}
use Rattle.plain_types.specs.declared.sequence.NameLit.{NameLit}
use Rattle.sat_core.specs.Clause.{PropClause, is_below, names_below, literal_true, clause_true, clauses_true}
use Rattle.congruence.specs.declared.node.Node.{Node}
use Rattle.congruence.specs.declared.node.Equation.{Equation}
use Rattle.congruence.specs.Congruence.{Numbering, are_nodes, are_between, IsCongruence}
use Rattle.congruence.specs.Models.{values_by, HasNoModel, HasModel}
use Rattle.herbrand_list.specs.Nodes.{HasNodeValues, AllPairs, IsNameOf, AreNamesOf, AreClausesOf, AreTermNodes, AreAtoms}
use Rattle.herbrand_list.specs.Refuted.{TellsRefuted, HasInterpretation, TellsModel}
use Rattle.herbrand_list.proofs.AboutRefuting.PairLemmas.{pairs-weaker}
use Rattle.herbrand_list.proofs.AboutRefuting.ValueLemmas.{values-congruence, name-holds, clause-agrees, clauses-agree}
use Rattle.herbrand_list.proofs.AboutRefuting.TableLemmas.{table_for, table-interprets}
use Rattle.herbrand_list.proofs.AboutRefuting.ModelLemmas.{name-kept}

-- under the values of an interpretation
values-tell :
    (i : Interpretation) (nodes : List Node) (atoms : List Equation) (has : HasNodeValues i nodes) (list : List GroundClause) (clauses : List PropClause)
    → AreClausesOf nodes atoms list clauses → clauses_hold i list ≡ clauses_true (values_by has.value atoms) clauses
values-tell i nodes atoms has list clauses are =
    clauses-agree i (values_by has.value atoms) list clauses
    (pairs-weaker (AreNamesOf nodes atoms) (λ (ls : GroundClause) (names : PropClause). clause_holds i ls ≡ clause_true (values_by has.value atoms) names)
    (λ ls names all.
    clause-agrees i (values_by has.value atoms) ls names
    (pairs-weaker (IsNameOf nodes atoms) (λ (l : TreeLiteral) (name : NameLit). literal_holds i l ≡ literal_true (values_by has.value atoms) name)
    (name-holds i nodes atoms has) ls names all))
    list clauses are)

-- in the interpretation of a congruence
names-kept :
    (usage : SymbolUse) (nodes : List Node) (atoms : List Equation) (class : Numbering) → IsCongruence nodes class → AreTermNodes nodes
    → (ls : GroundClause) (names : PropClause) → AreNamesOf nodes atoms ls names → are_literals_of usage ls ≡ true
    → clause_holds (table_for usage.is_predicate nodes class) ls ≡ clause_true (values_by class atoms) names
names-kept usage nodes atoms class congruent terms ls names are used =
    clause-agrees (table_for usage.is_predicate nodes class) (values_by class atoms) ls names (by ls names are used)
  where
    by :
        (ks : GroundClause) (ns : PropClause) → AreNamesOf nodes atoms ks ns → are_literals_of usage ks ≡ true
        → AllPairs (λ (l : TreeLiteral) (name : NameLit). literal_holds (table_for usage.is_predicate nodes class) l ≡ literal_true (values_by class atoms) name) ks ns
    by [] [] all h = tt
    by [] (n ∷ ns) all h = absurd all
    by (k ∷ ks) [] all h = absurd all
    by (k ∷ ks) (n ∷ ns) all h =
        let parts = and_parts (is_literal_of usage k) (are_literals_of usage ks) h in
        let kind = and_parts (is_literal usage.is_predicate k) (has_arities usage.arity k.left && has_arities usage.arity k.right) parts.0 in
        (name-kept usage.is_predicate nodes atoms class k n congruent terms all.0 kind.0, by ks ns all.1 parts.1)

table-tells :
    (usage : SymbolUse) (nodes : List Node) (atoms : List Equation) (class : Numbering) → IsCongruence nodes class → AreTermNodes nodes
    → (list : List GroundClause) (clauses : List PropClause) → AreClausesOf nodes atoms list clauses → list_all (are_literals_of usage) list ≡ true
    → clauses_hold (table_for usage.is_predicate nodes class) list ≡ clauses_true (values_by class atoms) clauses
table-tells usage nodes atoms class congruent terms list clauses are used =
    clauses-agree (table_for usage.is_predicate nodes class) (values_by class atoms) list clauses (by list clauses are used)
  where
    by :
        (cs : List GroundClause) (ps : List PropClause) → AreClausesOf nodes atoms cs ps → list_all (are_literals_of usage) cs ≡ true
        → AllPairs (λ (ls : GroundClause) (names : PropClause). clause_holds (table_for usage.is_predicate nodes class) ls ≡ clause_true (values_by class atoms) names) cs ps
    by [] [] all h = tt
    by [] (p ∷ ps) all h = absurd all
    by (c ∷ cs) [] all h = absurd all
    by (c ∷ cs) (p ∷ ps) all h =
        let parts = and_parts (are_literals_of usage c) (list_all (are_literals_of usage) cs) h in
        (names-kept usage nodes atoms class congruent terms c p all.0 parts.0, by cs ps all.1 parts.1)

pub answer-tells :
    (nodes : List Node) (atoms : List Equation) (list : List GroundClause) (clauses : List PropClause) (answer : Bool)
    → AreAtoms nodes atoms → AreClausesOf nodes atoms list clauses → IsTrue answer ↔ HasNoModel nodes atoms clauses → TellsRefuted list answer
answer-tells nodes atoms list clauses answer atoms_are are says usage used = (
  (λ yes i interprets.
      let has = atoms_are.terms.values i in
      values-tell i nodes atoms has list clauses are ∙ says.0 yes has.value (values-congruence i nodes has)),
  λ refuted.
      says.1 (λ class congruent.
      sym (table-tells usage nodes atoms class congruent atoms_are.terms list clauses are used)
      ∙ refuted (table_for usage.is_predicate nodes class) (table-interprets usage.is_predicate nodes class)),
)

-- the names are below the number of equations
pub clauses-below :
    (nodes : List Node) (atoms : List Equation) (list : List GroundClause) (clauses : List PropClause)
    → AreClausesOf nodes atoms list clauses → names_below (length atoms) clauses ≡ true
clauses-below nodes atoms [] [] are = refl
clauses-below nodes atoms [] (p ∷ ps) are = absurd are
clauses-below nodes atoms (c ∷ cs) [] are = absurd are
clauses-below nodes atoms (c ∷ cs) (p ∷ ps) are =
    and_from (list_all (is_below (length atoms)) p) (names_below (length atoms) ps) (each c p are.0) (clauses-below nodes atoms cs ps are.1)
  where
    each : (ls : GroundClause) (names : PropClause) → AreNamesOf nodes atoms ls names → list_all (is_below (length atoms)) names ≡ true
    each [] [] all = refl
    each [] (n ∷ ns) all = absurd all
    each (l ∷ ls) [] all = absurd all
    each (l ∷ ls) (n ∷ ns) all = and_from (is_below (length atoms) n) (list_all (is_below (length atoms)) ns) all.0.below (each ls ns all.1)

-- what the call answers
pub told :
    {E : Type 0} (r : Result Bool E) (nodes read : List Node) (atoms equations : List Equation) (list : List GroundClause) (clauses : List PropClause)
    → AreAtoms nodes atoms → AreClausesOf nodes atoms list clauses → read ≡ nodes → equations ≡ atoms
    → IfOk r (λ (answer : Bool). IsTrue answer ↔ HasNoModel read equations clauses) → IfOk r (TellsRefuted list)
told (Err fault) nodes read atoms equations list clauses are all same equal says = tt
told (Ok answer) nodes read atoms equations list clauses are all same equal says =
    answer-tells nodes atoms list clauses answer are all
    (subst (λ (es : List Equation). IsTrue answer ↔ HasNoModel nodes es clauses) equal
    (subst (λ (ns : List Node). IsTrue answer ↔ HasNoModel ns equations clauses) same says))

-- a congruence gives an interpretation
model-interprets :
    (nodes : List Node) (atoms : List Equation) (list : List GroundClause) (clauses : List PropClause)
    → AreAtoms nodes atoms → AreClausesOf nodes atoms list clauses → HasModel nodes atoms clauses
    → (usage : SymbolUse) → list_all (are_literals_of usage) list ≡ true → HasInterpretation usage.is_predicate list
model-interprets nodes atoms list clauses atoms_are are model usage used = record {
  interpretation = table_for usage.is_predicate nodes model.class;
  interprets = table-interprets usage.is_predicate nodes model.class;
  makes_true = table-tells usage nodes atoms model.class model.congruence atoms_are.terms list clauses are used ∙ model.makes_true;
}

pub told-model :
    {E : Type 0} (r : Result Bool E) (nodes read : List Node) (atoms equations : List Equation) (list : List GroundClause) (clauses : List PropClause)
    → AreAtoms nodes atoms → AreClausesOf nodes atoms list clauses → read ≡ nodes → equations ≡ atoms
    → IfOk r (λ (answer : Bool). IsFalse answer → HasModel read equations clauses) → IfOk r (TellsModel list)
told-model (Err fault) nodes read atoms equations list clauses are all same equal says = tt
told-model (Ok answer) nodes read atoms equations list clauses are all same equal says =
    λ e usage used.
    model-interprets nodes atoms list clauses are all
    (subst (λ (es : List Equation). HasModel nodes es clauses) equal (subst (λ (ns : List Node). HasModel ns equations clauses) same (says e)))
    usage used

-- what is asked of the nodes, the equations and the clauses that are handed on
pub asked :
    (nodes read : List Node) (atoms equations : List Equation) (list : List GroundClause) (clauses : List PropClause)
    → AreAtoms nodes atoms → AreClausesOf nodes atoms list clauses → read ≡ nodes → equations ≡ atoms
    → (are_nodes read ≡ true) × (length read ≤ 2 ^ 32) × (are_between read equations ≡ true) × (length equations < 2 ^ 32)
    × (names_below (length equations) clauses ≡ true)
asked nodes read atoms equations list clauses are all same equal =
    subst
    (λ (ns : List Node).
    (are_nodes ns ≡ true) × (length ns ≤ 2 ^ 32) × (are_between ns equations ≡ true) × (length equations < 2 ^ 32)
    × (names_below (length equations) clauses ≡ true))
    (sym same)
    (subst
    (λ (es : List Equation).
    (are_nodes nodes ≡ true) × (length nodes ≤ 2 ^ 32) × (are_between nodes es ≡ true) × (length es < 2 ^ 32)
    × (names_below (length es) clauses ≡ true))
    (sym equal)
    (are.terms.proper, are.terms.few, are.between, are.few, clauses-below nodes atoms list clauses all))
