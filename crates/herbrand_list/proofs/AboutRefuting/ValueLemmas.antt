-- The values of nodes in an interpretation are a congruence, and those of the trees that they stand for.
use mathlib.Core.Bool.{beq}
use Rattle.std.proofs.Common.{◌≡◌, ℕ, Bool, true, false, not, ◌&&◌, ◌||◌, List, [], ◌∷◌, map, get_or, drop, if◌then◌else◌, refl, sym, ap, ap₂, ◌∙◌}
use Rattle.fol_base.specs.Tree.{Tree, variable, application, Trees, no_trees, tree_then}
use Rattle.fol_base.specs.Clause.{TreeLiteral}
use Rattle.fol_base.specs.Ground.{GroundClause}
use Rattle.fol_base.specs.Interpretation.{Interpretation, symbol_value, tree_value, trees_values, no_values, sides_true, literal_true as literal_holds, clause_true as clause_holds, clauses_true as clauses_hold}
use Rattle.plain_types.specs.declared.sequence.NameLit.{NameLit}
use Rattle.sat_core.specs.Clause.{PropClause, Valuation, literal_true, clause_true, clauses_true}
use Rattle.congruence.specs.declared.node.Node.{Node}
use Rattle.congruence.specs.declared.node.Equation.{Equation}
use Rattle.congruence.specs.Congruence.{node_at, equation_at, IsCongruence}
use Rattle.congruence.specs.Models.{values_by}
use Rattle.herbrand_list.specs.Nodes.{Stands, AllStand, HasNodeValues, AllPairs, IsNameOf}

pub values-congruence : (i : Interpretation) (nodes : List Node) (has : HasNodeValues i nodes) → IsCongruence nodes has.value
values-congruence i nodes has m n low high same =
    let heads : (node_at nodes m).symbol ≡ (node_at nodes n).symbol = ap (λ (l : List ℕ). get_or l 0 0) same in
    let arguments : map has.value (node_at nodes m).arguments ≡ map has.value (node_at nodes n).arguments = ap (λ (l : List ℕ). drop 1 l) same in
    has.each m low ∙ ap₂ (symbol_value i) heads arguments ∙ sym (has.each n high)

mutual
  pub value-of : (i : Interpretation) (nodes : List Node) (has : HasNodeValues i nodes) (n : ℕ) (t : Tree) → Stands nodes n t → has.value n ≡ tree_value i no_values t
  value-of i nodes has n (variable v) h = absurd h
  value-of i nodes has n (application f ts) h =
      has.each n h.0 ∙ ap₂ (symbol_value i) h.1 (values-of i nodes has (node_at nodes n).arguments ts h.2)

  pub values-of : (i : Interpretation) (nodes : List Node) (has : HasNodeValues i nodes) (ns : List ℕ) (ts : Trees) → AllStand nodes ns ts → map has.value ns ≡ trees_values i no_values ts
  values-of i nodes has [] no_trees h = refl
  values-of i nodes has [] (tree_then t ts) h = absurd h
  values-of i nodes has (n ∷ ns) no_trees h = absurd h
  values-of i nodes has (n ∷ ns) (tree_then t ts) h = ap₂ (λ k ks. k ∷ ks) (value-of i nodes has n t h.0) (values-of i nodes has ns ts h.1)

-- ---- literals

pub sign-applied : (b sign : Bool) → beq b sign ≡ (if sign then b else not b)
sign-applied true true = refl
sign-applied true false = refl
sign-applied false true = refl
sign-applied false false = refl

pub name-holds :
    (i : Interpretation) (nodes : List Node) (atoms : List Equation) (has : HasNodeValues i nodes) (l : TreeLiteral) (name : NameLit)
    → IsNameOf nodes atoms l name → literal_holds i l ≡ literal_true (values_by has.value atoms) name
name-holds i nodes atoms has l name is =
    ap (λ (v : ℕ). sides_true l.positive v (tree_value i no_values l.right)) (sym (value-of i nodes has _ l.left is.left))
    ∙ ap (λ (v : ℕ). sides_true l.positive (has.value (equation_at atoms name.name).left) v) (sym (value-of i nodes has _ l.right is.right))
    ∙ sym (sign-applied (values_by has.value atoms name.name) l.positive)
    ∙ ap (beq (values_by has.value atoms name.name)) (sym is.sign)

-- ---- clauses, where their literals and names have one truth

pub clause-agrees :
    (i : Interpretation) (v : Valuation) (ls : GroundClause) (names : PropClause)
    → AllPairs (λ (l : TreeLiteral) (name : NameLit). literal_holds i l ≡ literal_true v name) ls names → clause_holds i ls ≡ clause_true v names
clause-agrees i v [] [] all = refl
clause-agrees i v [] (n ∷ names) all = absurd all
clause-agrees i v (l ∷ ls) [] all = absurd all
clause-agrees i v (l ∷ ls) (n ∷ names) all = ap₂ (λ (b c : Bool). b || c) all.0 (clause-agrees i v ls names all.1)

pub clauses-agree :
    (i : Interpretation) (v : Valuation) (list : List GroundClause) (clauses : List PropClause)
    → AllPairs (λ (ls : GroundClause) (names : PropClause). clause_holds i ls ≡ clause_true v names) list clauses → clauses_hold i list ≡ clauses_true v clauses
clauses-agree i v [] [] all = refl
clauses-agree i v [] (c ∷ clauses) all = absurd all
clauses-agree i v (ls ∷ list) [] all = absurd all
clauses-agree i v (ls ∷ list) (c ∷ clauses) all = ap₂ (λ (b d : Bool). b && d) all.0 (clauses-agree i v list clauses all.1)
