-- What the calls for one rule give, from what they found of its literals; and what a step gives of them.
use Rattle.std.proofs.Common.{◌≡◌, ℕ, Bool, true, ◌&&◌, ◌==◌, List, ◌++◌, map, Option, Some, None, ap, ap₂, sym, ◌∙◌}
use Rattle.std.specs.Prelude.{slice_get, slice_set, option_map, option_and_then, if◌then◌else◌}
use Rattle.std.proofs.lemmas.Bool.{cond-true, cond-false, ne_eqb}
use Rattle.std.proofs.lemmas.Option.{slice_get-map}
use Rattle.fol_base.specs.Tree.{Tree, tree_eq}
use Rattle.fol_base.specs.Instance.{Substitution, instance}
use Rattle.fol_base.specs.Clause.{TreeLiteral, TreeClause, literal_instance}
use Rattle.fol_base.specs.Ground.{literals_instance}
use Rattle.fol_base.specs.Sides.{side_of, other_side_of}
use Rattle.fol_base.specs.Rules.{may_be_chosen, disequation, factored}
use Rattle.fol_base.specs.declared.clause.Side.{Side}
use Rattle.fol_base.proofs.AboutClauses.InferenceLemmas.{other_side_of-instance}
use Rattle.kernel_steps.specs.Parents.{Parent}
use Rattle.kernel_steps.specs.Conclusion.{binds_parent, bound_literals, verdict_of, verdict_if, clause_with, by_two}

-- equality factoring of instances, whose new sides are built from the literals
pub factored-called :
    (σ : Substitution) (ls : List TreeLiteral) (i : ℕ) (side_i : Side) (j : ℕ) (side_j : Side)
    (l m : TreeLiteral) (left right : Tree) (made : List TreeLiteral)
    → (i ≡ j → ⊥) → slice_get ls i ≡ Some l → slice_get ls j ≡ Some m
    → (may_be_chosen (literal_instance σ l) side_i
    && (m.positive && tree_eq (side_of side_i (literal_instance σ l)) (side_of side_j (literal_instance σ m)))) ≡ true
    → left ≡ instance σ (other_side_of side_i l) → right ≡ instance σ (other_side_of side_j m)
    → made ≡ slice_set (map (literal_instance σ) ls) i (disequation left right)
    → Some made ≡ factored (literals_instance σ ls) i side_i j side_j
factored-called σ ls i side_i j side_j l m left right made differ l_at m_at can left_is right_is made_is =
    let ks : List TreeLiteral = literals_instance σ ls in
    let test : TreeLiteral → TreeLiteral → Bool =
    λ l m. may_be_chosen l side_i && (m.positive && tree_eq (side_of side_i l) (side_of side_j m)) in
    let whole : TreeLiteral → TreeLiteral → List TreeLiteral =
    λ l m. slice_set ks i (disequation (other_side_of side_i l) (other_side_of side_j m)) in
    let with_i : TreeLiteral → TreeLiteral → Option (List TreeLiteral) = λ l m. if test l m then Some (whole l m) else None in
    let made_of : Option (List TreeLiteral) = option_and_then (λ l. option_and_then (with_i l) (slice_get ks j)) (slice_get ks i) in
    let first : TreeLiteral = literal_instance σ l in
    let second : TreeLiteral = literal_instance σ m in
    sym
    (cond-false (i == j) None made_of (ne_eqb i j differ)
    ∙ ap (option_and_then (λ l. option_and_then (with_i l) (slice_get ks j))) (slice_get-map (literal_instance σ) ls i ∙ ap (option_map (literal_instance σ)) l_at)
    ∙ ap (option_and_then (with_i first)) (slice_get-map (literal_instance σ) ls j ∙ ap (option_map (literal_instance σ)) m_at)
    ∙ cond-true (test first second) (Some (whole first second)) None can
    ∙ sym
    (ap (λ ns. let o : Option (List TreeLiteral) = Some ns in o)
    (made_is
    ∙ ap₂ (λ t u. slice_set ks i (disequation t u)) (left_is ∙ sym (other_side_of-instance σ side_i l)) (right_is ∙ sym (other_side_of-instance σ side_j m)))))

-- a rule of two parents that are there, under right bindings
pub by_two-there :
    (first second : Option Parent) (first_bind second_bind : List Tree)
    (rule : List TreeLiteral → List TreeLiteral → Option (List TreeLiteral)) (p q : Parent)
    → first ≡ Some p → second ≡ Some q → binds_parent first_bind first ≡ true → binds_parent second_bind second ≡ true
    → by_two first first_bind second second_bind rule
    ≡ verdict_of
    (option_map (clause_with (p.clause.names ++ q.clause.names)) (rule (bound_literals first_bind p.clause) (bound_literals second_bind q.clause)))
by_two-there first second first_bind second_bind rule p q first_is second_is first_bound second_bound =
    let of_two : Parent → Parent → Option TreeClause =
    λ p q. option_map (clause_with (p.clause.names ++ q.clause.names))
    (rule (bound_literals first_bind p.clause) (bound_literals second_bind q.clause)) in
    let made : Option TreeClause = option_and_then (λ p. option_and_then (of_two p) second) first in
    ap₂ (λ b d. verdict_if (b && d) made) first_bound second_bound
    ∙ ap verdict_of (ap (option_and_then (λ p. option_and_then (of_two p) second)) first_is ∙ ap (option_and_then (of_two p)) second_is)
