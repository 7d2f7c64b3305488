-- Two conclusions of one inference are variants: each of their unifiers goes on to the other.
use Rattle.std.proofs.Common.{◌≡◌, ℕ, Bool, List, ap, ap₂, sym, ◌∙◌, subst, ⊎_elim, if◌then◌else◌}
use Rattle.std.proofs.lemmas.Bool.{cases_Bool, cond-true, cond-false}
use Rattle.std.proofs.lemmas.Option.{same_Some}
use Rattle.fol_base.specs.Tree.{Tree, variable, tree_variables, is_truth}
use Rattle.fol_base.specs.Instance.{Substitution, instance}
use Rattle.fol_base.specs.Clause.{TreeClause}
use Rattle.fol_base.specs.Ground.{literals_instance}
use Rattle.fol_base.specs.Selection.{SelectionMode}
use Rattle.fol_base.specs.InstanceLaws.{after, PutsNoTruth}
use Rattle.fol_base.specs.declared.clause.Side.{Side}
use Rattle.fol_base.proofs.AboutInstances.InstanceLemmas.{instances_of_instances, instances_agree}
use Rattle.kernel_steps.specs.Inference.{NamedSuperposition, NamedResolution, NamedFactoring}
use Rattle.kernel_steps.specs.declared.key.Key.TheVariants.{Para, Refl, Factor, Replaced}
use Rattle.laws_calculus.specs.Variants.{AreVariants, ConclusionsAreVariants}
use Rattle.laws_calculus.proofs.AboutCovering.ClauseLemmas.{All-In}
use Rattle.laws_calculus.proofs.AboutLifting.LiftLemmas.{Goes, no_truth_before, resolved_meets, factored_meets, superposed_meets, resolved_again, factored_again, superposed_again}
use Rattle.laws_calculus.proofs.AboutLifting.VariantLemmas.{kept_variable}

-- ---- what goes on and comes back puts in no `$true`

-- A variable that would become `$true` stays.
abbrev no_truths : Substitution → Substitution
no_truths θ v = if is_truth (θ v) then variable v else θ v

no_truths-put : (θ : Substitution) → PutsNoTruth (no_truths θ)
no_truths-put θ v =
    ⊎_elim
    (λ e. ap is_truth (cond-true (is_truth (θ v)) (variable v) (θ v) e))
    (λ e. ap is_truth (cond-false (is_truth (θ v)) (variable v) (θ v) e) ∙ e)
    (cases_Bool (is_truth (θ v)))

no_truths-go : (θ θ' σ τ : Substitution) → Goes θ σ τ → Goes θ' τ σ → Goes (no_truths θ) σ τ
no_truths-go θ θ' σ τ goes back v =
    let t : Tree = σ v in
    let kept : instance (after θ' θ) t ≡ t = sym (instances_of_instances θ' θ t) ∙ ap (instance θ') (goes v) ∙ back v in
    instances_agree (no_truths θ) θ t
    (All-In (λ w. no_truths θ w ≡ θ w) (tree_variables t) (λ w there.
    cond-false (is_truth (θ w)) (variable w) (θ w)
    (no_truth_before θ' (θ w) (ap is_truth (kept_variable (after θ' θ) t w kept there)))))
    ∙ goes v

-- ---- the rules

variants_by :
    (d e : TreeClause) (forth back : Substitution)
    → e.literals ≡ literals_instance forth d.literals → d.literals ≡ literals_instance back e.literals → d.names ≡ e.names → AreVariants d e
variants_by d e forth back e_is d_is names = record {
  forth = forth;
  becomes = ap₂ (λ ls ns. let c : TreeClause = record { literals = ls; names = ns } in c) (sym e_is) names;
  back = back;
  comes_back = ap₂ (λ ls ns. let c : TreeClause = record { literals = ls; names = ns } in c) (sym d_is) (sym names);
}

resolutions_are_variants :
    (mode : SelectionMode) (c : TreeClause) (i : ℕ) (d e : TreeClause)
    → NamedResolution mode c i d → NamedResolution mode c i e → AreVariants d e
resolutions_are_variants mode c i d e n m =
    let σ : Substitution = n.unifier in
    let τ : Substitution = m.unifier in
    let forth = n.most_general.is_general τ (resolved_meets τ c.literals i n.literal e.literals n.literal_there m.concludes) in
    let back = m.most_general.is_general σ (resolved_meets σ c.literals i m.literal d.literals m.literal_there n.concludes) in
    variants_by d e forth.0 back.0
    (resolved_again forth.0 σ τ (λ v. sym (forth.1 v)) c.literals i d.literals e.literals n.concludes m.concludes)
    (resolved_again back.0 τ σ (λ v. sym (back.1 v)) c.literals i e.literals d.literals m.concludes n.concludes)
    (n.names ∙ sym m.names)

factorings_are_variants :
    (is_predicate : ℕ → Bool) (mode : SelectionMode) (c : TreeClause) (i : ℕ) (side_i : Side) (j : ℕ) (side_j : Side) (d e : TreeClause)
    → NamedFactoring is_predicate mode c i side_i j side_j d → NamedFactoring is_predicate mode c i side_i j side_j e → AreVariants d e
factorings_are_variants is_predicate mode c i side_i j side_j d e n m =
    let σ : Substitution = n.unifier in
    let τ : Substitution = m.unifier in
    let forth =
    n.most_general.is_general τ
    (factored_meets τ c.literals i side_i j side_j n.literal_i n.literal_j e.literals n.i_there n.j_there m.concludes) in
    let back =
    m.most_general.is_general σ
    (factored_meets σ c.literals i side_i j side_j m.literal_i m.literal_j d.literals m.i_there m.j_there n.concludes) in
    let goes : Goes forth.0 σ τ = λ v. sym (forth.1 v) in
    let comes : Goes back.0 τ σ = λ v. sym (back.1 v) in
    variants_by d e (no_truths forth.0) (no_truths back.0)
    (factored_again (no_truths forth.0) σ τ (no_truths-go forth.0 back.0 σ τ goes comes) (no_truths-put forth.0)
    c.literals i side_i j side_j d.literals e.literals n.concludes m.concludes)
    (factored_again (no_truths back.0) τ σ (no_truths-go back.0 forth.0 τ σ comes goes) (no_truths-put back.0)
    c.literals i side_i j side_j e.literals d.literals m.concludes n.concludes)
    (n.names ∙ sym m.names)

superpositions_are_variants :
    (is_predicate : ℕ → Bool) (mode : SelectionMode) (first : TreeClause) (i : ℕ) (s : Side)
    (second : TreeClause) (j : ℕ) (z : Side) (place : List ℕ) (d e : TreeClause)
    → NamedSuperposition is_predicate mode first i s second j z place d → NamedSuperposition is_predicate mode first i s second j z place e
    → AreVariants d e
superpositions_are_variants is_predicate mode first i s second j z place d e n m =
    let σ : Substitution = n.first_unifier in
    let σ' : Substitution = n.second_unifier in
    let τ : Substitution = m.first_unifier in
    let τ' : Substitution = m.second_unifier in
    let forth =
    n.most_general.is_general τ τ'
    (superposed_meets τ τ' first.literals i s second.literals j z place n.from n.into n.old e.literals
    n.from_there n.into_there n.old_there m.concludes) in
    let back =
    m.most_general.is_general σ σ'
    (superposed_meets σ σ' first.literals i s second.literals j z place m.from m.into m.old d.literals
    m.from_there m.into_there m.old_there n.concludes) in
    let goes : Goes forth.0 σ τ = λ v. sym (forth.1 v) in
    let goes' : Goes forth.0 σ' τ' = λ v. sym (forth.2 v) in
    let comes : Goes back.0 τ σ = λ v. sym (back.1 v) in
    let comes' : Goes back.0 τ' σ' = λ v. sym (back.2 v) in
    variants_by d e (no_truths forth.0) (no_truths back.0)
    (superposed_again (no_truths forth.0) σ τ σ' τ'
    (no_truths-go forth.0 back.0 σ τ goes comes) (no_truths-go forth.0 back.0 σ' τ' goes' comes') (no_truths-put forth.0)
    first.literals i s second.literals j z place d.literals e.literals n.concludes m.concludes)
    (superposed_again (no_truths back.0) τ σ τ' σ'
    (no_truths-go back.0 forth.0 τ σ comes goes) (no_truths-go back.0 forth.0 τ' σ' comes' goes') (no_truths-put back.0)
    first.literals i s second.literals j z place e.literals d.literals m.concludes n.concludes)
    (n.names ∙ sym m.names)

-- ---- of each name

pub conclusions_are_variants : ConclusionsAreVariants
conclusions_are_variants is_predicate mode clauses (Para first i s second j z place) d e it that =
    superpositions_are_variants is_predicate mode it.first_clause i s it.second_clause j z place d e it.infers
    (subst (λ (c : TreeClause). NamedSuperposition is_predicate mode it.first_clause i s c j z place e)
    (same_Some that.second_clause it.second_clause (sym that.second_there ∙ it.second_there))
    (subst (λ (c : TreeClause). NamedSuperposition is_predicate mode c i s that.second_clause j z place e)
    (same_Some that.first_clause it.first_clause (sym that.first_there ∙ it.first_there)) that.infers))
conclusions_are_variants is_predicate mode clauses (Refl k i) d e it that =
    resolutions_are_variants mode it.clause i d e it.infers
    (subst (λ (c : TreeClause). NamedResolution mode c i e)
    (same_Some that.clause it.clause (sym that.there ∙ it.there)) that.infers)
conclusions_are_variants is_predicate mode clauses (Factor k i s j z) d e it that =
    factorings_are_variants is_predicate mode it.clause i s j z d e it.infers
    (subst (λ (c : TreeClause). NamedFactoring is_predicate mode c i s j z e)
    (same_Some that.clause it.clause (sym that.there ∙ it.there)) that.infers)
conclusions_are_variants is_predicate mode clauses (Replaced k) d e it that = absurd it
