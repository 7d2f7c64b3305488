-- What a refutation of the clausal form says of the formulas.
use Rattle.std.proofs.Common.{◌≡◌, ℕ, zero, suc, ◌<◌, Bool, true, false, not, ◌&&◌, ◌||◌, List, [], ◌∷◌, refl, ap, sym, ◌∙◌, subst, arith, get_or}
use mathlib.Core.Bool.{beq}
use Rattle.std.specs.Prelude.{All, Contains}
use Rattle.std.specs.List.{AllByRecursion, list_any, list_all}
use Rattle.std.proofs.lemmas.Bool.{and_parts, and_from, and_left, or_parts, or_from, false_from_ne_true, true_from_ne_false, true≢false}
use Rattle.std.proofs.lemmas.List.Sums.{list_all-from_AllPass}
use Rattle.tptp_tree.specs.Entries.{is_conjecture}
use Rattle.tptp_tree.specs.declared.problem.Annotated.{Annotated}
use Rattle.fol_base.specs.Clause.{TreeClause}
use Rattle.fol_base.specs.Covered.{InstanceOf}
use Rattle.fol_base.specs.Ground.{GroundClause}
use Rattle.fol_base.specs.Interpretation.{Interpretation, tree_value, no_values, clause_true, clauses_true, HoldsIn}
use Rattle.fol_base.proofs.AboutTerms.KindLemmas.{ground_trees_are_function_terms}
use Rattle.fol_base.proofs.AboutClauses.MeaningLemmas.{truth_of_instances}
use Rattle.kernel_steps.proofs.AboutSoundness.SoundLemmas.{function_term-value}
use Rattle.signature.specs.declared.symbol.Symbol.{Symbol}
use Rattle.signature.specs.Occurrences.{problem_symbols}
use Rattle.signature.specs.Form.{clausal_form}
use Rattle.signature.specs.Truth.{annotated_true, is_model_of_problem}
use Rattle.clausal_form.specs.FormFunctions.{is_predicate_in, IsHerbrandRefuted}
use Rattle.clausal_form.proofs.AboutDerivations.RefutationLemmas.{accepted_derivations_refute}
use Rattle.laws_meaning.specs.Meaning.{InterpretsForm, FormTrue, axioms_true, conjecture_true}
use Rattle.laws_meaning.specs.Laws.{RefutedProblemsHaveNoModel, RefutedConjecturesFollow, RefutedAxiomsAreUnsatisfiable, AcceptedDerivationsProve}
use Rattle.laws_meaning.proofs.AboutForms.ExtendedLemmas.{models_extend}

-- ---- ground instances

each-there : (j : Interpretation) (cs : List TreeClause) → AllByRecursion (HoldsIn j) cs → All (HoldsIn j) cs
each-there j [] h k d within = absurd (omega (arith, within))
each-there j (c ∷ cs) h zero d within = h.0
each-there j (c ∷ cs) h (suc k) d within = each-there j cs h.1 k d (omega (arith, within))

clause-there : (j : Interpretation) (cs : List TreeClause) (c : TreeClause) → AllByRecursion (HoldsIn j) cs → Contains cs c → HoldsIn j c
clause-there j cs c h k = subst (HoldsIn j) k.2 (each-there j cs h k.0 c k.1)

-- a form that is true isn't refuted
not_refuted : (fs : List Annotated) (j : Interpretation) → IsHerbrandRefuted fs → InterpretsForm fs j → FormTrue fs j → ⊥
not_refuted fs j r proper h = true≢false (sym all_true ∙ r.refuted.refuted j proper)
  where
    values : (g : GroundClause) → (x : InstanceOf r.own.functions (Contains (clausal_form fs).clauses) g) → (v : ℕ) → tree_value j no_values ((x.is_instance).trees v) < j.size
    values g x v =
        function_term-value (is_predicate_in (clausal_form fs).symbols) j no_values ((x.is_instance).trees v) proper (λ w. proper.has_value)
        (ground_trees_are_function_terms (is_predicate_in (clausal_form fs).symbols) r.own.functions ((x.is_instance).trees v) ((x.is_instance).trees_ground v))

    one_true : (g : GroundClause) → InstanceOf r.own.functions (Contains (clausal_form fs).clauses) g → clause_true j g ≡ true
    one_true g x =
        ap (clause_true j) (x.is_instance).literals
        ∙ truth_of_instances j no_values (x.is_instance).trees (x.clause).literals
        ∙ clause-there j (clausal_form fs).clauses x.clause h x.holds (λ v. tree_value j no_values ((x.is_instance).trees v)) (values g x)

    all_true : clauses_true j r.refuted.by ≡ true
    all_true = list_all-from_AllPass (clause_true j) r.refuted.by (λ k d within. one_true (get_or r.refuted.by k d) (r.refuted.instances k d within))

pub refuted_problems_have_no_model : RefutedProblemsHaveNoModel
refuted_problems_have_no_model fs i c r p =
    false_from_ne_true (is_model_of_problem i fs)
    (λ model. let e = models_extend fs i c p model in not_refuted fs e.0 r e.1 e.3)

-- ---- consequence

-- where the axioms are true and no conjecture is, the formulas are as the form has them
as-model :
    (i : Interpretation) (known : List Symbol) (fs : List Annotated)
    → list_all (λ (a : Annotated). is_conjecture a.role || annotated_true known i a) fs ≡ true
    → list_any (λ (a : Annotated). is_conjecture a.role && annotated_true known i a) fs ≡ false
    → list_all (λ (a : Annotated). beq (annotated_true known i a) (not (is_conjecture a.role))) fs ≡ true
as-model i known [] h k = refl
as-model i known (a ∷ fs) h k =
    let axioms =
    and_parts (is_conjecture a.role || annotated_true known i a) (list_all (λ (b : Annotated). is_conjecture b.role || annotated_true known i b) fs) h in
    let others =
    or_parts (is_conjecture a.role && annotated_true known i a) (list_any (λ (b : Annotated). is_conjecture b.role && annotated_true known i b) fs) k in
    and_from (beq (annotated_true known i a) (not (is_conjecture a.role)))
    (list_all (λ (b : Annotated). beq (annotated_true known i b) (not (is_conjecture b.role))) fs)
    (by (is_conjecture a.role) (annotated_true known i a) axioms.0 others.0) (as-model i known fs axioms.1 others.1)
  where
    by : (b c : Bool) → (b || c) ≡ true → (b && c) ≡ false → beq c (not b) ≡ true
    by true true e f = absurd (true≢false f)
    by true false e f = refl
    by false true e f = refl
    by false false e f = absurd (true≢false (sym e))

pub refuted_conjectures_follow : RefutedConjecturesFollow
refuted_conjectures_follow fs c r i p axioms =
    true_from_ne_false (conjecture_true i fs)
    (λ none.
    true≢false (sym (as-model i (problem_symbols fs) fs axioms none) ∙ refuted_problems_have_no_model fs i c r p))

-- without a conjecture none is true
no-conjecture :
    (i : Interpretation) (known : List Symbol) (fs : List Annotated)
    → list_any (λ (a : Annotated). is_conjecture a.role) fs ≡ false
    → list_any (λ (a : Annotated). is_conjecture a.role && annotated_true known i a) fs ≡ false
no-conjecture i known [] h = refl
no-conjecture i known (a ∷ fs) h =
    let parts = or_parts (is_conjecture a.role) (list_any (λ (b : Annotated). is_conjecture b.role) fs) h in
    or_from (is_conjecture a.role && annotated_true known i a) (list_any (λ (b : Annotated). is_conjecture b.role && annotated_true known i b) fs)
    (and_left (is_conjecture a.role) (annotated_true known i a) parts.0) (no-conjecture i known fs parts.1)

pub refuted_axioms_are_unsatisfiable : RefutedAxiomsAreUnsatisfiable
refuted_axioms_are_unsatisfiable fs c none r i p =
    false_from_ne_true (axioms_true i fs)
    (λ axioms. true≢false (sym (refuted_conjectures_follow fs c r i p axioms) ∙ no-conjecture i (problem_symbols fs) fs none))

pub accepted_derivations_prove : AcceptedDerivationsProve
accepted_derivations_prove fs bytes count c accepted =
    refuted_conjectures_follow fs c (accepted_derivations_refute fs bytes count accepted)
