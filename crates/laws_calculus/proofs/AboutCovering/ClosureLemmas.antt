-- Conclusions of the named inferences among clauses cover the conclusions of the ground inferences among them.
use Rattle.std.proofs.Common.{◌≡◌, ℕ, Bool, true, List, [], Some, sym, ◌∙◌, subst, ⊎_elim, Option, None, false}
use Rattle.std.specs.Prelude.{Contains}
use Rattle.std.specs.List.{list_any}
use Rattle.std.proofs.lemmas.Bool.{or_left, cases_Bool, cond-true, cond-false}
use Rattle.std.proofs.lemmas.Option.{none-some, same_Some}
use Rattle.std.proofs.lemmas.List.Elements.{All-nil}
use Rattle.fol_base.specs.Clause.{TreeClause}
use Rattle.fol_base.specs.Symbols.{FunctionSymbols}
use Rattle.fol_base.specs.Ground.{GroundClause}
use Rattle.fol_base.specs.Interpretation.{no_values}
use Rattle.fol_base.specs.Order.{equivalent_literals, clause_greater}
use Rattle.fol_base.specs.GroundInference.{GroundSuperposition, GroundResolution, GroundFactoring, GroundConclusion}
use Rattle.fol_base.specs.Covered.{InstanceOf, Covered}
use Rattle.fol_base.proofs.WorkedExamples.TestLemmas.{list_any-weaker}
use Rattle.fol_base.proofs.AboutInstances.CoverageLemmas.{Covered-instance}
use Rattle.kernel_steps.specs.Derivation.{complement}
use Rattle.kernel_steps.specs.Inference.{NamedSuperposition, NamedResolution, NamedFactoring, makes_tautology}
use Rattle.kernel_steps.specs.declared.key.Key.TheVariants.{Para, Refl, Factor}
use Rattle.laws_calculus.specs.Lifting.{has_equal_sides, among, IsMember, HasConclusionsOf, GroundConclusionsCovered, GroundConclusionsListed}
use Rattle.laws_calculus.specs.Coverage.{CoversEach, CoversInstancesOf}
use Rattle.laws_calculus.proofs.AboutCovering.CoverLemmas.{tautology-true}
use Rattle.laws_calculus.proofs.AboutLifting.LiftRules.{resolutions_lift, factorings_lift, superpositions_lift}
use Rattle.laws_calculus.proofs.AboutCovering.ReachLemmas.{resolutions_reach_all, factorings_reach_all, superpositions_reach_all}
use Rattle.fol_base.specs.declared.clause.Side.{Side}
use Rattle.fol_base.specs.Selection.{SelectionMode}

-- a ground clause with a literal `t = t` is covered by anything
equal_sides_covered :
    (is_predicate : ℕ → Bool) (functions : FunctionSymbols is_predicate) (Holds : TreeClause → Type 0) (g : GroundClause)
    → list_any has_equal_sides g ≡ true → Covered functions Holds g
equal_sides_covered is_predicate functions Holds g h =
    let c : TreeClause = record { literals = g; names = [] } in
    record {
      by = [];
      instances = All-nil (InstanceOf functions Holds);
      none_greater = All-nil (λ x. clause_greater x g ≡ false);
      entailed = λ i ok all.
          tautology-true i no_values c
          (list_any-weaker has_equal_sides (makes_tautology g)
          (λ l equal. or_left (has_equal_sides l) (list_any (equivalent_literals (complement l)) g) equal) g h);
    }

-- for each inference that is named among the clauses of one predicate, one of its conclusions satisfies another
pub record HasConclusions (is_predicate : ℕ → Bool) (mode : SelectionMode) (Holds : TreeClause → Type 0) (Concludes : TreeClause → Type 0) : Type 0 where
  pub superposes :
      (first second : TreeClause) → Holds first → Holds second → (i : ℕ) (s : Side) (j : ℕ) (z : Side) (place : List ℕ) (d : TreeClause)
      → NamedSuperposition is_predicate mode first i s second j z place d
      → (e : TreeClause) × Concludes e × NamedSuperposition is_predicate mode first i s second j z place e
  pub resolves :
      (c : TreeClause) → Holds c → (i : ℕ) (d : TreeClause) → NamedResolution mode c i d → (e : TreeClause) × Concludes e × NamedResolution mode c i e
  pub factors :
      (c : TreeClause) → Holds c → (i : ℕ) (s : Side) (j : ℕ) (z : Side) (d : TreeClause)
      → NamedFactoring is_predicate mode c i s j z d → (e : TreeClause) × Concludes e × NamedFactoring is_predicate mode c i s j z e

-- Where the instances of these conclusions are covered, so is the conclusion of each ground inference.
pub conclusion_covered :
    (is_predicate : ℕ → Bool) (functions : FunctionSymbols is_predicate) (mode : SelectionMode) (Holds By : TreeClause → Type 0) (g : GroundClause)
    → HasConclusions is_predicate mode Holds (CoversEach functions By) → GroundConclusion functions mode Holds g → Covered functions By g
conclusion_covered is_predicate functions mode Holds By g closed conclusion =
    ⊎_elim
    (λ two.
    let first : TreeClause = two.0 in
    let second : TreeClause = two.1 in
    let r : GroundSuperposition functions mode first second g = two.4 in
    ⊎_elim
    (λ named.
    let found = closed.superposes first second two.2 two.3 r.i r.from_side r.j r.into_side r.place named.clause named.holds in
    found.1 g (superpositions_reach_all is_predicate functions mode first second g r found.0 found.2))
    (λ equal. equal_sides_covered is_predicate functions By g equal.2)
    (superpositions_lift is_predicate functions mode first second g r))
    (λ one.
    ⊎_elim
    (λ resolving.
    let c : TreeClause = resolving.0 in
    let r : GroundResolution functions mode c g = resolving.2 in
    let named = resolutions_lift is_predicate functions mode c g r in
    let found = closed.resolves c resolving.1 r.i named.clause named.holds in
    found.1 g (resolutions_reach_all is_predicate functions mode c g r found.0 found.2))
    (λ factoring.
    let c : TreeClause = factoring.0 in
    let r : GroundFactoring functions mode c g = factoring.2 in
    let named = factorings_lift is_predicate functions mode c g r in
    let found = closed.factors c factoring.1 r.i r.side_i r.j r.side_j named.clause named.holds in
    found.1 g (factorings_reach_all is_predicate functions mode c g r found.0 found.2))
    one)
    conclusion

-- ---- by the members' numbers

-- what the members are looked up by gives their clauses
among-there :
    (is_member : ℕ → Bool) (clauses : ℕ → Option TreeClause) (n : ℕ) (c : TreeClause)
    → among is_member clauses n ≡ Some c → clauses n ≡ Some c
among-there is_member clauses n c there =
    ⊎_elim
    (λ e. sym (cond-true (is_member n) (clauses n) None e) ∙ there)
    (λ e. absurd (none-some c (sym (cond-false (is_member n) (clauses n) None e) ∙ there)))
    (cases_Bool (is_member n))

numbered_conclusions :
    (is_predicate : ℕ → Bool) (mode : SelectionMode) (is_member : ℕ → Bool) (clauses : ℕ → Option TreeClause) (Concludes : TreeClause → Type 0)
    → HasConclusionsOf is_predicate mode is_member clauses Concludes
    → HasConclusions is_predicate mode (IsMember is_member clauses) Concludes
numbered_conclusions is_predicate mode is_member clauses Concludes closed = record {
  superposes = λ first second m n i s j z place d named.
      let found =
      closed (Para m.0 i s n.0 j z place) d
      (record { first_clause = first; first_there = m.1; second_clause = second; second_there = n.1; infers = named }) in
      let it = found.2 in
      let first_is : it.first_clause ≡ first =
      same_Some it.first_clause first (sym it.first_there ∙ among-there is_member clauses m.0 first m.1) in
      let second_is : it.second_clause ≡ second =
      same_Some it.second_clause second (sym it.second_there ∙ among-there is_member clauses n.0 second n.1) in (
        found.0,
        found.1,
        subst (λ (q : TreeClause). NamedSuperposition is_predicate mode first i s q j z place found.0) second_is
            (subst (λ (p : TreeClause). NamedSuperposition is_predicate mode p i s it.second_clause j z place found.0) first_is it.infers),
      );
  resolves = λ c m i d named.
      let found = closed (Refl m.0 i) d (record { clause = c; there = m.1; infers = named }) in
      let it = found.2 in
      let same : it.clause ≡ c = same_Some it.clause c (sym it.there ∙ among-there is_member clauses m.0 c m.1) in
      (found.0, found.1, subst (λ (p : TreeClause). NamedResolution mode p i found.0) same it.infers);
  factors = λ c m i s j z d named.
      let found = closed (Factor m.0 i s j z) d (record { clause = c; there = m.1; infers = named }) in
      let it = found.2 in
      let same : it.clause ≡ c = same_Some it.clause c (sym it.there ∙ among-there is_member clauses m.0 c m.1) in
      (found.0, found.1, subst (λ (p : TreeClause). NamedFactoring is_predicate mode p i s j z found.0) same it.infers);
}

pub ground_conclusions_covered : GroundConclusionsCovered
ground_conclusions_covered is_predicate functions mode is_member clauses ds g closed conclusion =
    conclusion_covered is_predicate functions mode (IsMember is_member clauses) (Contains ds) g
    (numbered_conclusions is_predicate mode is_member clauses (CoversInstancesOf functions ds) closed) conclusion

pub ground_conclusions_listed : GroundConclusionsListed
ground_conclusions_listed is_predicate functions mode is_member clauses ds g closed conclusion =
    ground_conclusions_covered is_predicate functions mode is_member clauses ds g
    (λ key d it.
    let found = closed key d it in
    (found.0, (λ h made. Covered-instance is_predicate functions (Contains ds) found.0 h found.1 made), found.2))
    conclusion
