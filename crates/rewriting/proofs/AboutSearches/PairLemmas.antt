-- The substitution of a matcher's pairs is a matcher, and others put in the same.
use Rattle.std.proofs.Common.{◌≡◌, ℕ, Bool, true, false, ◌==◌, ◌||◌, List, [], ◌∷◌, ◌++◌, refl, ap, sym, ◌∙◌, subst, ⊎_elim}
use Rattle.std.specs.Prelude.{Option, None, Some, All, unwrap_or, IsTrue}
use Rattle.std.specs.List.{list_any, list_all}
use Rattle.std.proofs.lemmas.Bool.{cases_Bool, cond-true, cond-false, eq-eqb, eqb-true, or_cases, and_parts, true≢false}
use Rattle.std.proofs.lemmas.List.Elements.{All-nil, All-cons}
use Rattle.std.proofs.lemmas.List.Folds.{list_any-append}
use Rattle.fol_base.specs.Tree.{Tree, variable, application, Trees, no_trees, tree_then, tree_variables, trees_variables}
use Rattle.fol_base.specs.Instance.{Substitution, instance, instances}
use Rattle.fol_base.specs.Clause.{TreeLiteral}
use Rattle.fol_base.specs.Sides.{side_of, other_side_of}
use Rattle.fol_base.specs.Unifier.{IsMatcher}
use Rattle.fol_base.specs.declared.clause.Side.{Side}
use Rattle.fol_base.proofs.AboutInstances.InstanceLemmas.{instances_agree}
use Rattle.unifier.specs.Matching.{variables_of, term_for, by_pairs, NoVariableTwice, HasPairs, with_further, IsMatched}
use Rattle.rewriting.specs.Units.{has_other_variables}
use Rattle.list_lemmas.proofs.Bools.{neither-true}
use Rattle.list_lemmas.proofs.Numbers.{differs-turned}

-- ---- no variable twice

abbrev Distinct : List ℕ → Type 0
Distinct [] = Unit {0}
Distinct (v ∷ vs) = (list_any (λ w. v == w) vs ≡ false) × Distinct vs

distinct-push : (vs : List ℕ) (w : ℕ) → list_any (λ v. w == v) vs ≡ false → Distinct vs → Distinct (vs ++ w ∷ [])
distinct-push [] w h d = (refl, tt)
distinct-push (v ∷ vs) w h d =
    let both : ((w == v) ≡ false) × (list_any (λ u. w == u) vs ≡ false) = neither-true (w == v) (list_any (λ u. w == u) vs) h in (
      list_any-append (λ u. v == u) vs (w ∷ [])
          ∙ ap (λ (b : Bool). b || ((v == w) || false)) d.0
          ∙ ap (λ (b : Bool). b || false) (differs-turned w v both.0),
      distinct-push vs w both.1 d.1,
    )

distinct-further : (vs ws : List ℕ) → Distinct vs → Distinct (with_further vs ws)
distinct-further vs [] d = d
distinct-further vs (w ∷ ws) d =
    ⊎_elim
    (λ yes. subst (λ us. Distinct (with_further us ws)) (sym (cond-true (list_any (λ v. w == v) vs) vs (vs ++ w ∷ []) yes)) (distinct-further vs ws d))
    (λ no.
    subst (λ us. Distinct (with_further us ws)) (sym (cond-false (list_any (λ v. w == v) vs) vs (vs ++ w ∷ []) no))
    (distinct-further (vs ++ w ∷ []) ws (distinct-push vs w no d)))
    (cases_Bool (list_any (λ v. w == v) vs))

absent : (v : ℕ) (ps : List (ℕ × Tree)) → list_any (λ w. v == w) (variables_of ps) ≡ false → term_for v ps ≡ None
absent v [] h = refl
absent v (p ∷ ps) h =
    let both = neither-true (v == p.0) (list_any (λ w. v == w) (variables_of ps)) h in
    cond-false (v == p.0) (Some p.1) (term_for v ps) both.0 ∙ absent v ps both.1

no_variable_twice : (ps : List (ℕ × Tree)) → Distinct (variables_of ps) → NoVariableTwice ps
no_variable_twice [] d = tt
no_variable_twice (p ∷ ps) d = (absent p.0 ps d.0, no_variable_twice ps d.1)

own-terms :
    (ps : List (ℕ × Tree)) (σ : Substitution)
    → NoVariableTwice ps → ((v : ℕ) (t : Tree) → term_for v ps ≡ Some t → σ v ≡ t) → HasPairs ps σ
own-terms [] σ n h = tt
own-terms (p ∷ ps) σ n h = (
  h p.0 p.1 (cond-true (p.0 == p.0) (Some p.1) (term_for p.0 ps) (eq-eqb p.0 p.0 refl)),
  own-terms ps σ n.1
      (λ v t e.
      ⊎_elim
      (λ same.
      let wrong : None ≡ Some t = sym (ap (λ w. term_for w ps) (eqb-true v p.0 same) ∙ n.0) ∙ e in
      absurd cc)
      (λ other. h v t (cond-false (v == p.0) (Some p.1) (term_for v ps) other ∙ e))
      (cases_Bool (v == p.0))),
)

-- ---- matchers

pub pairs-match : (pattern target : Tree) (found : List (ℕ × Tree)) → IsMatched [] pattern target found → IsMatcher pattern target (by_pairs found)
pairs-match pattern target found m =
    let twice : NoVariableTwice found = no_variable_twice found (subst Distinct (sym m.covers) (distinct-further [] (tree_variables pattern) tt)) in
    let own : HasPairs found (by_pairs found) =
    own-terms found (by_pairs found) twice (λ v t e. ap (λ (o : Option Tree). unwrap_or o (variable v)) e) in
    ((m.exact (by_pairs found)).0 own).1

-- where two substitutions make the same of a tree, they put in the same for each of its variables
mutual
  agree-at :
      (σ τ : Substitution) (t : Tree) (v : ℕ)
      → instance σ t ≡ instance τ t → list_any (λ w. v == w) (tree_variables t) ≡ true → σ v ≡ τ v
  agree-at σ τ (variable w) v same there =
      ⊎_elim
      (λ yes. ap σ (eqb-true v w yes) ∙ same ∙ ap τ (sym (eqb-true v w yes)))
      (λ no. absurd (true≢false (sym no)))
      (or_cases (v == w) false there)
  agree-at σ τ (application f ts) v same there =
      let below : instances σ ts ≡ instances τ ts = cc in
      agree-in σ τ ts v below there

  agree-in :
      (σ τ : Substitution) (ts : Trees) (v : ℕ)
      → instances σ ts ≡ instances τ ts → list_any (λ w. v == w) (trees_variables ts) ≡ true → σ v ≡ τ v
  agree-in σ τ no_trees v same there = absurd (true≢false (sym there))
  agree-in σ τ (tree_then t ts) v same there =
      let first : instance σ t ≡ instance τ t = cc in
      let rest : instances σ ts ≡ instances τ ts = cc in
      ⊎_elim
      (λ here. agree-at σ τ t v first here)
      (λ later. agree-in σ τ ts v rest later)
      (or_cases (list_any (λ w. v == w) (tree_variables t)) (list_any (λ w. v == w) (trees_variables ts))
      (sym (list_any-append (λ w. v == w) (tree_variables t) (trees_variables ts)) ∙ there))

all-tested : (P : ℕ → Type 0) (p : ℕ → Bool) → ((v : ℕ) → p v ≡ true → P v) → (vs : List ℕ) → list_all p vs ≡ true → All P vs
all-tested P p from [] h = All-nil P
all-tested P p from (v ∷ vs) h =
    let both = and_parts (p v) (list_all p vs) h in
    All-cons P v vs (from v both.0) (all-tested P p from vs both.1)

-- so they make the same of an equation's other side
pub matchers-agree :
    (e : TreeLiteral) (s : Side) (old : Tree) (σ τ : Substitution)
    → IsMatcher (side_of s e) old σ → IsMatcher (side_of s e) old τ → IsTrue (has_other_variables s e)
    → instance σ (other_side_of s e) ≡ instance τ (other_side_of s e)
matchers-agree e s old σ τ one other covered =
    instances_agree σ τ (other_side_of s e)
    (all-tested (λ v. σ v ≡ τ v) (λ v. list_any (λ w. v == w) (tree_variables (side_of s e)))
    (λ v there. agree-at σ τ (side_of s e) v (one ∙ sym other) there)
    (tree_variables (other_side_of s e)) covered)
