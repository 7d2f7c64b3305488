-- What `unify` puts in has no variables but those of the two terms: another one stands for itself, and so the unifier that puts
-- `$true` in for it is no instance.
use Rattle.std.proofs.Common.{◌≡◌, ◌⊎◌, ℕ, zero, suc, ◌+◌, ◌*◌, Bool, true, false, ◌==◌, cond, List, [], ◌∷◌, Some, map, refl, ap, sym, ◌∙◌, subst, inl, inr, ⊎_elim, eq-eqb, arith}
use Rattle.std.specs.List.{list_any}
use Rattle.std.proofs.lemmas.Bool.{or_left, or_right, or_parts, or_cases, cond-true, cond-false, eqb-true, false_from_ne_true, true_from_ne_false, true≢false}
use Rattle.std.proofs.lemmas.List.Folds.{list_any-append}
use Rattle.fol_base.specs.Tree.{Tree, variable, application, Trees, no_trees, tree_then, true_tree, tree_variables, trees_variables}
use Rattle.fol_base.specs.Instance.{Substitution, instance, instances}
use Rattle.fol_base.specs.declared.clause.Side.{Side}
use Rattle.fol_base.specs.declared.clause.Side.TheVariants.{Left, Right}
use Rattle.fol_base.proofs.AboutInstances.InstanceLemmas.{Agree, instance-agree}
use Rattle.unifier.specs.SolvedForm.{SolvedForm, code_of, substitution_of}
use Rattle.unifier.specs.Bindings.{IsUnified, LeavesOthers, occurs}
use Rattle.unifier.specs.Additions.{is_variable_of, UnifiersAddNoVariables}

-- ---- another term for one variable

abbrev changed : Substitution → ℕ → Substitution
changed σ u v = cond (v == u) true_tree (σ v)

changed-there : (σ : Substitution) (u : ℕ) → changed σ u u ≡ true_tree
changed-there σ u = cond-true (u == u) true_tree (σ u) (eq-eqb u u refl)

changed-elsewhere : (σ : Substitution) (u : ℕ) (vs : List ℕ) → list_any (λ w. w == u) vs ≡ false → Agree (changed σ u) σ vs
changed-elsewhere σ u [] h = tt
changed-elsewhere σ u (v ∷ vs) h =
    let both = or_parts (v == u) (list_any (λ w. w == u) vs) h in
    (cond-false (v == u) true_tree (σ v) both.0, changed-elsewhere σ u vs both.1)

-- it doesn't matter where the variable doesn't occur
changed-same : (σ : Substitution) (u : ℕ) (t : Tree) → occurs u t ≡ false → instance (changed σ u) t ≡ instance σ t
changed-same σ u t h = instance-agree (changed σ u) σ t (changed-elsewhere σ u (tree_variables t) h)

-- ---- what a tree is the instance of itself by

mutual
  fixed : (δ : Substitution) (w : ℕ) (t : Tree) → t ≡ instance δ t → occurs w t ≡ true → variable w ≡ δ w
  fixed δ w (variable v) e h =
      ⊎_elim
      (λ same. subst (λ u. variable u ≡ δ u) (eqb-true v w same) e)
      (λ none. absurd (true≢false (sym none)))
      (or_cases (v == w) false h)
  fixed δ w (application f ts) e h = let arguments : ts ≡ instances δ ts = cc in all-fixed δ w ts arguments h

  all-fixed : (δ : Substitution) (w : ℕ) (ts : Trees) → ts ≡ instances δ ts → list_any (λ u. u == w) (trees_variables ts) ≡ true → variable w ≡ δ w
  all-fixed δ w no_trees e h = absurd (true≢false (sym h))
  all-fixed δ w (tree_then t ts) e h =
      let here : t ≡ instance δ t = cc in
      let later : ts ≡ instances δ ts = cc in
      ⊎_elim
      (λ first. fixed δ w t here first)
      (λ others. all-fixed δ w ts later others)
      (or_cases (occurs w t) (list_any (λ u. u == w) (trees_variables ts))
      (sym (list_any-append (λ u. u == w) (tree_variables t) (trees_variables ts)) ∙ h))

not-changed : (δ : Substitution) (w : ℕ) (t : Tree) → t ≡ instance δ t → occurs w t ≡ true → true_tree ≡ δ w → ⊥
not-changed δ w t e h put = let wrong : variable w ≡ true_tree = fixed δ w t e h ∙ sym put in cc

-- ---- the variables of the two terms by their numbers

mapped : (f : ℕ → ℕ) (u : ℕ) (vs : List ℕ) → list_any (λ w. w == u) vs ≡ true → list_any (λ w. w == f u) (map f vs) ≡ true
mapped f u [] h = absurd (true≢false (sym h))
mapped f u (v ∷ vs) h =
    ⊎_elim
    (λ same. or_left (f v == f u) (list_any (λ w. w == f u) (map f vs)) (eq-eqb (f v) (f u) (ap f (eqb-true v u same))))
    (λ later. or_right (f v == f u) (list_any (λ w. w == f u) (map f vs)) (mapped f u vs later))
    (or_cases (v == u) (list_any (λ w. w == u) vs) h)

module _ (apart : Bool) (s t : Tree) where
  lefts : List ℕ
  lefts = map (code_of apart Left) (tree_variables s)

  rights : List ℕ
  rights = map (code_of apart Right) (tree_variables t)

  no-left : (u : ℕ) → is_variable_of apart s t (code_of apart Left u) ≡ false → occurs u s ≡ false
  unfolding lefts rights
  no-left u no_ =
      false_from_ne_true (occurs u s) (λ h.
      true≢false
      (sym
      (list_any-append (λ w. w == code_of apart Left u) lefts rights
      ∙ or_left (list_any (λ w. w == code_of apart Left u) lefts) (list_any (λ w. w == code_of apart Left u) rights)
      (mapped (code_of apart Left) u (tree_variables s) h))
      ∙ no_))

  no-right : (u : ℕ) → is_variable_of apart s t (code_of apart Right u) ≡ false → occurs u t ≡ false
  unfolding lefts rights
  no-right u no_ =
      false_from_ne_true (occurs u t) (λ h.
      true≢false
      (sym
      (list_any-append (λ w. w == code_of apart Right u) lefts rights
      ∙ or_right (list_any (λ w. w == code_of apart Right u) lefts) (list_any (λ w. w == code_of apart Right u) rights)
      (mapped (code_of apart Right) u (tree_variables t) h))
      ∙ no_))

  -- one that is a variable of them and one that isn't differ
  differ : (side : Side) (v u : ℕ) → is_variable_of apart s t (code_of apart side v) ≡ true → is_variable_of apart s t (code_of apart side u) ≡ false → (v == u) ≡ false
  differ side v u yes_ no_ =
      false_from_ne_true (v == u) (λ same.
      true≢false (sym yes_ ∙ ap (λ w. is_variable_of apart s t (code_of apart side w)) (eqb-true v u same) ∙ no_))

-- ---- not apart

together :
    (s t : Tree) (b : SolvedForm) → IsUnified false s t (Some b) → LeavesOthers false s t b
    → (v w : ℕ) → is_variable_of false s t v ≡ true → occurs w (substitution_of b Left v) ≡ true → is_variable_of false s t w ≡ true
together s t b unified others v w there h =
    let σ : Substitution = substitution_of b Left in
    true_from_ne_false (is_variable_of false s t w) (λ no_.
    let in_left : occurs w s ≡ false = no-left false s t w no_ in
    let in_right : occurs w t ≡ false = no-right false s t w no_ in
    let by = unified.0.is_general (changed σ w) (changed-same σ w s in_left ∙ unified.0.unifies ∙ sym (changed-same σ w t in_right)) in
    not-changed by.0 w (σ v)
    (sym (cond-false (v == w) true_tree (σ v) (differ false s t Left v w there no_)) ∙ by.1 v)
    h
    (sym (changed-there σ w) ∙ by.1 w ∙ ap (instance by.0) (others w in_left in_right)))

-- ---- apart

module _ (s t : Tree) (b : SolvedForm) (unified : IsUnified true s t (Some b)) (others : LeavesOthers true s t b) where
  abbrev σ : Substitution
  σ = substitution_of b Left

  abbrev τ : Substitution
  τ = substitution_of b Right

  -- what turns `$true` in for a number that no variable of the two terms has, and leaves what is put in for theirs
  abbrev Changes : ℕ → Type 0
  Changes w =
      (δ : Substitution) × (true_tree ≡ δ w)
      × ((v : ℕ) → is_variable_of true s t (code_of true Left v) ≡ true → σ v ≡ instance δ (σ v))
      × ((v : ℕ) → is_variable_of true s t (code_of true Right v) ≡ true → τ v ≡ instance δ (τ v))

  changes-left : (u : ℕ) → is_variable_of true s t (code_of true Left u) ≡ false → Changes (code_of true Left u)
  changes-left u no_ =
      let absent : occurs u s ≡ false = no-left true s t u no_ in
      let by = unified.is_general (changed σ u) τ (changed-same σ u s absent ∙ unified.unifies) in (
        by.0,
        sym (changed-there σ u) ∙ by.1 u ∙ ap (instance by.0) (others.0 u absent),
        (λ v there. sym (cond-false (v == u) true_tree (σ v) (differ true s t Left v u there no_)) ∙ by.1 v),
        (λ v there. by.2 v),
      )

  changes-right : (u : ℕ) → is_variable_of true s t (code_of true Right u) ≡ false → Changes (code_of true Right u)
  changes-right u no_ =
      let absent : occurs u t ≡ false = no-right true s t u no_ in
      let by = unified.is_general σ (changed τ u) (unified.unifies ∙ sym (changed-same τ u t absent)) in (
        by.0,
        sym (changed-there τ u) ∙ by.2 u ∙ ap (instance by.0) (others.1 u absent),
        (λ v there. by.1 v),
        (λ v there. sym (cond-false (v == u) true_tree (τ v) (differ true s t Right v u there no_)) ∙ by.2 v),
      )

  halves : (w : ℕ) → ((u : ℕ) × (w ≡ 2 * u)) ⊎ ((u : ℕ) × (w ≡ 2 * u + 1))
  halves zero = inl (0, refl)
  halves (suc w) =
      ⊎_elim
      (λ even. let e : w ≡ 2 * even.0 = even.1 in inr (even.0, omega (arith, e)))
      (λ odd. let e : w ≡ 2 * odd.0 + 1 = odd.1 in inl (odd.0 + 1, omega (arith, e)))
      (halves w)

  changes : (w : ℕ) → is_variable_of true s t w ≡ false → Changes w
  changes w no_ =
      ⊎_elim
      (λ even. subst Changes (sym even.1) (changes-left even.0 (ap (is_variable_of true s t) (sym even.1) ∙ no_)))
      (λ odd. subst Changes (sym odd.1) (changes-right odd.0 (ap (is_variable_of true s t) (sym odd.1) ∙ no_)))
      (halves w)

  on_left :
      (v w : ℕ) → is_variable_of true s t (code_of true Left v) ≡ true → occurs w (σ v) ≡ true → is_variable_of true s t w ≡ true
  on_left v w there h =
      true_from_ne_false (is_variable_of true s t w) (λ no_.
      let by = changes w no_ in not-changed by.0 w (σ v) (by.2 v there) h by.1)

  on_right :
      (v w : ℕ) → is_variable_of true s t (code_of true Right v) ≡ true → occurs w (τ v) ≡ true → is_variable_of true s t w ≡ true
  on_right v w there h =
      true_from_ne_false (is_variable_of true s t w) (λ no_.
      let by = changes w no_ in not-changed by.0 w (τ v) (by.3 v there) h by.1)

pub unifiers_add_no_variables : UnifiersAddNoVariables
unifiers_add_no_variables true s t b unified others Left v w there h = on_left s t b unified others v w there h
unifiers_add_no_variables true s t b unified others Right v w there h = on_right s t b unified others v w there h
unifiers_add_no_variables false s t b unified others Left v w there h = together s t b unified others v w there h
unifiers_add_no_variables false s t b unified others Right v w there h =
    together s t b unified others v w there (ap (occurs w) (sym (unified.1 v)) ∙ h)
