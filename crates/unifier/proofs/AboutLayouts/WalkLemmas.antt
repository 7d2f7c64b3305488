-- The walk down two terms, step by step.
use Rattle.std.proofs.Common.{◌≡◌, ℕ, suc, ◌+◌, ◌<◌, ◌≤◌, Bool, true, None, Some, List, [], ◌∷◌, length, map, drop, get_or, refl, ap, ap₂, sym, ◌∙◌, subst, arith, drop-cons}
use Rattle.std.specs.List.{list_all}
use Rattle.std.proofs.lemmas.Bool.{and_parts, and_from}
use Rattle.std.proofs.lemmas.List.{drop_all}
use Rattle.std.proofs.lemmas.List.Folds.{list_all-append}
use Rattle.fol_base.specs.Tree.{Tree, variable, application, Trees, no_trees, tree_then, tree_variables, trees_variables, trees_of}
use Rattle.fol_base.specs.Term.{tree_of}
use Rattle.fol_base.specs.declared.term.Term.{Term}
use Rattle.fol_base.specs.Instance.{Substitution, instance, instances}
use Rattle.fol_base.specs.declared.clause.Side.{Side}
use Rattle.unifier.specs.declared.equation.Equations.{Equations}
use Rattle.unifier.specs.declared.agreeing.Walked.{Walked}
use Rattle.unifier.specs.declared.agreeing.Walked.TheVariants.{Agreed, Clashed, Stopped}
use Rattle.unifier.specs.SolvedForm.{code_of, of_side}
use Rattle.unifier.specs.Equations.{Item, ItemPasses, item_under, bound_in, noted_of, Solves, EquationsPass, IsWithEquation, IsWithNoted}
use Rattle.unifier.specs.Agreeing.{WalkDone, Agrees, AgreesWithVariable, ItemsPass, AgreesInAll}
use Rattle.unifier.proofs.AboutEquations.EquationLemmas.{still-bound, either-bound}

-- ---- the same, said otherwise

changed :
    (apart : Bool) (old new : Equations) (Same Other : Substitution → Type 0) (Pass OtherPass : (ℕ → Bool) → Type 0) (answer : Walked)
    → ((θ : Substitution) → Solves apart θ old → Same θ → Other θ)
    → ((θ : Substitution) → Solves apart θ old → Other θ → Same θ)
    → ((test : ℕ → Bool) → EquationsPass apart test old → OtherPass test → Pass test)
    → ((test : ℕ → Bool) → EquationsPass apart test old → Pass test → OtherPass test)
    → WalkDone apart old new Same Pass answer → WalkDone apart old new Other OtherPass answer
changed apart old new Same Other Pass OtherPass Agreed there back pass unpass h = (
  (λ θ s. let r = h.0 θ s in (r.0, there θ r.0 r.1)),
  (λ θ s e. h.1 θ s (back θ s e)),
  (λ test p k. h.2 test p (pass test p k)),
  (λ test p. let r = h.3 test p in (r.0, unpass test r.0 r.1)),
)
changed apart old new Same Other Pass OtherPass Clashed there back pass unpass h = λ θ s e. h θ s (back θ s e)
changed apart old new Same Other Pass OtherPass Stopped there back pass unpass h = tt

variable-passes :
    (apart : Bool) (test : ℕ → Bool) (side : Side) (v w : ℕ) → w ≡ code_of apart side v → ItemPasses apart test (side, variable v) → test w ≡ true
variable-passes apart test side v w is h = ap test is ∙ (and_parts (test (code_of apart side v)) true h).0

passes-variable :
    (apart : Bool) (test : ℕ → Bool) (side : Side) (v w : ℕ) → w ≡ code_of apart side v → test w ≡ true → ItemPasses apart test (side, variable v)
passes-variable apart test side v w is h = and_from (test (code_of apart side v)) true (ap test (sym is) ∙ h) refl

-- ---- a variable and a tree

left-variable-at :
    (apart : Bool) (old new : Equations) (side : Side) (v w : ℕ) (b : Item) (answer : Walked)
    → w ≡ code_of apart side v → AgreesWithVariable apart old new w b answer → Agrees apart old new (side, variable v) b answer
left-variable-at apart old new side v w b answer is h =
    changed apart old new (λ θ. θ w ≡ item_under apart θ b) (λ θ. item_under apart θ (side, variable v) ≡ item_under apart θ b)
    (λ test. (test w ≡ true) × ItemPasses apart test b) (λ test. ItemPasses apart test (side, variable v) × ItemPasses apart test b) answer
    (λ θ s e. ap θ (sym is) ∙ e)
    (λ θ s e. ap θ is ∙ e)
    (λ test p k. (variable-passes apart test side v w is k.0, k.1))
    (λ test p k. (passes-variable apart test side v w is k.0, k.1))
    h

pub left-variable :
    (apart : Bool) (old new : Equations) (side : Side) (t : Tree) (v w : ℕ) (b : Item) (answer : Walked)
    → t ≡ variable v → w ≡ code_of apart side v → AgreesWithVariable apart old new w b answer → Agrees apart old new (side, t) b answer
left-variable apart old new side t v w b answer t_is is h =
    let P : Tree → Type 0 = λ u. Agrees apart old new (side, u) b answer in
    subst P (sym t_is) (left-variable-at apart old new side v w b answer is h)

right-variable-at :
    (apart : Bool) (old new : Equations) (side : Side) (v w : ℕ) (a : Item) (answer : Walked)
    → w ≡ code_of apart side v → AgreesWithVariable apart old new w a answer → Agrees apart old new a (side, variable v) answer
right-variable-at apart old new side v w a answer is h =
    changed apart old new (λ θ. θ w ≡ item_under apart θ a) (λ θ. item_under apart θ a ≡ item_under apart θ (side, variable v))
    (λ test. (test w ≡ true) × ItemPasses apart test a) (λ test. ItemPasses apart test a × ItemPasses apart test (side, variable v)) answer
    (λ θ s e. sym e ∙ ap θ is)
    (λ θ s e. ap θ is ∙ sym e)
    (λ test p k. (variable-passes apart test side v w is k.1, k.0))
    (λ test p k. (k.1, passes-variable apart test side v w is k.0))
    h

pub right-variable :
    (apart : Bool) (old new : Equations) (side : Side) (t : Tree) (v w : ℕ) (a : Item) (answer : Walked)
    → t ≡ variable v → w ≡ code_of apart side v → AgreesWithVariable apart old new w a answer → Agrees apart old new a (side, t) answer
right-variable apart old new side t v w a answer t_is is h =
    let P : Tree → Type 0 = λ u. Agrees apart old new a (side, u) answer in
    subst P (sym t_is) (right-variable-at apart old new side v w a answer is h)

-- a variable that is bound
pub with-bound :
    (apart : Bool) (old new : Equations) (w : ℕ) (a b : Item) (answer : Walked)
    → Some a ≡ bound_in old w → Agrees apart old new a b answer → AgreesWithVariable apart old new w b answer
with-bound apart old new w a b answer found h =
    changed apart old new (λ θ. item_under apart θ a ≡ item_under apart θ b) (λ θ. θ w ≡ item_under apart θ b)
    (λ test. ItemPasses apart test a × ItemPasses apart test b) (λ test. (test w ≡ true) × ItemPasses apart test b) answer
    (λ θ s e. s w a (sym found) ∙ e)
    (λ θ s e. sym (s w a (sym found)) ∙ e)
    (λ test p k. ((p.0 w a (sym found)).1, k.1))
    (λ test p k. ((p.0 w a (sym found)).0, k.1))
    h

-- ---- a variable that isn't bound

-- with itself: it is noted
pub with-itself :
    (apart : Bool) (old new : Equations) (w second : ℕ) (side : Side) (t : Tree) (v : ℕ)
    → t ≡ variable v → second ≡ code_of apart side v → second ≡ w → IsWithNoted old new w → AgreesWithVariable apart old new w (side, t) Agreed
with-itself apart old new w second side t v t_is is same h =
    let P : Tree → Type 0 = λ u. AgreesWithVariable apart old new w (side, u) Agreed in
    subst P (sym t_is) (
      (λ θ s. ((λ u b found. s u b (h.equations u ∙ found)), ap θ (sym same ∙ is))),
      (λ θ s e u b found. s u b (sym (h.equations u) ∙ found)),
      (λ test p k. (
        (λ u b found. p.0 u b (sym (h.equations u) ∙ found)),
        h.noted test ∙ and_from (list_all test (noted_of old)) (test w) p.1 k.0,
      )),
      (λ test p.
          let both = and_parts (list_all test (noted_of old)) (test w) (sym (h.noted test) ∙ p.1) in
          (((λ u b found. p.0 u b (h.equations u ∙ found)), both.0), (both.1, passes-variable apart test side v w (sym same ∙ is) both.1))),
    )

with-bound-variable-at :
    (apart : Bool) (old new : Equations) (w second : ℕ) (side : Side) (v : ℕ) (a : Item) (answer : Walked)
    → second ≡ code_of apart side v → bound_in old second ≡ Some a → AgreesWithVariable apart old new w a answer
    → AgreesWithVariable apart old new w (side, variable v) answer
with-bound-variable-at apart old new w second side v a answer is found h =
    changed apart old new (λ θ. θ w ≡ item_under apart θ a) (λ θ. θ w ≡ item_under apart θ (side, variable v))
    (λ test. (test w ≡ true) × ItemPasses apart test a) (λ test. (test w ≡ true) × ItemPasses apart test (side, variable v)) answer
    (λ θ s e. e ∙ sym (s second a found) ∙ ap θ is)
    (λ θ s e. e ∙ ap θ (sym is) ∙ s second a found)
    (λ test p k. (k.0, (p.0 second a found).1))
    (λ test p k. (k.0, passes-variable apart test side v second is (p.0 second a found).0))
    h

-- with a variable that is bound
pub with-bound-variable :
    (apart : Bool) (old new : Equations) (w second : ℕ) (side : Side) (t : Tree) (v : ℕ) (a : Item) (answer : Walked)
    → t ≡ variable v → second ≡ code_of apart side v → Some a ≡ bound_in old second → AgreesWithVariable apart old new w a answer
    → AgreesWithVariable apart old new w (side, t) answer
with-bound-variable apart old new w second side t v a answer t_is is found h =
    let P : Tree → Type 0 = λ u. AgreesWithVariable apart old new w (side, u) answer in
    subst P (sym t_is) (with-bound-variable-at apart old new w second side v a answer is (sym found) h)

-- it gets an equation
pub with-equation :
    (apart : Bool) (old new : Equations) (w : ℕ) (a : Item)
    → bound_in old w ≡ None → IsWithEquation old new w a → AgreesWithVariable apart old new w a Agreed
with-equation apart old new w a none h = (
  (λ θ s. ((λ u b found. s u b (still-bound old new w u a b h none found)), s w a h.here)),
  (λ θ s e u b found.
      either-bound old new w u a b (λ v d. θ v ≡ item_under apart θ d) h found e (λ before. s u b before)),
  (λ test p k. (
    (λ u b found. either-bound old new w u a b (λ v d. (test v ≡ true) × ItemPasses apart test d) h found k (λ before. p.0 u b before)),
    ap (list_all test) h.noted ∙ p.1,
  )),
  (λ test p. (
    ((λ u b found. p.0 u b (still-bound old new w u a b h none found)), ap (list_all test) (sym h.noted) ∙ p.1),
    p.0 w a h.here,
  )),
)

-- ---- two applications

applications-at :
    (apart : Bool) (old new : Equations) (one other : Side) (f g : ℕ) (ts us : Trees) (answer : Walked)
    → f ≡ g → AgreesInAll apart old new one ts other us answer
    → Agrees apart old new (one, application f ts) (other, application g us) answer
applications-at apart old new one other f g ts us answer is h =
    changed apart old new (λ θ. instances (of_side apart one θ) ts ≡ instances (of_side apart other θ) us)
    (λ θ. item_under apart θ (one, application f ts) ≡ item_under apart θ (other, application g us))
    (λ test. ItemsPass apart test one ts × ItemsPass apart test other us)
    (λ test. ItemPasses apart test (one, application f ts) × ItemPasses apart test (other, application g us)) answer
    (λ θ s e. ap₂ application is e)
    (λ θ s e.
    let whole : application f (instances (of_side apart one θ) ts) ≡ application g (instances (of_side apart other θ) us) = e in cc)
    (λ test p k. k)
    (λ test p k. k)
    h

pub applications :
    (apart : Bool) (old new : Equations) (one other : Side) (s t : Tree) (f g : ℕ) (ts us : Trees) (answer : Walked)
    → s ≡ application f ts → t ≡ application g us → f ≡ g → AgreesInAll apart old new one ts other us answer
    → Agrees apart old new (one, s) (other, t) answer
applications apart old new one other s t f g ts us answer s_is t_is is h =
    let P : Tree → Tree → Type 0 = λ x y. Agrees apart old new (one, x) (other, y) answer in
    let Q : Tree → Type 0 = λ y. P s y in
    let R : Tree → Type 0 = λ x. P x (application g us) in
    subst Q (sym t_is) (subst R (sym s_is) (applications-at apart old new one other f g ts us answer is h))

pub symbols-clash :
    (apart : Bool) (old new : Equations) (one other : Side) (s t : Tree) (f g : ℕ) (ts us : Trees)
    → s ≡ application f ts → t ≡ application g us → (f ≡ g → ⊥) → Agrees apart old new (one, s) (other, t) Clashed
symbols-clash apart old new one other s t f g ts us s_is t_is differ = λ θ h e.
    let whole : application f (instances (of_side apart one θ) ts) ≡ application g (instances (of_side apart other θ) us) =
    sym (ap (instance (of_side apart one θ)) s_is) ∙ e ∙ ap (instance (of_side apart other θ)) t_is in
    let heads : f ≡ g = cc in
    differ heads

-- ---- two lists

same-lengths :
    (σ τ : Substitution) (ts us : List Tree) → instances σ (trees_of ts) ≡ instances τ (trees_of us) → length ts ≡ length us
same-lengths σ τ [] [] e = refl
same-lengths σ τ [] (u ∷ us) e = let wrong : no_trees ≡ tree_then (instance τ u) (instances τ (trees_of us)) = e in cc
same-lengths σ τ (t ∷ ts) [] e = let wrong : tree_then (instance σ t) (instances σ (trees_of ts)) ≡ no_trees = e in cc
same-lengths σ τ (t ∷ ts) (u ∷ us) e =
    let both : tree_then (instance σ t) (instances σ (trees_of ts)) ≡ tree_then (instance τ u) (instances τ (trees_of us)) = e in
    let rest : instances σ (trees_of ts) ≡ instances τ (trees_of us) = cc in
    ap suc (same-lengths σ τ ts us rest)

pub lengths-clash :
    (apart : Bool) (old new : Equations) (one other : Side) (ts us : List Tree)
    → (length ts ≡ length us → ⊥) → AgreesInAll apart old new one (trees_of ts) other (trees_of us) Clashed
lengths-clash apart old new one other ts us differ = λ θ h e. differ (same-lengths (of_side apart one θ) (of_side apart other θ) ts us e)

-- the terms before a place agree, with these equations: what is left is as before
abbrev pub Agreeing : Bool → Equations → Equations → Side → Trees → Trees → Side → Trees → Trees → Type 0
Agreeing apart start now one ts rest_ts other us rest_us =
    ((θ : Substitution) → Solves apart θ now → instances (of_side apart one θ) rest_ts ≡ instances (of_side apart other θ) rest_us
    → Solves apart θ start × (instances (of_side apart one θ) ts ≡ instances (of_side apart other θ) us))
    × ((θ : Substitution) → Solves apart θ start → instances (of_side apart one θ) ts ≡ instances (of_side apart other θ) us
    → Solves apart θ now × (instances (of_side apart one θ) rest_ts ≡ instances (of_side apart other θ) rest_us))
    × ((test : ℕ → Bool) → EquationsPass apart test start → ItemsPass apart test one ts × ItemsPass apart test other us
    → EquationsPass apart test now × ItemsPass apart test one rest_ts × ItemsPass apart test other rest_us)
    × ((test : ℕ → Bool) → EquationsPass apart test now → ItemsPass apart test one rest_ts × ItemsPass apart test other rest_us
    → EquationsPass apart test start × ItemsPass apart test one ts × ItemsPass apart test other us)

pub agreeing-starts : (apart : Bool) (es : Equations) (one other : Side) (ts us : Trees) → Agreeing apart es es one ts ts other us us
agreeing-starts apart es one other ts us = ((λ θ s e. (s, e)), (λ θ s e. (s, e)), (λ test p k. (p, k.0, k.1)), (λ test p k. (p, k.0, k.1)))

module _ (apart : Bool) (start now next : Equations) (one other : Side) (ts us rts rus : Trees) (t u : Tree)
    (h : Agreeing apart start now one ts (tree_then t rts) other us (tree_then u rus)) where
  both-parts :
      (θ : Substitution) → instances (of_side apart one θ) (tree_then t rts) ≡ instances (of_side apart other θ) (tree_then u rus)
      → (item_under apart θ (one, t) ≡ item_under apart θ (other, u)) × (instances (of_side apart one θ) rts ≡ instances (of_side apart other θ) rus)
  both-parts θ e =
      let σ : Substitution = of_side apart one θ in
      let τ : Substitution = of_side apart other θ in
      let both : tree_then (instance σ t) (instances σ rts) ≡ tree_then (instance τ u) (instances τ rus) = e in
      let first : instance σ t ≡ instance τ u = cc in
      let rest : instances σ rts ≡ instances τ rus = cc in
      (first, rest)

  passing-parts :
      (test : ℕ → Bool) (side : Side) (x : Tree) (xs : Trees)
      → ItemsPass apart test side (tree_then x xs) → ItemPasses apart test (side, x) × ItemsPass apart test side xs
  passing-parts test side x xs k =
      let p : ℕ → Bool = λ v. test (code_of apart side v) in
      let both = and_parts (list_all p (tree_variables x)) (list_all p (trees_variables xs)) (sym (list_all-append p (tree_variables x) (trees_variables xs)) ∙ k) in
      (both.0, both.1)

  parts-passing :
      (test : ℕ → Bool) (side : Side) (x : Tree) (xs : Trees)
      → ItemPasses apart test (side, x) → ItemsPass apart test side xs → ItemsPass apart test side (tree_then x xs)
  parts-passing test side x xs first rest =
      let p : ℕ → Bool = λ v. test (code_of apart side v) in
      list_all-append p (tree_variables x) (trees_variables xs)
      ∙ and_from (list_all p (tree_variables x)) (list_all p (trees_variables xs)) first rest

  pub agreeing-more : Agrees apart now next (one, t) (other, u) Agreed → Agreeing apart start next one ts rts other us rus
  agreeing-more step = (
    (λ θ s e.
        let before = step.0 θ s in
        h.0 θ before.0 (ap₂ tree_then before.1 e)),
    (λ θ s e.
        let before = h.1 θ s e in
        let parts = both-parts θ before.1 in
        (step.1 θ before.0 parts.0, parts.1)),
    (λ test p k.
        let before = h.2 test p k in
        let left = passing-parts test one t rts before.1 in
        let right = passing-parts test other u rus before.2 in
        (step.2 test before.0 (left.0, right.0), left.1, right.1)),
    (λ test p k.
        let before = step.3 test p in
        h.3 test before.0 (parts-passing test one t rts before.1.0 k.0, parts-passing test other u rus before.1.1 k.1)),
  )

  pub agreeing-clashes : Agrees apart now next (one, t) (other, u) Clashed → AgreesInAll apart start next one ts other us Clashed
  agreeing-clashes step = λ θ s e.
      let before = h.1 θ s e in
      step θ before.0 (both-parts θ before.1).0

pub agreeing-done :
    (apart : Bool) (start now : Equations) (one other : Side) (ts us : Trees)
    → Agreeing apart start now one ts no_trees other us no_trees → AgreesInAll apart start now one ts other us Agreed
agreeing-done apart start now one other ts us h = (
  (λ θ s. h.0 θ s refl),
  (λ θ s e. (h.1 θ s e).0),
  (λ test p k. (h.2 test p k).0),
  (λ test p. let r = h.3 test p (refl, refl) in (r.0, (r.1, r.2))),
)

-- a list from a place on
pub rest-from :
    (terms : List Term) (i : ℕ) (x : Term)
    → i < length terms → x ≡ get_or terms i x
    → trees_of (map tree_of (drop i terms)) ≡ tree_then (tree_of x) (trees_of (map tree_of (drop (i + 1) terms)))
rest-from terms i x less is =
    let next : suc i ≡ i + 1 = omega arith in
    ap (λ us. trees_of (map tree_of us)) (drop-cons terms i x less)
    ∙ ap₂ (λ (y : Term) (n : ℕ). tree_then (tree_of y) (trees_of (map tree_of (drop n terms)))) (sym is) next

pub rest-none : (terms : List Term) (i : ℕ) → length terms ≤ i → trees_of (map tree_of (drop i terms)) ≡ no_trees
rest-none terms i past = ap (λ us. trees_of (map tree_of us)) (drop_all i terms past)
