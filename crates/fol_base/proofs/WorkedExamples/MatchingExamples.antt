-- The examples of unifiers and subsumption that don't just compute.
use Rattle.std.proofs.Common.{◌≡◌, ◌⊎◌, inl, inr, ℕ, zero, suc, true, List, [], ◌∷◌, refl, sym, ap, ◌∙◌, arith, true≢false, Bool, ◌==◌, ⊎_elim}
use Rattle.std.specs.Prelude.{Some, IsTrue, ◌&&◌}
use Rattle.std.proofs.lemmas.Bool.{and_parts, or_cases, eqb-true}
use Rattle.fol_base.specs.Tree.{Tree, application, tree_then, tree_size, tree_eq, true_tree}
use Rattle.fol_base.specs.Instance.{Substitution, instance}
use Rattle.fol_base.specs.Unifier.{IsUnifier, IsUnifierApart, IsMostGeneralUnifier, IsMostGeneralUnifierApart}
use Rattle.fol_base.specs.Subsumption.{Subsumes, is_there, stand_at}
use Rattle.fol_base.specs.Kind.{is_function_term}
use Rattle.fol_base.specs.Clause.{TreeLiteral}
use Rattle.fol_base.specs.WellFormed.{WellFormed, is_literal_of, are_literals_of}
use Rattle.fol_base.proofs.AboutTerms.KindLemmas.{no_predicate_term}
use Rattle.fol_base.proofs.AboutTerms.WellFormedLemmas.{is_literal-cases, is_literal_of-parts}
use Rattle.fol_base.proofs.AboutTerms.TreeLemmas.{tree_eq-true}
use Rattle.fol_base.proofs.AboutInstances.Shuffled.{shuffled, shuffled-even, shuffled-odd}
use Rattle.fol_base.specs.Examples.{x, a, b, f, f₂, p, q, r, equation, clause, is_predicate, use_of_symbols, all_a, first_is, even, odd, first_is_a}

-- X0 and f(X0): the second is larger by one, whatever is put in
pub variable_occurs : (σ : Substitution) → IsUnifier (x 0) (f (x 0)) σ → ⊥
variable_occurs σ e = let sizes : tree_size (σ 0) ≡ tree_size (f (σ 0)) = ap tree_size e in absurd (omega arith)

abbrev pub first_argument : Tree → Tree
first_argument (application symbol (tree_then t ts)) = t
first_argument t = t

abbrev second_argument : Tree → Tree
second_argument (application symbol (tree_then t (tree_then u ts))) = u
second_argument t = t

application_parts : (s t u v : Tree) → f₂ s t ≡ f₂ u v → (s ≡ u) × (t ≡ v)
application_parts s t u v e = (ap first_argument e, ap second_argument e)

-- X0 and a
pub first_is_a_general : IsMostGeneralUnifier (x 0) a first_is_a
first_is_a_general = record { unifies = refl; is_general = λ ρ unifies. (ρ, each ρ unifies) }
  where
    each : (ρ : Substitution) → ρ 0 ≡ a → (v : ℕ) → ρ v ≡ instance ρ (first_is_a v)
    each ρ e zero = e
    each ρ e (suc v) = refl

-- f(X0,b) and f(a,X0), with different variables
pub apart_general : IsMostGeneralUnifierApart (f₂ (x 0) b) (f₂ a (x 0)) (first_is a even) (first_is b odd)
apart_general = record { unifies = refl; is_general = λ ρ π unifies. (then_by ρ π, left ρ π unifies, right ρ π unifies) }
  where
    then_by : Substitution → Substitution → Substitution
    then_by ρ π = shuffled (λ w. ρ (suc w)) (λ w. π (suc w))

    left : (ρ π : Substitution) → IsUnifierApart (f₂ (x 0) b) (f₂ a (x 0)) ρ π → (v : ℕ) → ρ v ≡ instance (then_by ρ π) (first_is a even v)
    left ρ π e zero = (application_parts (ρ 0) b a (π 0) e).0
    left ρ π e (suc v) = shuffled-even (λ w. ρ (suc w)) (λ w. π (suc w)) v

    right : (ρ π : Substitution) → IsUnifierApart (f₂ (x 0) b) (f₂ a (x 0)) ρ π → (v : ℕ) → π v ≡ instance (then_by ρ π) (first_is b odd v)
    right ρ π e zero = sym (application_parts (ρ 0) b a (π 0) e).1
    right ρ π e (suc v) = shuffled-odd (λ w. ρ (suc w)) (λ w. π (suc w)) v

-- p(X0) | q(X0) and q(a) | p(a) | r
pub subsumes_in_other_order : Subsumes is_predicate (clause (p (x 0) ∷ q (x 0) ∷ [])) (clause (q a ∷ p a ∷ r ∷ []))
subsumes_in_other_order = record { matcher = all_a; function_terms = λ v. refl; places = 1 ∷ 0 ∷ []; different = refl; mapped = refl; asserted = refl }

-- `$true` is no function term
no_truth : (t : Tree) → IsTrue (is_function_term is_predicate t) → tree_eq t true_tree ≡ true → ⊥
no_truth t is_function e = true≢false (sym is_function ∙ ap (is_function_term is_predicate) (tree_eq-true t true_tree e))

no_atom :
    (s t : Tree) → IsTrue (is_function_term is_predicate s) → IsTrue (is_function_term is_predicate t)
    → is_there (equation s t) (Some (p a)) ≡ true → ⊥
no_atom s t left right e =
    either
    (or_cases (tree_eq s (p a).left && tree_eq t true_tree) (tree_eq s true_tree && tree_eq t (p a).left) e)
  where
    either : (((tree_eq s (p a).left && tree_eq t true_tree) ≡ true) ⊎ ((tree_eq s true_tree && tree_eq t (p a).left) ≡ true)) → ⊥
    either (inl h) = no_truth t right (and_parts (tree_eq s (p a).left) (tree_eq t true_tree) h).1
    either (inr h) = no_truth s left (and_parts (tree_eq s true_tree) (tree_eq t (p a).left) h).0

-- X0 = X1 and p(a)
pub variables_by_no_atom : Subsumes is_predicate (clause (equation (x 0) (x 1) ∷ [])) (clause (p a ∷ [])) → ⊥
variables_by_no_atom it = at it.places it.mapped
  where
    at : (places : List ℕ) → IsTrue (stand_at it.matcher (equation (x 0) (x 1) ∷ []) places (p a ∷ [])) → ⊥
    at [] e = true≢false (sym e)
    at (zero ∷ rest) e =
        no_atom (it.matcher 0) (it.matcher 1) (it.function_terms 0) (it.function_terms 1)
        (and_parts (is_there (equation (it.matcher 0) (it.matcher 1)) (Some (p a))) (stand_at it.matcher [] rest (p a ∷ [])) e).0
    at (suc k ∷ rest) e = true≢false (sym e)

-- ---- what is and isn't well-formed together

pub used_together : WellFormed (clause (p (f (x 0)) ∷ []) ∷ clause (equation (f a) b ∷ r ∷ []) ∷ [])
used_together = record { usage = use_of_symbols; used = refl }

-- of two clauses with one literal each both literals are of the use
both_of_use :
    (l m : TreeLiteral) (w : WellFormed (clause (l ∷ []) ∷ clause (m ∷ []) ∷ []))
    → (is_literal_of w.usage l ≡ true) × (is_literal_of w.usage m ≡ true)
both_of_use l m w =
    let first = and_parts (are_literals_of w.usage (l ∷ [])) (are_literals_of w.usage (m ∷ []) && true) w.used in
    let second = and_parts (are_literals_of w.usage (m ∷ [])) true first.1 in
    ((and_parts (is_literal_of w.usage l) true first.0).0, (and_parts (is_literal_of w.usage m) true second.0).0)

-- f(a) = b and f(a,b) = b
pub two_numbers_of_arguments : WellFormed (clause (equation (f a) b ∷ []) ∷ clause (equation (f₂ a b) b ∷ []) ∷ []) → ⊥
two_numbers_of_arguments w =
    let both = both_of_use (equation (f a) b) (equation (f₂ a b) b) w in
    let one = is_literal_of-parts w.usage (equation (f a) b) both.0 in
    let two = is_literal_of-parts w.usage (equation (f₂ a b) b) both.1 in
    let has_one : w.usage.arity 4 ≡ 1 = eqb-true (w.usage.arity 4) 1 (and_parts (w.usage.arity 4 == 1) _ one.left_arities).0 in
    let has_two : w.usage.arity 4 ≡ 2 = eqb-true (w.usage.arity 4) 2 (and_parts (w.usage.arity 4 == 2) _ two.left_arities).0 in
    absurd (omega arith)

-- p(a) and p(a) = b
pub predicate_and_function : WellFormed (clause (p a ∷ []) ∷ clause (equation (p a).left b ∷ []) ∷ []) → ⊥
predicate_and_function w =
    let both = both_of_use (p a) (equation (p a).left b) w in
    let is_predicate : ℕ → Bool = w.usage.is_predicate in
    let as_atom = is_literal-cases is_predicate (p a) (is_literal_of-parts w.usage (p a) both.0).kind in
    let as_term = is_literal-cases is_predicate (equation (p a).left b) (is_literal_of-parts w.usage (equation (p a).left b) both.1).kind in
    ⊎_elim
    (λ function.
    ⊎_elim
    (λ e. true≢false (sym e.1))
    (λ atom. ⊎_elim (λ predicate. no_predicate_term is_predicate (p a).left function.0 predicate) (λ truth. true≢false (sym truth)) atom.0)
    as_atom)
    (λ atom. true≢false (sym atom.1))
    as_term
