-- The worked reducing steps, and rewriting that gives nothing.
use Rattle.std.proofs.Common.{◌≡◌, ℕ, zero, suc, Bool, false, List, [], ◌∷◌, refl, sym, ap, ◌∙◌, subst, inl, inr, get_or}
use Rattle.std.specs.Prelude.{Option, None, Some, slice_get, IsTrue}
use Rattle.std.proofs.lemmas.Bool.{true≢false}
use Rattle.std.proofs.lemmas.Option.{none-some, same_Some}
use Rattle.std.proofs.lemmas.List.Elements.{All-nil}
use Rattle.fol_base.specs.Tree.{Tree, tree_eq}
use Rattle.fol_base.specs.Instance.{Substitution, instance}
use Rattle.fol_base.specs.Place.{subterm}
use Rattle.fol_base.specs.Clause.{TreeLiteral, TreeClause}
use Rattle.fol_base.specs.Sides.{side_of, other_side_of}
use Rattle.fol_base.specs.Rules.{disequation, superposed}
use Rattle.fol_base.specs.Order.{tree_greater}
use Rattle.fol_base.specs.Examples.{x, a, b, c, f, p, r, equation, clause, is_predicate, all_a}
use Rattle.fol_base.specs.declared.clause.Side.{Side}
use Rattle.fol_base.specs.declared.clause.Side.TheVariants.{Left, Right}
use Rattle.kernel_steps.specs.Examples.{not_p}
use Rattle.kernel_steps.specs.Inference.{AllowsRoot, RewritesBy, Reduces, IsIrreducible}

-- ---- steps

-- a b of the left side, by a = b
by_a :
    (m : TreeLiteral) (place : List ℕ) (made : TreeLiteral)
    → subterm place m.left ≡ Some b → AllowsRoot m Left place a
    → superposed (equation a b ∷ []) 0 Right (m ∷ []) 0 Left place ≡ Some (made ∷ [])
    → Reduces is_predicate (λ d. d ≡ clause (equation a b ∷ [])) (clause (m ∷ [])) (clause (made ∷ []))
by_a m place made there allowed gives =
    inr
    (inr
    (inl
    (record {
      clause = clause (equation a b ∷ []);
      holds = refl;
      does =
          record {
            equation = equation a b;
            is_unit = refl;
            from_side = Right;
            j = 0;
            literal = m;
            literal_there = refl;
            into_side = Left;
            place = place;
            old = b;
            old_there = there;
            one_kind = refl;
            matcher = all_a;
            function_terms = λ v. refl;
            matches = refl;
            greater = refl;
            no_new_variables = All-nil _;
            root_allowed = allowed;
            asserted = refl;
            gives = gives;
            names = refl;
          };
    })))

-- in f(b) != c
pub rewritten : Reduces is_predicate (λ d. d ≡ clause (equation a b ∷ [])) (clause (disequation (f b) c ∷ [])) (clause (disequation (f a) c ∷ []))
rewritten = by_a (disequation (f b) c) (0 ∷ []) (disequation (f a) c) refl (λ positive root. absurd (true≢false (sym positive))) refl

-- the left side of b = c
pub rewritten_root : Reduces is_predicate (λ d. d ≡ clause (equation a b ∷ [])) (clause (equation b c ∷ [])) (clause (equation a c ∷ []))
rewritten_root = by_a (equation b c) [] (equation a c) refl (λ positive root. refl) refl

-- p(a) | r by ~p(X0)
pub cut : Reduces is_predicate (λ d. d ≡ clause (not_p (x 0) ∷ [])) (clause (p a ∷ r ∷ [])) (clause (r ∷ []))
cut =
    inr
    (inr
    (inr
    (record {
      clause = clause (not_p (x 0) ∷ []);
      holds = refl;
      does =
          record {
            unit_literal = not_p (x 0);
            is_unit = refl;
            j = 0;
            literal = p a;
            literal_there = refl;
            no_truths = refl;
            matcher = all_a;
            function_terms = λ v. refl;
            matches = refl;
            asserted = refl;
            gives = refl;
            names = refl;
          };
    })))

-- p(a) | r where p(X0) is there
pub subsumed : IsIrreducible is_predicate (λ d. d ≡ clause (p (x 0) ∷ [])) (clause (p a ∷ r ∷ [])) → ⊥
subsumed it =
    it.not_subsumed
    (record {
      clause = clause (p (x 0) ∷ []);
      holds = refl;
      does = record { matcher = all_a; function_terms = λ v. refl; places = 0 ∷ []; different = refl; mapped = refl; asserted = refl };
    })

-- ---- rewriting the literal m by the unit l

-- what the step says of the two literals
record RewritesLiteral (l : TreeLiteral) (m : TreeLiteral) : Type 0 where
  from_side : Side
  into_side : Side
  place : List ℕ
  matcher : Substitution
  greater : IsTrue (tree_greater (instance matcher (side_of from_side l)) (instance matcher (other_side_of from_side l)))
  there : subterm place (side_of into_side m) ≡ Some (instance matcher (side_of from_side l))
  root_allowed : AllowsRoot m into_side place (instance matcher (other_side_of from_side l))

one_literal : (m n : TreeLiteral) (j : ℕ) → slice_get (m ∷ []) j ≡ Some n → m ≡ n
one_literal m n zero e = same_Some m n e
one_literal m n (suc j) e = absurd (none-some n e)

rewrites_literal :
    (l m : TreeLiteral) (d : TreeClause) → RewritesBy is_predicate (clause (l ∷ [])) (clause (m ∷ [])) d → RewritesLiteral l m
rewrites_literal l m d it = record {
  from_side = it.from_side;
  into_side = it.into_side;
  place = it.place;
  matcher = it.matcher;
  greater =
      subst
      (λ k. IsTrue (tree_greater (instance it.matcher (side_of it.from_side k)) (instance it.matcher (other_side_of it.from_side k))))
      (sym is_unit)
      (subst (λ t. IsTrue (tree_greater t (instance it.matcher (other_side_of it.from_side it.equation)))) (sym it.matches) it.greater);
  there =
      ap (λ n. subterm it.place (side_of it.into_side n)) is_literal
      ∙ it.old_there
      ∙ ap Some (sym it.matches)
      ∙ ap (λ k. Some (instance it.matcher (side_of it.from_side k))) (sym is_unit);
  root_allowed =
      subst
      (λ k. AllowsRoot m it.into_side it.place (instance it.matcher (other_side_of it.from_side k)))
      (sym is_unit)
      (subst
      (λ n. AllowsRoot n it.into_side it.place (instance it.matcher (other_side_of it.from_side it.equation)))
      (sym is_literal)
      it.root_allowed);
}
  where
    is_unit : l ≡ it.equation
    is_unit = ap (λ ls. get_or ls 0 l) it.is_unit

    is_literal : m ≡ it.literal
    is_literal = one_literal m it.literal it.j it.literal_there

-- whether that is the tree
abbrev is_tree : Option Tree → Tree → Bool
is_tree None t = false
is_tree (Some u) t = tree_eq u t

-- f(a) != c has no b, and a isn't greater than b
pub no_greater_term : (d : TreeClause) → RewritesBy is_predicate (clause (equation a b ∷ [])) (clause (disequation (f a) c ∷ [])) d → ⊥
no_greater_term d it =
    let step = rewrites_literal (equation a b) (disequation (f a) c) d it in
    by step.from_side step.into_side step.place step.matcher step.greater step.there
  where
    no_b : (z : Side) (place : List ℕ) → is_tree (subterm place (side_of z (disequation (f a) c))) b ≡ false
    no_b Left [] = refl
    no_b Left (zero ∷ []) = refl
    no_b Left (zero ∷ (i ∷ place)) = refl
    no_b Left (suc i ∷ place) = refl
    no_b Right [] = refl
    no_b Right (i ∷ place) = refl

    by :
        (s z : Side) (place : List ℕ) (σ : Substitution)
        → IsTrue (tree_greater (instance σ (side_of s (equation a b))) (instance σ (other_side_of s (equation a b))))
        → subterm place (side_of z (disequation (f a) c)) ≡ Some (instance σ (side_of s (equation a b)))
        → ⊥
    by Left z place σ greater there = true≢false (sym greater)
    by Right z place σ greater there = true≢false (ap (λ o. is_tree o b) (sym there) ∙ no_b z place)

-- in c = a the c is at a root, and a isn't greater than b; and b isn't greater than c
pub smaller_other_side : (d : TreeClause) → RewritesBy is_predicate (clause (equation c b ∷ [])) (clause (equation c a ∷ [])) d → ⊥
smaller_other_side d it =
    let step = rewrites_literal (equation c b) (equation c a) d it in
    by step.from_side step.into_side step.place step.matcher step.greater step.there step.root_allowed
  where
    by :
        (s z : Side) (place : List ℕ) (σ : Substitution)
        → IsTrue (tree_greater (instance σ (side_of s (equation c b))) (instance σ (other_side_of s (equation c b))))
        → subterm place (side_of z (equation c a)) ≡ Some (instance σ (side_of s (equation c b)))
        → AllowsRoot (equation c a) z place (instance σ (other_side_of s (equation c b)))
        → ⊥
    by Right z place σ greater there allowed = true≢false (sym greater)
    by Left Left [] σ greater there allowed = true≢false (sym (allowed refl refl))
    by Left Left (i ∷ place) σ greater there allowed = none-some c there
    by Left Right [] σ greater there allowed = true≢false (ap (λ o. is_tree o c) (sym there))
    by Left Right (i ∷ place) σ greater there allowed = none-some c there
