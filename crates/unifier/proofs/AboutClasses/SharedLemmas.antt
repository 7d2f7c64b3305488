-- Proofs of the laws of the substitutions into shared variables.
use Rattle.std.proofs.Common.{◌≡◌, ℕ, ◌+◌, ◌<◌, Bool, true, false, ◌&&◌, ◌==◌, not, List, [], ◌∷◌, refl, ap, ap₂, sym, ◌∙◌}
use Rattle.std.specs.Prelude.{sum_by}
use Rattle.std.specs.List.{AllByRecursion}
use Rattle.std.proofs.lemmas.List.Sums.{sum_by-cons}
use Rattle.std.proofs.lemmas.List.Elements.{recursion_from_All}
use Rattle.fol_base.specs.Tree.{Tree, variable, application, Trees, no_trees, tree_then, tree_size, trees_size, VariablesBelow, true_symbol}
use Rattle.fol_base.specs.Instance.{Substitution, instance, substitution}
use Rattle.fol_base.specs.Canonical.{terms_from}
use Rattle.fol_base.specs.Clause.{TreeLiteral, LiteralVariablesBelow, literal_instance, literal_size}
use Rattle.fol_base.specs.Ground.{literals_instance}
use Rattle.fol_base.specs.Kind.{is_function_term, are_function_terms, PutsFunctionTerms}
use Rattle.fol_base.specs.declared.clause.Side.TheVariants.{Left, Right}
use Rattle.fol_base.proofs.AboutInstances.InstanceLemmas.{instances_of_instances, instances_agree_below}
use Rattle.unifier.specs.SolvedForm.{substitution_of}
use Rattle.unifier.specs.Renaming.{renamed, renamed_trees}
use Rattle.unifier.specs.SharedLaws.{HasSizesOf, OwnTermsAreNamed, SharedUnifyApart, SharedUnify, SharedUnifyOne, SharedKeepSizes, SharedPutFunctionTerms}
use Rattle.unifier.proofs.AboutMatching.MatchLemmas.{listed-at}
use Rattle.unifier.proofs.AboutLayouts.RenameLemmas.{renamed-itself, own-terms}
use Rattle.unifier.proofs.AboutLayouts.KindLemmas.{unifiers_put_function_terms, unifiers_apart_put_function_terms, listed-functions}

-- ---- a renaming

abbrev Names : Type 0
Names = ℕ → ℕ

mutual
  renamed-size : (names : Names) (t : Tree) → tree_size (renamed names t) ≡ tree_size t
  renamed-size names (variable v) = refl
  renamed-size names (application f ts) = ap (λ n. 1 + n) (renamed_trees-size names ts)

  renamed_trees-size : (names : Names) (ts : Trees) → trees_size (renamed_trees names ts) ≡ trees_size ts
  renamed_trees-size names no_trees = refl
  renamed_trees-size names (tree_then t ts) = ap₂ (λ n m. n + m) (renamed-size names t) (renamed_trees-size names ts)

mutual
  renamed-function : (p : ℕ → Bool) (names : Names) (t : Tree) → is_function_term p (renamed names t) ≡ is_function_term p t
  renamed-function p names (variable v) = refl
  renamed-function p names (application f ts) =
      ap (λ b. not (f == true_symbol) && (not (p f) && b)) (renamed_trees-function p names ts)

  renamed_trees-function : (p : ℕ → Bool) (names : Names) (ts : Trees) → are_function_terms p (renamed_trees names ts) ≡ are_function_terms p ts
  renamed_trees-function p names no_trees = refl
  renamed_trees-function p names (tree_then t ts) = ap₂ (λ a b. a && b) (renamed-function p names t) (renamed_trees-function p names ts)

-- ---- a list of renamed terms

-- the terms for the first variables are σ's, with the variables renamed
abbrev AreNamed : Names → List Tree → ℕ → Substitution → Type 0
AreNamed names terms count σ = terms ≡ terms_from 0 count (λ v. renamed names (σ v))

named-at : (names : Names) (terms : List Tree) (count v : ℕ) (σ : Substitution) → AreNamed names terms count σ → v < count → substitution terms v ≡ renamed names (σ v)
named-at names terms count v σ h less = listed-at terms count v (λ w. renamed names (σ w)) h less

-- their instances are those of σ, renamed
named-instance :
    (names : Names) (terms : List Tree) (count : ℕ) (σ : Substitution) (t : Tree)
    → AreNamed names terms count σ → VariablesBelow count t → instance (substitution terms) t ≡ renamed names (instance σ t)
named-instance names terms count σ t h below =
    instances_agree_below count (substitution terms) (λ v. renamed names (σ v)) t below (λ v less. named-at names terms count v σ h less)
    ∙ sym (instances_of_instances (λ w. variable (names w)) σ t)

-- what is σ with another after it is theirs with another after it
named-general :
    (names back : Names) (terms : List Tree) (count v : ℕ) (σ ρ another : Substitution)
    → AreNamed names terms count σ → v < count → renamed back (renamed names (σ v)) ≡ σ v → ρ v ≡ instance another (σ v)
    → ρ v ≡ instance (λ w. another (back w)) (substitution terms v)
named-general names back terms count v σ ρ another h less leads_back is =
    is
    ∙ ap (instance another) (sym leads_back)
    ∙ instances_of_instances another (λ w. variable (back w)) (renamed names (σ v))
    ∙ ap (instance (λ w. another (back w))) (sym (named-at names terms count v σ h less))

-- ---- unifiers

pub shared_unify_apart : SharedUnifyApart
shared_unify_apart s t b left_count right_count left right unified s_below t_below h = (
  named-instance h.names left left_count (substitution_of b Left) s h.left_terms s_below
      ∙ ap (renamed h.names) unified.unifies
      ∙ sym (named-instance h.names right right_count (substitution_of b Right) t h.right_terms t_below),
  (λ ρ π e.
      let general = unified.is_general ρ π e in (
        (λ w. general.0 (h.back w)),
        record {
          on_left = λ v less. named-general h.names h.back left left_count v (substitution_of b Left) ρ general.0 h.left_terms less (h.left_back v less) (general.1 v);
          on_right = λ v less. named-general h.names h.back right right_count v (substitution_of b Right) π general.0 h.right_terms less (h.right_back v less) (general.2 v);
        },
      )),
)

pub shared_unify : SharedUnify
shared_unify s t b left_count right_count left right unified s_below t_below h =
    let same : (v : ℕ) → substitution_of b Right v ≡ substitution_of b Left v = unified.1 in (
      named-instance h.names left left_count (substitution_of b Left) s h.left_terms s_below
          ∙ ap (renamed h.names)
          (unified.0.unifies ∙ sym (instances_agree_below right_count (substitution_of b Right) (substitution_of b Left) t t_below (λ v less. same v)))
          ∙ sym (named-instance h.names right right_count (substitution_of b Right) t h.right_terms t_below),
      (λ ρ e.
          let general = unified.0.is_general ρ e in (
            (λ w. general.0 (h.back w)),
            record {
              on_left = λ v less. named-general h.names h.back left left_count v (substitution_of b Left) ρ general.0 h.left_terms less (h.left_back v less) (general.1 v);
              on_right = λ v less.
                  named-general h.names h.back right right_count v (substitution_of b Right) ρ general.0 h.right_terms less (h.right_back v less)
                  (general.1 v ∙ ap (instance general.0) (sym (same v)));
            },
          )),
      (λ v in_left in_right.
          named-at h.names left left_count v (substitution_of b Left) h.left_terms in_left
          ∙ ap (renamed h.names) (sym (same v))
          ∙ sym (named-at h.names right right_count v (substitution_of b Right) h.right_terms in_right)),
    )

pub shared_unify_one : SharedUnifyOne
shared_unify_one s t b left_count right_count left right unified s_below t_below h = (
  named-instance h.names left left_count (substitution_of b Left) s h.left_terms s_below
      ∙ ap (renamed h.names) unified.0.unifies
      ∙ sym (named-instance h.names left left_count (substitution_of b Left) t h.left_terms t_below),
  (λ ρ e.
      let general = unified.0.is_general ρ e in (
        (λ w. general.0 (h.back w)),
        (λ v less. named-general h.names h.back left left_count v (substitution_of b Left) ρ general.0 h.left_terms less (h.left_back v less) (general.1 v)),
      )),
)

-- ---- sizes

named-size :
    (names : Names) (terms : List Tree) (count : ℕ) (σ : Substitution) (l : TreeLiteral)
    → AreNamed names terms count σ → LiteralVariablesBelow count l
    → literal_size (literal_instance (substitution terms) l) ≡ literal_size (literal_instance σ l)
named-size names terms count σ l h below =
    ap₂ (λ n m. n + m)
    (ap tree_size (named-instance names terms count σ l.left h below.0) ∙ renamed-size names (instance σ l.left))
    (ap tree_size (named-instance names terms count σ l.right h below.1) ∙ renamed-size names (instance σ l.right))

named-sizes :
    (names : Names) (terms : List Tree) (count : ℕ) (σ : Substitution) (ls : List TreeLiteral)
    → AreNamed names terms count σ → AllByRecursion (LiteralVariablesBelow count) ls
    → sum_by literal_size (literals_instance (substitution terms) ls) ≡ sum_by literal_size (literals_instance σ ls)
named-sizes names terms count σ [] h below = refl
named-sizes names terms count σ (l ∷ ls) h below =
    sum_by-cons literal_size (literal_instance (substitution terms) l) (literals_instance (substitution terms) ls)
    ∙ ap₂ (λ n m. n + m) (named-size names terms count σ l h below.0) (named-sizes names terms count σ ls h below.1)
    ∙ sym (sum_by-cons literal_size (literal_instance σ l) (literals_instance σ ls))

has-sizes : (names : Names) (terms : List Tree) (count : ℕ) (σ : Substitution) → AreNamed names terms count σ → HasSizesOf terms count σ
has-sizes names terms count σ h ls below = named-sizes names terms count σ ls h (recursion_from_All (LiteralVariablesBelow count) ls below)

pub shared_keep_sizes : SharedKeepSizes
shared_keep_sizes b left_count right_count left right h = (
  has-sizes h.names left left_count (substitution_of b Left) h.left_terms,
  has-sizes h.names right right_count (substitution_of b Right) h.right_terms,
)

-- ---- function terms

named-functions :
    (p : ℕ → Bool) (names : Names) (terms : List Tree) (count : ℕ) (σ : Substitution)
    → AreNamed names terms count σ → PutsFunctionTerms p σ → PutsFunctionTerms p (substitution terms)
named-functions p names terms count σ h all =
    listed-functions p terms count (λ v. renamed names (σ v)) h (λ v. renamed-function p names (σ v) ∙ all v)

pub shared_put_function_terms : SharedPutFunctionTerms
shared_put_function_terms p true s t b left_count right_count left right kinds unified h =
    let both = unifiers_apart_put_function_terms p s t (substitution_of b Left) (substitution_of b Right) kinds unified in (
      named-functions p h.names left left_count (substitution_of b Left) h.left_terms both.0,
      named-functions p h.names right right_count (substitution_of b Right) h.right_terms both.1,
    )
shared_put_function_terms p false s t b left_count right_count left right kinds unified h =
    let one : PutsFunctionTerms p (substitution_of b Left) = unifiers_put_function_terms p s t (substitution_of b Left) kinds unified.0 in
    let other : PutsFunctionTerms p (substitution_of b Right) = λ v. ap (is_function_term p) (unified.1 v) ∙ one v in (
      named-functions p h.names left left_count (substitution_of b Left) h.left_terms one,
      named-functions p h.names right right_count (substitution_of b Right) h.right_terms other,
    )

-- ---- in the unifier's own variables

pub own_terms_are_named : OwnTermsAreNamed
own_terms_are_named b left_count right_count = record {
  names = λ v. v;
  back = λ v. v;
  left_terms = sym (own-terms b Left left_count);
  right_terms = sym (own-terms b Right right_count);
  left_back = λ v less. renamed-itself (renamed (λ w. w) (substitution_of b Left v)) ∙ renamed-itself (substitution_of b Left v);
  right_back = λ v less. renamed-itself (renamed (λ w. w) (substitution_of b Right v)) ∙ renamed-itself (substitution_of b Right v);
}
