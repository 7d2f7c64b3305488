-- The own terms of a clause: they change nothing, and are variables.
use Rattle.std.proofs.Common.{◌≡◌, ℕ, zero, suc, ◌+◌, ◌≤◌, Bool, false, List, [], ◌∷◌, length, get_or, refl, ap, ap₂, sym, ◌∙◌, subst, ⊎_elim, arith}
use Rattle.std.specs.List.{AllByRecursion}
use Rattle.std.proofs.lemmas.Bool.{cases_lt}
use Rattle.fol_base.specs.Tree.{Tree, variable, application, Trees, no_trees, tree_then, tree_size, is_truth}
use Rattle.fol_base.specs.Instance.{instance, instances, substitution}
use Rattle.fol_base.specs.Clause.{TreeLiteral, TreeClause, LiteralVariablesBelow, clause_variables, clause_instance}
use Rattle.fol_base.specs.Ground.{literals_instance}
use Rattle.fol_base.specs.Canonical.{bound_of}
use Rattle.fol_base.specs.Kind.{is_function_term, PutsFunctionTerms}
use Rattle.fol_base.proofs.AboutCanonical.CanonicalLemmas.{length-terms_from, terms_from-at}
use Rattle.eq_rules.proofs.AboutConclusions.PremiseLemmas.{clause-below}
use Rattle.eq_rules.proofs.AboutConclusions.WideLemmas.{literals-below}
use Rattle.kernel_steps.specs.Lines.{own_terms}

-- each variable of a clause stands for itself
pub own-at : (c : TreeClause) (v : ℕ) → substitution (own_terms c) v ≡ variable v
own-at c v =
    ⊎_elim
    (λ less.
    let zero-plus : 0 + v ≡ v = omega arith in
    terms_from-at 0 (bound_of (clause_variables c)) v variable (variable v) less ∙ ap variable zero-plus)
    (λ past. past_end (own_terms c) v (variable v) (omega (arith, own-length c, past)))
    (cases_lt v (bound_of (clause_variables c)))
  where
    own-length : (c : TreeClause) → length (own_terms c) ≡ bound_of (clause_variables c)
    own-length c = length-terms_from 0 (bound_of (clause_variables c)) variable

    past_end : (ts : List Tree) (v : ℕ) (d : Tree) → length ts ≤ v → get_or ts v d ≡ d
    past_end [] v d h = refl
    past_end (t ∷ ts) zero d h = absurd (omega arith)
    past_end (t ∷ ts) (suc v) d h = past_end ts v d (omega (arith, h))

pub own-many : (c : TreeClause) → length (own_terms c) ≡ bound_of (clause_variables c)
own-many c = length-terms_from 0 (bound_of (clause_variables c)) variable

pub own-below : (c : TreeClause) → AllByRecursion (LiteralVariablesBelow (length (own_terms c))) c.literals
own-below c = subst (λ (n : ℕ). AllByRecursion (LiteralVariablesBelow n) c.literals) (sym (own-many c)) (clause-below c)

mutual
  itself : (t : Tree) → instance variable t ≡ t
  itself (variable v) = refl
  itself (application f ts) = ap (application f) (all_itself ts)

  all_itself : (ts : Trees) → instances variable ts ≡ ts
  all_itself no_trees = refl
  all_itself (tree_then t ts) = ap₂ tree_then (itself t) (all_itself ts)

literals-itself : (ls : List TreeLiteral) → literals_instance variable ls ≡ ls
literals-itself [] = refl
literals-itself (l ∷ ls) =
    ap₂ ◌∷◌
    (ap₂ (λ (t u : Tree). let k : TreeLiteral = record { positive = l.positive; left = t; right = u } in k) (itself l.left) (itself l.right))
    (literals-itself ls)

-- so the literals stay
pub own-literals : (c : TreeClause) → literals_instance (substitution (own_terms c)) c.literals ≡ c.literals
own-literals c =
    literals-below (length (own_terms c)) (substitution (own_terms c)) variable c.literals (own-below c) (λ v less. own-at c v)
    ∙ literals-itself c.literals

pub own-clause : (c : TreeClause) → clause_instance (substitution (own_terms c)) c ≡ c
own-clause c = ap (λ (ls : List TreeLiteral). let d : TreeClause = record { literals = ls; names = c.names } in d) (own-literals c)

pub own-functions : (p : ℕ → Bool) (c : TreeClause) → PutsFunctionTerms p (substitution (own_terms c))
own-functions p c v = ap (is_function_term p) (own-at c v)

pub own-no_truth : (c : TreeClause) (v : ℕ) → is_truth (substitution (own_terms c) v) ≡ false
own-no_truth c v = ap is_truth (own-at c v)

pub own-small : (c : TreeClause) (v : ℕ) → tree_size (substitution (own_terms c) v) ≡ 1
own-small c v = ap tree_size (own-at c v)
