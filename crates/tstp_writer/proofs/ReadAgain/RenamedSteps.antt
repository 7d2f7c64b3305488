-- A step under renamed variables concludes the renamed clause; and a canonical clause keeps its variables when its line is read.
use Rattle.std.proofs.Common.{◌≡◌, ℕ, zero, suc, ◌+◌, ◌<◌, ◌≤◌, max, true, not, ◌&&◌, ◌==◌, nat_le, List, [], ◌∷◌, ◌++◌, length, map, get_or, Option, Some, refl, ap, ap₂, sym, ◌∙◌, subst, arith, eqb-true}
use Rattle.std.specs.Prelude.{option_map, flat_map, is_some, unwrap_or, sum_by}
use Rattle.std.specs.List.{list_all, AllByRecursion}
use Rattle.std.proofs.lemmas.Bool.{and_parts, and_from}
use Rattle.fol_base.specs.Tree.{Tree, variable, application, tree_variables, is_truth}
use Rattle.fol_base.specs.Instance.{Substitution, instance, substitution}
use Rattle.fol_base.specs.InstanceLaws.{after}
use Rattle.fol_base.specs.Clause.{TreeLiteral, TreeClause, literal_size, clause_size, clause_variables, clause_instance}
use Rattle.fol_base.specs.Canonical.{distinct, place_of, renaming, bound_of, canonical_renaming, IsCanonical}
use Rattle.fol_base.specs.Ground.{literals_instance}
use Rattle.fol_base.specs.Numbering.{with_variable, with_variables}
use Rattle.fol_base.specs.declared.limits.TheConstants.{MOST_BOUND_SYMBOLS}
use Rattle.fol_base.proofs.AboutInstances.InstanceLemmas.{Agree, literals-agree, literals_instance-again, sizes_of_clause_instances}
use Rattle.fol_base.proofs.AboutCanonical.NumberingLemmas.{all_met, with_variables-have, with_variables-keep}
use Rattle.fol_base.proofs.AboutCanonical.CanonicalLemmas.{canonical_is_own_form, canonical_forms_keep_sizes}
use Rattle.kernel_steps.specs.Parents.{Parent}
use Rattle.kernel_steps.specs.Conclusion.{bound_clause, bound_literals, binds, concludes, verdict_if, clause_with, by_one, by_two}
use Rattle.kernel_steps.specs.declared.step.Step.{Step}
use Rattle.kernel_steps.proofs.AboutCalls.BoundLemmas.{is_truth-application}
use Rattle.kernel_steps.proofs.AboutCalls.VerdictParts.{OneParts, TwoParts, by_one-parts, by_two-parts}
use Rattle.tstp_writer.specs.ReadableLines.{bound_by, read_renaming, read_terms}

-- ---- canonical clauses

met-joined : (order xs ys : List ℕ) → with_variables order (xs ++ ys) ≡ with_variables (with_variables order xs) ys
met-joined order [] ys = refl
met-joined order (x ∷ xs) ys = met-joined (with_variable order x) xs ys

-- variables have the places that they have in the front of a list
places-kept :
    (xs ys vs : List ℕ) → AllByRecursion (λ v. is_some (place_of v (distinct xs)) ≡ true) vs
    → Agree (renaming (distinct (xs ++ ys))) (renaming (distinct xs)) vs
places-kept xs ys [] have = tt
places-kept xs ys (v ∷ vs) have = (ap (λ o. variable (unwrap_or o v)) kept, places-kept xs ys vs have.1)
  where
    whole : distinct (xs ++ ys) ≡ with_variables (distinct xs) ys
    whole = sym (all_met (xs ++ ys)) ∙ met-joined [] xs ys ∙ ap (λ o. with_variables o ys) (all_met xs)

    kept : place_of v (distinct (xs ++ ys)) ≡ place_of v (distinct xs)
    kept = ap (place_of v) whole ∙ with_variables-keep (distinct xs) ys v have.0

-- so a canonical clause is read as itself
pub canonical-read : (step : Step) (c : TreeClause) → IsCanonical c → clause_instance (read_renaming step c) c ≡ c
canonical-read step c canonical =
    ap make (literals-agree (read_renaming step c) (canonical_renaming c) c.literals agree) ∙ (canonical_is_own_form c).0 canonical
  where
    vs : List ℕ
    vs = clause_variables c

    have : AllByRecursion (λ v. is_some (place_of v (distinct vs)) ≡ true) vs
    have = subst (λ order. AllByRecursion (λ v. is_some (place_of v order) ≡ true) vs) (all_met vs) (with_variables-have [] vs)

    agree : Agree (read_renaming step c) (canonical_renaming c) vs
    agree = places-kept vs (flat_map tree_variables (bound_by step)) vs have

    make : List TreeLiteral → TreeClause
    make ls = record { literals = ls; names = c.names }

-- ---- bindings

item-changed : (h : Tree → Tree) (ts : List Tree) (v : ℕ) (d e : Tree) → v < length ts → get_or (map h ts) v d ≡ h (get_or ts v e)
item-changed h [] v d e low = let none : ⊥ = omega (arith, low) in absurd none
item-changed h (t ∷ ts) zero d e low = refl
item-changed h (t ∷ ts) (suc v) d e low = item-changed h ts v d e (omega (arith, low))

length-changed : (h : Tree → Tree) (ts : List Tree) → length (map h ts) ≡ length ts
length-changed h [] = refl
length-changed h (t ∷ ts) = ap suc (length-changed h ts)

all-lower : (n m : ℕ) (vs : List ℕ) → n ≤ m → AllByRecursion (λ v. v < n) vs → AllByRecursion (λ v. v < m) vs
all-lower n m [] low all = tt
all-lower n m (v ∷ vs) low all = let first : v < n = all.0 in (omega (arith, first, low), all-lower n m vs low all.1)

below-bound : (vs : List ℕ) → AllByRecursion (λ v. v < bound_of vs) vs
below-bound [] = tt
below-bound (v ∷ vs) =
    (omega arith, all-lower (bound_of vs) (max (v + 1) (bound_of vs)) vs (omega arith) (below-bound vs))

module _ (order : List ℕ) where
  abbrev σ : Substitution
  σ = renaming order

  agree-below :
      (bind : List Tree) (vs : List ℕ) → AllByRecursion (λ v. v < length bind) vs
      → Agree (substitution (read_terms σ bind)) (after σ (substitution bind)) vs
  agree-below bind [] all = tt
  agree-below bind (v ∷ vs) all = (item-changed (instance σ) bind v (variable v) (variable v) all.0, agree-below bind vs all.1)

  -- the parent under it is renamed too
  bound-renamed :
      (bind : List Tree) (c : TreeClause) → length bind ≡ bound_of (clause_variables c)
      → bound_literals (read_terms σ bind) c ≡ literals_instance σ (bound_literals bind c)
  bound-renamed bind c long =
      literals-agree (substitution (read_terms σ bind)) (after σ (substitution bind)) c.literals
      (agree-below bind (clause_variables c)
      (subst (λ n. AllByRecursion (λ v. v < n) (clause_variables c)) (sym long) (below-bound (clause_variables c))))
      ∙ sym (literals_instance-again σ (substitution bind) c.literals)

  truth-renamed : (t : Tree) → is_truth (instance σ t) ≡ is_truth t
  truth-renamed (variable v) = refl
  truth-renamed (application f ts) = is_truth-application σ f ts

  no-truth-renamed : (ts : List Tree) → list_all (λ t. not (is_truth t)) (read_terms σ ts) ≡ list_all (λ t. not (is_truth t)) ts
  no-truth-renamed [] = refl
  no-truth-renamed (t ∷ ts) = ap₂ (λ a b. not a && b) (truth-renamed t) (no-truth-renamed ts)

  size-renamed : (c : TreeClause) → clause_size (clause_instance σ c) ≡ clause_size c
  size-renamed c = sizes_of_clause_instances σ c ∙ sym (sizes_of_clause_instances (canonical_renaming c) c) ∙ canonical_forms_keep_sizes c

  long-enough : (bind : List Tree) (c : TreeClause) → binds bind c ≡ true → length bind ≡ bound_of (clause_variables c)
  long-enough bind c h = eqb-true (length bind) (bound_of (clause_variables c)) (and_parts (length bind == bound_of (clause_variables c)) _ h).0

  -- and it is right where it was
  pub binds-renamed : (bind : List Tree) (c : TreeClause) → binds bind c ≡ true → binds (read_terms σ bind) c ≡ true
  binds-renamed bind c h =
      ap₂ (λ n b. (n == bound_of (clause_variables c)) && b) (length-changed (instance σ) bind)
      (ap₂ (λ b n. b && nat_le n MOST_BOUND_SYMBOLS) (no-truth-renamed bind)
      (ap (sum_by literal_size) (bound-renamed bind c (long-enough bind c h)) ∙ size-renamed (bound_clause bind c)))
      ∙ h

  -- ---- rules

  pub one-renamed :
      (parent : Option Parent) (bind : List Tree) (rule : List TreeLiteral → Option (List TreeLiteral)) (c : TreeClause)
      → ((ls made : List TreeLiteral) → rule ls ≡ Some made → rule (literals_instance σ ls) ≡ Some (literals_instance σ made))
      → by_one parent bind rule ≡ concludes c → by_one parent (read_terms σ bind) rule ≡ concludes (clause_instance σ c)
  one-renamed parent bind rule c keeps h =
      ap (λ o. by_one o (read_terms σ bind) rule) parts.there
      ∙ ap₂ (λ b o. verdict_if b (option_map (clause_with p.clause.names) o)) (binds-renamed bind p.clause parts.bound)
      (ap rule (bound-renamed bind p.clause (long-enough bind p.clause parts.bound))
      ∙ keeps (bound_literals bind p.clause) parts.literals parts.made)
      ∙ ap (λ d. concludes (clause_instance σ d)) parts.gives
    where
      parts : OneParts parent bind rule c
      parts = by_one-parts parent bind rule c h

      p : Parent
      p = parts.source

  pub two-renamed :
      (first : Option Parent) (x : List Tree) (second : Option Parent) (y : List Tree)
      (rule : List TreeLiteral → List TreeLiteral → Option (List TreeLiteral)) (c : TreeClause)
      → ((ls ks made : List TreeLiteral) → rule ls ks ≡ Some made
      → rule (literals_instance σ ls) (literals_instance σ ks) ≡ Some (literals_instance σ made))
      → by_two first x second y rule ≡ concludes c
      → by_two first (read_terms σ x) second (read_terms σ y) rule ≡ concludes (clause_instance σ c)
  two-renamed first x second y rule c keeps h =
      ap₂ (λ o u. by_two o (read_terms σ x) u (read_terms σ y) rule) parts.first_there parts.second_there
      ∙ ap₂ (λ b o. verdict_if b (option_map (clause_with (p.clause.names ++ q.clause.names)) o))
      (and_from (binds (read_terms σ x) p.clause) (binds (read_terms σ y) q.clause) (binds-renamed x p.clause parts.first_bound)
      (binds-renamed y q.clause parts.second_bound))
      (ap₂ rule (bound-renamed x p.clause (long-enough x p.clause parts.first_bound))
      (bound-renamed y q.clause (long-enough y q.clause parts.second_bound))
      ∙ keeps (bound_literals x p.clause) (bound_literals y q.clause) parts.literals parts.made)
      ∙ ap (λ d. concludes (clause_instance σ d)) parts.gives
    where
      parts : TwoParts first x second y rule c
      parts = by_two-parts first x second y rule c h

      p : Parent
      p = parts.source

      q : Parent
      q = parts.target
