-- One premise under a most general unifier of two of its terms, and under the terms that the unifier gives for its variables.
use Rattle.std.proofs.Common.{◌≡◌, ℕ, Bool, true, false, ◌&&◌, ◌||◌, List, [], ◌∷◌, ◌++◌, length, Some, ap, sym, ◌∙◌, subst, ⊎_elim, arith}
use Rattle.std.specs.Prelude.{sum_by, flat_map, slice_get}
use Rattle.std.specs.List.{AllByRecursion}
use Rattle.std.proofs.lemmas.Bool.{and_from, or_left, or_right}
use Rattle.std.proofs.lemmas.List.Elements.{recursion_from_All}
use Rattle.std.proofs.lemmas.Option.{get_or_from_slice_get, slice_get_within}
use Rattle.fol_base.specs.Tree.{Tree, variable, application, Trees, no_trees, tree_then, trees_of, tree_variables, trees_variables, VariablesBelow, AllVariablesBelow, is_truth}
use Rattle.fol_base.specs.Instance.{Substitution, instance, instances, substitution}
use Rattle.fol_base.specs.InstanceLaws.{after}
use Rattle.fol_base.specs.Clause.{TreeLiteral, TreeClause, LiteralVariablesBelow, literal_size, literal_variables, clause_variables}
use Rattle.fol_base.specs.Ground.{literals_instance}
use Rattle.fol_base.specs.Canonical.{bound_of, terms_from}
use Rattle.fol_base.specs.Kind.{is_function_term, is_predicate_term, is_literal, PutsFunctionTerms}
use Rattle.fol_base.specs.WellFormed.{SymbolUse, is_literal_of, are_literals_of}
use Rattle.fol_base.specs.Unifier.{IsUnifier}
use Rattle.fol_base.specs.declared.clause.Side.TheVariants.{Left}
use Rattle.fol_base.proofs.AboutCanonical.CanonicalLemmas.{length-terms_from}
use Rattle.fol_base.proofs.AboutInstances.InstanceLemmas.{Agree, literals_instance-again, literals-agree}
use Rattle.fol_base.proofs.AboutTerms.KindLemmas.{puts_no_truth}
use Rattle.fol_base.proofs.WorkedExamples.TestLemmas.{list_all-item}
use Rattle.fol_base.proofs.AboutTerms.VariableLemmas.{ClauseVariablesBelow-bound}
use Rattle.fol_base.proofs.AboutTerms.WellFormedLemmas.{is_literal-cases, is_literal_of-parts}
use Rattle.unifier.specs.Bindings.{IsUnified}
use Rattle.unifier.specs.Laws.{are_of_one_kind}
use Rattle.unifier.specs.Renaming.{AreNamedTerms, renamed}
use Rattle.unifier.proofs.AboutClasses.SharedLemmas.{own_terms_are_named, shared_unify_one, shared_keep_sizes, shared_put_function_terms}
use Rattle.eq_rules.specs.Concluding.{IsGeneralBelow}
use Rattle.eq_rules.proofs.AboutConclusions.WideLemmas.{Has, Has-item, literals-below}
use Rattle.unifier.specs.SolvedForm.{SolvedForm, substitution_of}

-- ---- a clause's variables

pub clause-below : (c : TreeClause) → AllByRecursion (LiteralVariablesBelow (bound_of (clause_variables c))) c.literals
clause-below c =
    let n : ℕ = bound_of (clause_variables c) in
    recursion_from_All (LiteralVariablesBelow n) c.literals (ClauseVariablesBelow-bound n c (omega arith))

pub literal-below :
    (c : TreeClause) (i : ℕ) (l : TreeLiteral) → slice_get c.literals i ≡ Some l → LiteralVariablesBelow (bound_of (clause_variables c)) l
literal-below c i l there =
    let n : ℕ = bound_of (clause_variables c) in
    subst (λ (k : TreeLiteral). LiteralVariablesBelow n k) (get_or_from_slice_get c.literals i l l there)
    (ClauseVariablesBelow-bound n c (omega arith) i l (slice_get_within c.literals i l there))

-- ---- the terms

pub record Terms (c : TreeClause) (s t : Tree) (b : SolvedForm) (terms : List Tree) : Type 0 where
  pub general : IsGeneralBelow s t terms
  pub many : length terms ≡ bound_of (clause_variables c)
  pub size : sum_by literal_size (literals_instance (substitution terms) c.literals) ≡ sum_by literal_size (literals_instance (substitution_of b Left) c.literals)

pub terms_of :
    (c : TreeClause) (s t : Tree) (b : SolvedForm) (terms right : List Tree)
    → IsUnified false s t (Some b)
    → VariablesBelow (bound_of (clause_variables c)) s → VariablesBelow (bound_of (clause_variables c)) t
    → AreNamedTerms b (bound_of (clause_variables c)) 0 terms right → Terms c s t b terms
terms_of c s t b terms right unified s_below t_below h =
    let n : ℕ = bound_of (clause_variables c) in
    let shared = shared_unify_one s t b n 0 terms right unified s_below t_below h in
    let many : length terms ≡ n =
    ap (λ (ts : List Tree). length ts) h.left_terms ∙ length-terms_from 0 n (λ v. renamed h.names (substitution_of b Left v)) in
    record {
      general = record {
        unifies = shared.0;
        is_general = λ ρ e. let by = shared.1 ρ e in (by.0, λ v less. by.1 v (omega (arith, less, many)));
      };
      many = many;
      size = (shared_keep_sizes b n 0 terms right h).0 c.literals (ClauseVariablesBelow-bound n c (omega arith));
    }

-- the unifier's own terms for the first variables of its left side
pub own_terms :
    (b : SolvedForm) (n k : ℕ) (terms : List Tree)
    → k ≡ n → terms ≡ terms_from 0 k (substitution_of b Left) → AreNamedTerms b n 0 terms []
own_terms b n k terms same is =
    let right : List Tree = [] in
    let P : List Tree → Type 0 = λ ts. AreNamedTerms b n 0 ts right in
    subst P (ap (λ j. terms_from 0 j (substitution_of b Left)) (sym same) ∙ sym is) (own_terms_are_named b n 0)

-- ---- function terms are put in, and no `$true`

sides_unify : (p : ℕ → Bool) (l : TreeLiteral) → is_literal p l ≡ true → are_of_one_kind p l.left l.right ≡ true
sides_unify p l h =
    ⊎_elim
    (λ equation.
    or_left (is_function_term p l.left && is_function_term p l.right) _
    (and_from (is_function_term p l.left) (is_function_term p l.right) equation.0 equation.1))
    (λ atom.
    or_right (is_function_term p l.left && is_function_term p l.right) _
    (and_from (is_predicate_term p l.left || is_truth l.left) (is_predicate_term p l.right || is_truth l.right)
    (⊎_elim (λ e. or_left (is_predicate_term p l.left) (is_truth l.left) e) (λ e. or_right (is_predicate_term p l.left) (is_truth l.left) e) atom.0)
    (or_right (is_predicate_term p l.right) (is_truth l.right) atom.1)))
    (is_literal-cases p l h)

pub literal-kind :
    (usage : SymbolUse) (c : TreeClause) (i : ℕ) (l : TreeLiteral)
    → are_literals_of usage c.literals ≡ true → slice_get c.literals i ≡ Some l → is_literal usage.is_predicate l ≡ true
literal-kind usage c i l used there = (is_literal_of-parts usage l (list_all-item (is_literal_of usage) c.literals i l there used)).kind

pub sides_put :
    (p : ℕ → Bool) (l : TreeLiteral) (b : SolvedForm) (count : ℕ) (terms right : List Tree)
    → is_literal p l ≡ true → IsUnified false l.left l.right (Some b) → AreNamedTerms b count 0 terms right
    → PutsFunctionTerms p (substitution terms)
sides_put p l b count terms right kind unified h =
    (shared_put_function_terms p false l.left l.right b count 0 terms right (sides_unify p l kind) unified h).0

pub sides_no_truth :
    (p : ℕ → Bool) (l : TreeLiteral) (b : SolvedForm) (count : ℕ) (terms right : List Tree)
    → is_literal p l ≡ true → IsUnified false l.left l.right (Some b) → AreNamedTerms b count 0 terms right
    → (v : ℕ) → is_truth (substitution terms v) ≡ false
sides_no_truth p l b count terms right kind unified h =
    puts_no_truth p (substitution terms) (sides_put p l b count terms right kind unified h)

-- ---- one unifier after another

agree_on : (σ τ : Substitution) → ((v : ℕ) → σ v ≡ τ v) → (vs : List ℕ) → Agree σ τ vs
agree_on σ τ h [] = tt
agree_on σ τ h (v ∷ vs) = (h v, agree_on σ τ h vs)

-- literals under a substitution that goes on from another
pub literals-onward :
    (κ σ τ : Substitution) → ((v : ℕ) → τ v ≡ instance κ (σ v)) → (ls : List TreeLiteral)
    → literals_instance κ (literals_instance σ ls) ≡ literals_instance τ ls
literals-onward κ σ τ goes ls =
    literals_instance-again κ σ ls ∙ sym (literals-agree τ (after κ σ) ls (agree_on τ (after κ σ) goes (flat_map literal_variables ls)))

-- under any unifier they are instances of those under the terms
pub unifier-after_terms :
    (s t : Tree) (terms : List Tree) (ls : List TreeLiteral) (ρ : Substitution)
    → IsGeneralBelow s t terms → AllByRecursion (LiteralVariablesBelow (length terms)) ls → IsUnifier s t ρ
    → (another : Substitution) × (literals_instance another (literals_instance (substitution terms) ls) ≡ literals_instance ρ ls)
unifier-after_terms s t terms ls ρ general below unifies =
    let by = general.is_general ρ unifies in (
      by.0,
      literals_instance-again by.0 (substitution terms) ls
          ∙ sym (literals-below (length terms) ρ (after by.0 (substitution terms)) ls below by.1),
    )

-- ---- the variables under the terms have numbers

pub has-append : (order vs ws : List ℕ) → Has order vs → Has order ws → Has order (vs ++ ws)
has-append order [] ws h k = k
has-append order (v ∷ vs) ws h k = (h.0, has-append order vs ws h.1 k)

mutual
  pub has-instance :
      (order : List ℕ) (terms : List Tree) (t : Tree)
      → Has order (trees_variables (trees_of terms)) → VariablesBelow (length terms) t → Has order (tree_variables (instance (substitution terms) t))
  has-instance order terms (variable v) all below = Has-item order terms v (variable v) below all
  has-instance order terms (application f ts) all below = has-instances order terms ts all below

  has-instances :
      (order : List ℕ) (terms : List Tree) (ts : Trees)
      → Has order (trees_variables (trees_of terms)) → AllVariablesBelow (length terms) ts
      → Has order (trees_variables (instances (substitution terms) ts))
  has-instances order terms no_trees all below = tt
  has-instances order terms (tree_then t ts) all below =
      has-append order (tree_variables (instance (substitution terms) t)) (trees_variables (instances (substitution terms) ts))
      (has-instance order terms t all below.0) (has-instances order terms ts all below.1)

pub has-literals :
    (order : List ℕ) (terms : List Tree) (ls : List TreeLiteral)
    → Has order (trees_variables (trees_of terms)) → AllByRecursion (LiteralVariablesBelow (length terms)) ls
    → Has order (flat_map literal_variables (literals_instance (substitution terms) ls))
has-literals order terms [] all below = tt
has-literals order terms (l ∷ ls) all below =
    has-append order
    (tree_variables (instance (substitution terms) l.left) ++ tree_variables (instance (substitution terms) l.right))
    (flat_map literal_variables (literals_instance (substitution terms) ls))
    (has-append order (tree_variables (instance (substitution terms) l.left)) (tree_variables (instance (substitution terms) l.right))
    (has-instance order terms l.left all below.0.0) (has-instance order terms l.right all below.0.1))
    (has-literals order terms ls all below.1)

-- ---- large or not
