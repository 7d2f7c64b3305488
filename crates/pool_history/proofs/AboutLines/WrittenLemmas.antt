-- A clause as the program's terms write it, the sizes of its sides, and a line of it.
use Rattle.std.proofs.Common.{◌≡◌, ◌≤◌, true, List, [], ◌∷◌, ◌++◌, map, length, append-nil, refl, ap, ap₂, sym, ◌∙◌, subst, arith}
use Rattle.std.specs.Prelude.{sum_by, flat_map}
use Rattle.std.specs.List.{list_all}
use Rattle.std.proofs.lemmas.Bool.{and_from, le-leb}
use Rattle.std.proofs.lemmas.List.Sums.{sum_by-cons}
use Rattle.fol_base.specs.Tree.{Tree, variable, application, tree_size, trees_of, trees_variables}
use Rattle.fol_base.specs.Term.{tree_of}
use Rattle.fol_base.specs.Clause.{TreeLiteral, TreeClause, literal_size, clause_size, clause_variables}
use Rattle.fol_base.specs.Canonical.{distinct, numbers_from, IsCanonical}
use Rattle.fol_base.specs.WellFormed.{SymbolUse, are_literals_of}
use Rattle.fol_base.specs.Literal.{literal_of, clause_of}
use Rattle.fol_base.specs.declared.limits.TheConstants.{MOST_SYMBOLS}
use Rattle.fol_base.proofs.AboutTerms.TreeLemmas.{trees_of-list_of}
use Rattle.kernel_steps.specs.Lines.{is_small_term, has_small_sides}
use Rattle.kernel_steps.specs.FromTrees.{term_from, literal_from, clause_from, line_of}
use Rattle.kernel_steps.specs.Names.{are_sorted}
use Rattle.kernel_steps.specs.Derivation.{is_clause_step}
use Rattle.kernel_steps.specs.Soundness.{bindings_of}
use Rattle.kernel_steps.specs.declared.step.Step.{Step}
use Rattle.pool_history.specs.Derived.{is_function_term_of, IsPoolLine}

term-written : (t : Tree) → tree_of (term_from t) ≡ t
term-written (variable v) = refl
term-written (application f ts) = ap (application f) (trees_of-list_of ts)

literals-written : (ls : List TreeLiteral) → map literal_of (map literal_from ls) ≡ ls
literals-written [] = refl
literals-written (l ∷ ls) = ap₂ (λ k ks. k ∷ ks) (ap₂ (λ t u. let m : TreeLiteral = record { positive = l.positive; left = t; right = u } in m) (term-written l.left) (term-written l.right)) (literals-written ls)

pub clause-written : (c : TreeClause) → clause_of (clause_from c) ≡ c
clause-written c = ap (λ ls. let d : TreeClause = record { literals = ls; names = c.names } in d) (literals-written c.literals)

pub small-sides : (ls : List TreeLiteral) → sum_by literal_size ls ≤ MOST_SYMBOLS → list_all has_small_sides ls ≡ true
small-sides [] few = refl
small-sides (l ∷ ls) few =
    let whole = sum_by-cons literal_size l ls in
    let left : tree_size l.left ≤ MOST_SYMBOLS = omega (arith, whole, few) in
    let right : tree_size l.right ≤ MOST_SYMBOLS = omega (arith, whole, few) in
    and_from (has_small_sides l) (list_all has_small_sides ls)
    (and_from (is_small_term l.left) (is_small_term l.right) (le-leb (tree_size l.left) MOST_SYMBOLS left) (le-leb (tree_size l.right) MOST_SYMBOLS right))
    (small-sides ls (omega (arith, whole, few)))

-- a written line of a step that binds nothing
pub written-line :
    (usage : SymbolUse) (step : Step) (c : TreeClause)
    → is_clause_step step ≡ true → bindings_of step ≡ [] → IsCanonical c → are_sorted c.names ≡ true → are_literals_of usage c.literals ≡ true
    → clause_size c ≤ MOST_SYMBOLS → IsPoolLine usage (line_of step c)
written-line usage step c is_clause none is_canonical sorted formed small =
    let same : clause_of (clause_from c) ≡ c = clause-written c in
    let canonical : IsCanonical (clause_of (clause_from c)) = subst IsCanonical (sym same) is_canonical in
    record {
      step = is_clause;
      sorted = sorted;
      formed = ap (λ (d : TreeClause). are_literals_of usage d.literals) same ∙ formed;
      terms = ap (list_all (list_all (is_function_term_of usage))) none;
      numbered = record {
        canonical = canonical;
        bindings =
            subst
            (λ bs. let order = distinct (clause_variables (clause_of (clause_from c)) ++ flat_map (λ b. trees_variables (trees_of b)) bs) in order ≡ numbers_from 0 (length order))
            (sym none)
            (subst (λ vs. let order = distinct vs in order ≡ numbers_from 0 (length order)) (sym (append-nil (clause_variables (clause_of (clause_from c))))) canonical);
      };
      small =
          and_from (list_all has_small_sides (clause_of (clause_from c)).literals) (list_all (list_all is_small_term) (bindings_of step))
          (ap (λ (d : TreeClause). list_all has_small_sides d.literals) same ∙ small-sides c.literals small)
          (ap (list_all (list_all is_small_term)) none);
    }
