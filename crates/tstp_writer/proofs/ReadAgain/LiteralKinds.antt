-- How a literal over the symbols of a list is made: `$true`, an atom of a predicate, or an equation between function terms.
use Rattle.std.proofs.Common.{◌≡◌, ⊎_elim, ℕ, Bool, true, false, not, ◌&&◌, ◌||◌, ◌==◌, List, ap, sym, ◌∙◌, subst}
use Rattle.std.proofs.lemmas.Bool.{and_parts, or_cases, not-true, true≢false, false≢true, false_from_ne_true}
use Rattle.fol_base.specs.Tree.{Tree, variable, application, Trees, no_trees, tree_then, trees_count, trees_eq, is_truth, true_tree}
use Rattle.fol_base.specs.Kind.{is_function_term, are_function_terms, is_predicate_term, is_literal}
use Rattle.fol_base.specs.Clause.{TreeLiteral}
use Rattle.fol_base.proofs.AboutTerms.TreeLemmas.{tree_eq-true}
use Rattle.signature.specs.declared.symbol.Symbol.{Symbol}
use Rattle.signature.specs.Clausal.{atom_literal}
use Rattle.kernel_steps.specs.Symbols.{symbols_pass, all_symbols_pass, literal_symbols_pass}
use Rattle.clausal_form.specs.FormFunctions.{is_predicate_in}
use Rattle.tstp_writer.specs.ReadableLines.{is_symbol_in, is_literal_over, is_term_over}

truth-no_function : (is_predicate : ℕ → Bool) (t : Tree) → is_truth t ≡ true → is_function_term is_predicate t ≡ false
truth-no_function is_predicate (variable v) h = absurd (let e : false ≡ true = h in cc)
truth-no_function is_predicate (application f ts) h =
    ap (λ b. not b && (not (is_predicate f) && are_function_terms is_predicate ts)) (and_parts (f == 0) (trees_eq ts no_trees) h).0

module _ (symbols : List Symbol) where
  -- ---- terms

  pub record IsTermOver (t : Tree) : Type 0 where
    pub function : is_function_term (is_predicate_in symbols) t ≡ true
    pub pass : symbols_pass (is_symbol_in symbols) t ≡ true

  pub record AreTermsOver (ts : Trees) : Type 0 where
    pub functions : are_function_terms (is_predicate_in symbols) ts ≡ true
    pub pass : all_symbols_pass (is_symbol_in symbols) ts ≡ true

  pub term-over : (t : Tree) → is_term_over symbols t ≡ true → IsTermOver t
  term-over t h =
      let parts = and_parts (is_function_term (is_predicate_in symbols) t) (symbols_pass (is_symbol_in symbols) t) h in
      record { function = parts.0; pass = parts.1 }

  pub first-term : (t : Tree) (ts : Trees) → AreTermsOver (tree_then t ts) → IsTermOver t
  first-term t ts h = record {
    function = (and_parts (is_function_term (is_predicate_in symbols) t) (are_function_terms (is_predicate_in symbols) ts) h.functions).0;
    pass = (and_parts (symbols_pass (is_symbol_in symbols) t) (all_symbols_pass (is_symbol_in symbols) ts) h.pass).0;
  }

  pub more-terms : (t : Tree) (ts : Trees) → AreTermsOver (tree_then t ts) → AreTermsOver ts
  more-terms t ts h = record {
    functions = (and_parts (is_function_term (is_predicate_in symbols) t) (are_function_terms (is_predicate_in symbols) ts) h.functions).1;
    pass = (and_parts (symbols_pass (is_symbol_in symbols) t) (all_symbols_pass (is_symbol_in symbols) ts) h.pass).1;
  }

  -- a symbol that isn't `$true`, with its arguments
  pub record IsHeadOver (f : ℕ) (ts : Trees) (is_predicate : Bool) : Type 0 where
    pub apart : not (f == 0) ≡ true
    pub kind : is_predicate_in symbols f ≡ is_predicate
    pub there : is_symbol_in symbols f (trees_count ts) ≡ true
    pub arguments : AreTermsOver ts

  pub function-head : (f : ℕ) (ts : Trees) → IsTermOver (application f ts) → IsHeadOver f ts false
  function-head f ts h =
      let kinds = and_parts (not (f == 0)) (not (is_predicate_in symbols f) && are_function_terms (is_predicate_in symbols) ts) h.function in
      let inner = and_parts (not (is_predicate_in symbols f)) (are_function_terms (is_predicate_in symbols) ts) kinds.1 in
      let passes = and_parts (is_symbol_in symbols f (trees_count ts)) (all_symbols_pass (is_symbol_in symbols) ts) h.pass in
      record {
        apart = kinds.0;
        kind = not-true (is_predicate_in symbols f) inner.0;
        there = passes.0;
        arguments = record { functions = inner.1; pass = passes.1 };
      }

  predicate-head :
      (f : ℕ) (ts : Trees) → is_predicate_term (is_predicate_in symbols) (application f ts) ≡ true
      → symbols_pass (is_symbol_in symbols) (application f ts) ≡ true → IsHeadOver f ts true
  predicate-head f ts h pass =
      let kinds = and_parts (not (f == 0)) (is_predicate_in symbols f && are_function_terms (is_predicate_in symbols) ts) h in
      let inner = and_parts (is_predicate_in symbols f) (are_function_terms (is_predicate_in symbols) ts) kinds.1 in
      let passes = and_parts (is_symbol_in symbols f (trees_count ts)) (all_symbols_pass (is_symbol_in symbols) ts) pass in
      record { apart = kinds.0; kind = inner.0; there = passes.0; arguments = record { functions = inner.1; pass = passes.1 } }

  -- ---- literals

  pub record IsEquationOver (l : TreeLiteral) : Type 0 where
    pub no_truth : is_truth l.right ≡ false
    pub left : IsTermOver l.left
    pub right : IsTermOver l.right

  -- what holds of the three kinds holds of each literal
  pub by-kind :
      (P : TreeLiteral → Type 0)
      → ((b : Bool) → P (atom_literal b true_tree))
      → ((b : Bool) (f : ℕ) (ts : Trees) → IsHeadOver f ts true → P (atom_literal b (application f ts)))
      → ((l : TreeLiteral) → IsEquationOver l → P l)
      → (l : TreeLiteral) → is_literal_over symbols l ≡ true → P l
  by-kind P of_truth of_predicate of_terms l h =
      ⊎_elim
      (λ terms.
      let sides = and_parts (is_function_term is_predicate l.left) (is_function_term is_predicate l.right) terms in
      of_terms l
      (record {
        no_truth =
            false_from_ne_true (is_truth l.right) λ truth.
            true≢false (sym sides.1 ∙ truth-no_function is_predicate l.right truth);
        left = record { function = sides.0; pass = passes.0 };
        right = record { function = sides.1; pass = passes.1 };
      }))
      (λ atom.
      let sides = and_parts (is_predicate_term is_predicate l.left || is_truth l.left) (is_truth l.right) atom in
      let right : l.right ≡ true_tree = tree_eq-true l.right true_tree sides.1 in
      let make : Tree → TreeLiteral = λ t. record { positive = l.positive; left = l.left; right = t } in
      let same : atom_literal l.positive l.left ≡ l = ap make (sym right) in
      subst P same (of_atom l.positive l.left sides.0 passes.0))
      (or_cases (is_function_term is_predicate l.left && is_function_term is_predicate l.right)
      ((is_predicate_term is_predicate l.left || is_truth l.left) && is_truth l.right) over.0)
    where
      is_predicate : ℕ → Bool
      is_predicate = is_predicate_in symbols

      over : (is_literal is_predicate l ≡ true) × (literal_symbols_pass (is_symbol_in symbols) l ≡ true)
      over = and_parts (is_literal is_predicate l) (literal_symbols_pass (is_symbol_in symbols) l) h

      passes : (symbols_pass (is_symbol_in symbols) l.left ≡ true) × (symbols_pass (is_symbol_in symbols) l.right ≡ true)
      passes = and_parts (symbols_pass (is_symbol_in symbols) l.left) (symbols_pass (is_symbol_in symbols) l.right) over.1

      of_atom :
          (b : Bool) (t : Tree) → (is_predicate_term is_predicate t || is_truth t) ≡ true → symbols_pass (is_symbol_in symbols) t ≡ true
          → P (atom_literal b t)
      of_atom b (variable v) kind pass = absurd (false≢true kind)
      of_atom b (application f ts) kind pass =
          ⊎_elim (λ one. of_predicate b f ts (predicate-head f ts one pass))
          (λ one. subst (λ t. P (atom_literal b t)) (sym (tree_eq-true (application f ts) true_tree one)) (of_truth b))
          (or_cases (is_predicate_term is_predicate (application f ts)) (is_truth (application f ts)) kind)
