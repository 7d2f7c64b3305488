-- The truth of a formula depends on the size and on what the formula's symbols give alone.
use Rattle.std.proofs.Common.{◌≡◌, ℕ, ◌<◌, ◌==◌, Bool, true, not, ◌&&◌, ◌||◌, List, [], ◌∷◌, ◌++◌, length, refl, ap, ap₂, sym, ◌∙◌}
use mathlib.Core.Bool.{beq}
use Rattle.std.specs.List.{AllByRecursion, list_all}
use Rattle.std.proofs.lemmas.Bool.{and_parts}
use Rattle.std.proofs.lemmas.List.Folds.{list_all-append}
use Rattle.tptp_tree.specs.Term.{TermTree, variable, application, TermTrees, no_terms, term_then}
use Rattle.tptp_tree.specs.Formula.{Quantifier, FormulaTree, truth, falsity, predicate, equation, negation, conjunction, disjunction, connected, quantified, FormulaTrees, no_formulas, formula_then}
use Rattle.tptp_tree.specs.Entries.{is_conjecture}
use Rattle.tptp_tree.specs.declared.problem.Annotated.{Annotated}
use Rattle.fol_base.specs.Interpretation.{Interpretation, symbol_value, sides_true}
use Rattle.signature.specs.declared.symbol.Symbol.{Symbol}
use Rattle.signature.specs.Symbol.{predicate_symbol, function_symbol, true_symbol, has_symbol, number_of}
use Rattle.signature.specs.Occurrences.{terms_count, term_symbols, terms_symbols, formula_symbols, formulas_symbols, annotated_symbols, problem_symbols}
use Rattle.signature.specs.Environment.{closed}
use Rattle.signature.specs.Truth.{Values, term_value, terms_values, connective_true, values_tested, formula_true, all_formulas_true, some_formula_true, annotated_true}
use Rattle.clausal_form.proofs.AboutNaming.NameLemmas.{closed-known}
use Rattle.laws_meaning.specs.Laws.{MeaningOfSymbols}
use Rattle.laws_meaning.proofs.AboutWork.Atoms.{number-below}
use Rattle.laws_meaning.proofs.AboutForms.ExtendedLemmas.{each-known}

abbrev Known : List Symbol → List Symbol → Type 0
Known known ss = list_all (λ s. has_symbol s known) ss ≡ true

known-parts : (known ss us : List Symbol) → Known known (ss ++ us) → Known known ss × Known known us
known-parts known ss us h =
    and_parts (list_all (λ s. has_symbol s known) ss) (list_all (λ s. has_symbol s known) us) (sym (list_all-append (λ s. has_symbol s known) ss us) ∙ h)

module _ (known : List Symbol) (i j : Interpretation) (size : j.size ≡ i.size)
    (kept : (f : ℕ) → f < length known → (vs : List ℕ) → symbol_value j f vs ≡ symbol_value i f vs) where
  symbol-same :
      (s : Symbol) (vs ws : List ℕ) → has_symbol s known ≡ true → vs ≡ ws
      → symbol_value j (number_of known s) vs ≡ symbol_value i (number_of known s) ws
  symbol-same s vs ws h e = kept (number_of known s) (number-below known s h) vs ∙ ap (symbol_value i (number_of known s)) e

  mutual
    term-same : (t : TermTree) (V : Values) → Known known (term_symbols t) → term_value known j V t ≡ term_value known i V t
    term-same (variable x) V k = refl
    term-same (application f ts) V k =
        let parts = and_parts (has_symbol (function_symbol f (terms_count ts)) known) (list_all (λ s. has_symbol s known) (terms_symbols ts)) k in
        symbol-same (function_symbol f (terms_count ts)) (terms_values known j V ts) (terms_values known i V ts) parts.0 (terms-same ts V parts.1)

    terms-same : (ts : TermTrees) (V : Values) → Known known (terms_symbols ts) → terms_values known j V ts ≡ terms_values known i V ts
    terms-same no_terms V k = refl
    terms-same (term_then t ts) V k =
        let parts = known-parts known (term_symbols t) (terms_symbols ts) k in ap₂ ◌∷◌ (term-same t V parts.0) (terms-same ts V parts.1)

  tested-same :
      (q : Quantifier) (xs : List (List ℕ)) (test other : Values → Bool) (V : Values)
      → ((W : Values) → test W ≡ other W) → values_tested q j.size xs test V ≡ values_tested q i.size xs other V
  tested-same q xs test other V e = ap₂ (λ (n : ℕ) (p : Values → Bool). values_tested q n xs p V) size (λ k. λ W. e W k)

  mutual
    formula-same : (f : FormulaTree) (V : Values) → Known known (formula_symbols f) → formula_true known j f V ≡ formula_true known i f V
    formula-same truth V k = refl
    formula-same falsity V k = refl
    formula-same (predicate p ts) V k =
        let parts = and_parts (has_symbol (predicate_symbol p (terms_count ts)) known) (list_all (λ s. has_symbol s known) (terms_symbols ts)) k in
        ap (λ (v : ℕ). v == 1)
        (symbol-same (predicate_symbol p (terms_count ts)) (terms_values known j V ts) (terms_values known i V ts) parts.0 (terms-same ts V parts.1))
    formula-same (equation positive s t) V k =
        let parts = known-parts known (term_symbols s) (term_symbols t) k in
        ap₂ (sides_true positive) (term-same s V parts.0) (term-same t V parts.1)
    formula-same (negation f) V k = ap not (formula-same f V k)
    formula-same (conjunction fs) V k = (formulas-same fs V k).0
    formula-same (disjunction fs) V k = (formulas-same fs V k).1
    formula-same (connected c f g) V k =
        let parts = known-parts known (formula_symbols f) (formula_symbols g) k in
        ap₂ (connective_true c) (formula-same f V parts.0) (formula-same g V parts.1)
    formula-same (quantified q xs f) V k = tested-same q xs (formula_true known j f) (formula_true known i f) V (λ W. formula-same f W k)

    formulas-same :
        (fs : FormulaTrees) (V : Values) → Known known (formulas_symbols fs)
        → (all_formulas_true known j fs V ≡ all_formulas_true known i fs V) × (some_formula_true known j fs V ≡ some_formula_true known i fs V)
    formulas-same no_formulas V k = (refl, refl)
    formulas-same (formula_then f fs) V k =
        let parts = known-parts known (formula_symbols f) (formulas_symbols fs) k in
        let one = formula-same f V parts.0 in
        let rest = formulas-same fs V parts.1 in
        (ap₂ ◌&&◌ one rest.0, ap₂ ◌||◌ one rest.1)

  all-same :
      (fs : List Annotated) → AllByRecursion (λ (a : Annotated). Known known (annotated_symbols a)) fs
      → list_all (λ (a : Annotated). beq (annotated_true known j a) (not (is_conjecture a.role))) fs
      ≡ list_all (λ (a : Annotated). beq (annotated_true known i a) (not (is_conjecture a.role))) fs
  all-same [] all = refl
  all-same (a ∷ fs) all =
      ap₂ ◌&&◌ (ap (λ b. beq b (not (is_conjecture a.role))) (formula-same (closed a) [] (closed-known known a all.0))) (all-same fs all.1)

pub meaning_of_symbols : MeaningOfSymbols
meaning_of_symbols fs i j e = all-same (problem_symbols fs) i j e.size e.kept fs (each-known (true_symbol ∷ []) fs)
