-- Causes depend on what each word is declared as and on which words are sorts alone.
use Rattle.std.proofs.Common.{◌≡◌, ℕ, Bool, List, [], ◌∷◌, if◌then◌else◌, refl, ap, ap₂, ◌∙◌}
use Rattle.std.specs.Prelude.{Option, None, Some}
use Rattle.tptp_tree.specs.Term.{TermTree, variable, application, TermTrees, no_terms, term_then}
use Rattle.signature.specs.Occurrences.{terms_count}
use Rattle.typed_tree.specs.declared.cause.TypedCause.TheVariants.{UnknownSort, SortClash}
use Rattle.typed_tree.specs.Sorts.{SortTree, individuals, named_sort, same_sort, SymbolType, Declared, a_sort, a_symbol, DeclarationTree}
use Rattle.typed_tree.specs.TypedFormula.{TypedVariable, TypedTree, truth, falsity, predicate, equation, negation, conjunction, disjunction, connected, quantified, TypedTrees, no_formulas, formula_then}
use Rattle.typed_problem.specs.Declarations.{declared_as, is_sort, declared_type, function_type, predicate_type, is_function_type, is_predicate_type, undeclared_function, undeclared_predicate, result_of}
use Rattle.typed_problem.specs.SortFaults.{Causes, Sorting, sort_causes, sorts_causes, result_causes, declared_causes, clash, next_wanted, later_wanted, term_sort, term_causes, terms_causes, variables_causes, inside, formula_causes, formulas_causes}

pub record Agree (ds es : List DeclarationTree) : Type 0 where
  pub words : (w : List ℕ) → declared_as ds w ≡ declared_as es w
  pub sorts : (s : SortTree) → is_sort ds s ≡ is_sort es s

module _ (ds es : List DeclarationTree) (agree : Agree ds es) where
  function-agrees : (f : List ℕ) (n : ℕ) → function_type ds f n ≡ function_type es f n
  function-agrees f n = ap (λ o. declared_type (is_function_type n) o (undeclared_function n)) (agree.words f)

  predicate-agrees : (p : List ℕ) (n : ℕ) → predicate_type ds p n ≡ predicate_type es p n
  predicate-agrees p n = ap (λ o. declared_type (is_predicate_type n) o (undeclared_predicate n)) (agree.words p)

  sort-agrees : (s : SortTree) (rest more : Causes) → rest ≡ more → sort_causes ds s rest ≡ sort_causes es s more
  sort-agrees individuals rest more e = e
  sort-agrees (named_sort w) rest more e = ap₂ (λ (b : Bool) (cs : Causes). (if b then None else Some UnknownSort) ∷ cs) (agree.sorts (named_sort w)) e

  sorts-agree : (ss : List SortTree) (rest more : Causes) → rest ≡ more → sorts_causes ds ss rest ≡ sorts_causes es ss more
  sorts-agree [] rest more e = e
  sorts-agree (s ∷ ss) rest more e = sort-agrees s (sorts_causes ds ss rest) (sorts_causes es ss more) (sorts-agree ss rest more e)

  result-agrees : (s : Option SortTree) → result_causes ds s [] ≡ result_causes es s []
  result-agrees None = refl
  result-agrees (Some s) = sort-agrees s [] [] refl

  pub declared-agree : (d : Declared) → declared_causes ds d ≡ declared_causes es d
  declared-agree a_sort = refl
  declared-agree (a_symbol t) = sorts-agree t.arguments (result_causes ds t.result []) (result_causes es t.result []) (result-agrees t.result)

  term-sort-agrees : (Γ : Sorting) (t : TermTree) → term_sort ds Γ t ≡ term_sort es Γ t
  term-sort-agrees Γ (variable x) = refl
  term-sort-agrees Γ (application f ts) = ap result_of (function-agrees f (terms_count ts))

  clash-agrees : (Γ : Sorting) (wanted : Option SortTree) (t : TermTree) → clash ds Γ wanted t ≡ clash es Γ wanted t
  clash-agrees Γ None t = refl
  clash-agrees Γ (Some s) t = ap (λ (u : SortTree). if same_sort s u then None else Some SortClash) (term-sort-agrees Γ t)

  mutual
    term-agrees :
        (Γ : Sorting) (wanted : Option SortTree) (t : TermTree) (rest more : Causes) → rest ≡ more → term_causes ds Γ wanted t rest ≡ term_causes es Γ wanted t more
    term-agrees Γ wanted (variable x) rest more e = ap₂ ◌∷◌ (clash-agrees Γ wanted (variable x)) e
    term-agrees Γ wanted (application f ts) rest more e =
        ap₂ ◌∷◌ (clash-agrees Γ wanted (application f ts))
        (ap (λ (type : SymbolType). terms_causes ds Γ type.arguments ts rest) (function-agrees f (terms_count ts))
        ∙ terms-agree Γ (function_type es f (terms_count ts)).arguments ts rest more e)

    terms-agree :
        (Γ : Sorting) (wanted : List SortTree) (ts : TermTrees) (rest more : Causes) → rest ≡ more → terms_causes ds Γ wanted ts rest ≡ terms_causes es Γ wanted ts more
    terms-agree Γ wanted no_terms rest more e = e
    terms-agree Γ wanted (term_then t ts) rest more e =
        term-agrees Γ (next_wanted wanted) t (terms_causes ds Γ (later_wanted wanted) ts rest) (terms_causes es Γ (later_wanted wanted) ts more)
        (terms-agree Γ (later_wanted wanted) ts rest more e)

  variables-agree : (xs : List TypedVariable) (rest more : Causes) → rest ≡ more → variables_causes ds xs rest ≡ variables_causes es xs more
  variables-agree [] rest more e = e
  variables-agree (x ∷ xs) rest more e =
      ap (λ cs. None ∷ cs) (sort-agrees x.sort (variables_causes ds xs rest) (variables_causes es xs more) (variables-agree xs rest more e))

  mutual
    pub formula-agrees : (Γ : Sorting) (f : TypedTree) (rest more : Causes) → rest ≡ more → formula_causes ds Γ f rest ≡ formula_causes es Γ f more
    formula-agrees Γ truth rest more e = e
    formula-agrees Γ falsity rest more e = e
    formula-agrees Γ (predicate p ts) rest more e =
        ap (λ cs. None ∷ cs)
        (ap (λ (type : SymbolType). terms_causes ds Γ type.arguments ts rest) (predicate-agrees p (terms_count ts))
        ∙ terms-agree Γ (predicate_type es p (terms_count ts)).arguments ts rest more e)
    formula-agrees Γ (equation positive s t) rest more e =
        term-agrees Γ None s (term_causes ds Γ (Some (term_sort ds Γ s)) t rest) (term_causes es Γ (Some (term_sort es Γ s)) t more)
        (ap (λ u. term_causes ds Γ (Some u) t rest) (term-sort-agrees Γ s) ∙ term-agrees Γ (Some (term_sort es Γ s)) t rest more e)
    formula-agrees Γ (negation f) rest more e = formula-agrees Γ f rest more e
    formula-agrees Γ (conjunction fs) rest more e = formulas-agree Γ fs rest more e
    formula-agrees Γ (disjunction fs) rest more e = formulas-agree Γ fs rest more e
    formula-agrees Γ (connected c f g) rest more e =
        formula-agrees Γ f (formula_causes ds Γ g rest) (formula_causes es Γ g more) (formula-agrees Γ g rest more e)
    formula-agrees Γ (quantified q xs f) rest more e =
        variables-agree xs (formula_causes ds (inside xs Γ) f rest) (formula_causes es (inside xs Γ) f more) (formula-agrees (inside xs Γ) f rest more e)

    pub formulas-agree : (Γ : Sorting) (fs : TypedTrees) (rest more : Causes) → rest ≡ more → formulas_causes ds Γ fs rest ≡ formulas_causes es Γ fs more
    formulas-agree Γ no_formulas rest more e = e
    formulas-agree Γ (formula_then f fs) rest more e =
        formula-agrees Γ f (formulas_causes ds Γ fs rest) (formulas_causes es Γ fs more) (formulas-agree Γ fs rest more e)
