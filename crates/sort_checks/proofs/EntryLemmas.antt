-- Where nothing is at fault each cause is none, declarations are consistent, and the problem is sorted.
use Rattle.std.proofs.Common.{◌≡◌, ℕ, suc, List, [], ◌∷◌, ◌++◌, length, append-nil, append_assoc, subst, refl, ap, sym, ◌∙◌, arith}
use Rattle.std.specs.Prelude.{Option, None, Some}
use Rattle.std.specs.List.{AllByRecursion}
use Rattle.list_lemmas.proofs.Members.{each-weaker}
use Rattle.tptp_tree.specs.Term.{TermTree, variable, application, TermTrees, no_terms, term_then}
use Rattle.tptp_problem.specs.Languages.{PlacedTree}
use Rattle.signature.specs.Occurrences.{terms_count}
use Rattle.typed_tree.specs.Sorts.{SortTree, individuals, named_sort, Declared, a_sort, a_symbol, DeclarationTree}
use Rattle.typed_tree.specs.TypedEntries.{TypedEntryTree, BodyTree, declaration_tree, formula_tree}
use Rattle.typed_tree.specs.TypedFormula.{TypedVariable, TypedTree, truth, falsity, predicate, equation, negation, conjunction, disjunction, connected, quantified, TypedTrees, no_formulas, formula_then}
use Rattle.typed_problem.specs.Declarations.{Entries, with_declaration, declarations_of, function_type, predicate_type, TypedAnnotatedTree, with_formula_of, formulas_among}
use Rattle.typed_problem.specs.RightTyped.{IsNone}
use Rattle.typed_problem.specs.SortFaults.{Causes, Sorting, SortFault, sort_causes, sorts_causes, result_causes, declared_causes, next_wanted, later_wanted, term_sort, term_causes, terms_causes, variables_causes, inside, formula_causes, formulas_causes, body_causes, first_fault, or_later, fault_among, sort_fault}
use Rattle.sort_checks.specs.Laws.{HavePlaces, SortedEntries}
use Rattle.sort_checks.proofs.AgreeLemmas.{declared-agree, formula-agrees}
use Rattle.sort_checks.proofs.SortedLemmas.{IsConsistent, consistent-more, all_of, all-agree, all-different, IsSymbol, symbols-alone, firsts-each}

-- ---- one entry

none-first : (file : List ℕ) (cs : Causes) (ps : List ℕ) → first_fault file cs ps ≡ None → length cs ≡ length ps → AllByRecursion IsNone cs
none-first file [] ps h l = tt
none-first file (c ∷ cs) [] h l = absurd (omega (arith, l))
none-first file (None ∷ cs) (p ∷ ps) h l = (refl, none-first file cs ps h (omega (arith, l)))
none-first file (Some c ∷ cs) (p ∷ ps) h l = cc

later-parts : (a b : Option SortFault) → or_later a b ≡ None → (a ≡ None) × (b ≡ None)
later-parts None b h = (refl, h)
later-parts (Some x) b h = cc

-- ---- how many causes there are doesn't depend on declarations

module _ (ds es : List DeclarationTree) where
  sort-count : (s : SortTree) (rest more : Causes) → length rest ≡ length more → length (sort_causes ds s rest) ≡ length (sort_causes es s more)
  sort-count individuals rest more e = e
  sort-count (named_sort w) rest more e = ap suc e

  sorts-count : (ss : List SortTree) (rest more : Causes) → length rest ≡ length more → length (sorts_causes ds ss rest) ≡ length (sorts_causes es ss more)
  sorts-count [] rest more e = e
  sorts-count (s ∷ ss) rest more e = sort-count s (sorts_causes ds ss rest) (sorts_causes es ss more) (sorts-count ss rest more e)

  result-count : (s : Option SortTree) → length (result_causes ds s []) ≡ length (result_causes es s [])
  result-count None = refl
  result-count (Some s) = sort-count s [] [] refl

  declared-count : (d : Declared) → length (declared_causes ds d) ≡ length (declared_causes es d)
  declared-count a_sort = refl
  declared-count (a_symbol t) = sorts-count t.arguments (result_causes ds t.result []) (result_causes es t.result []) (result-count t.result)

  mutual
    term-count :
        (Γ Δ : Sorting) (wanted other : Option SortTree) (t : TermTree) (rest more : Causes) → length rest ≡ length more
        → length (term_causes ds Γ wanted t rest) ≡ length (term_causes es Δ other t more)
    term-count Γ Δ wanted other (variable x) rest more e = ap suc e
    term-count Γ Δ wanted other (application f ts) rest more e =
        ap suc (terms-count Γ Δ (function_type ds f (terms_count ts)).arguments (function_type es f (terms_count ts)).arguments ts rest more e)

    terms-count :
        (Γ Δ : Sorting) (wanted other : List SortTree) (ts : TermTrees) (rest more : Causes) → length rest ≡ length more
        → length (terms_causes ds Γ wanted ts rest) ≡ length (terms_causes es Δ other ts more)
    terms-count Γ Δ wanted other no_terms rest more e = e
    terms-count Γ Δ wanted other (term_then t ts) rest more e =
        term-count Γ Δ (next_wanted wanted) (next_wanted other) t (terms_causes ds Γ (later_wanted wanted) ts rest) (terms_causes es Δ (later_wanted other) ts more)
        (terms-count Γ Δ (later_wanted wanted) (later_wanted other) ts rest more e)

  variables-count : (xs : List TypedVariable) (rest more : Causes) → length rest ≡ length more → length (variables_causes ds xs rest) ≡ length (variables_causes es xs more)
  variables-count [] rest more e = e
  variables-count (x ∷ xs) rest more e =
      ap suc (sort-count x.sort (variables_causes ds xs rest) (variables_causes es xs more) (variables-count xs rest more e))

  mutual
    formula-count :
        (Γ Δ : Sorting) (f : TypedTree) (rest more : Causes) → length rest ≡ length more → length (formula_causes ds Γ f rest) ≡ length (formula_causes es Δ f more)
    formula-count Γ Δ truth rest more e = e
    formula-count Γ Δ falsity rest more e = e
    formula-count Γ Δ (predicate p ts) rest more e =
        ap suc (terms-count Γ Δ (predicate_type ds p (terms_count ts)).arguments (predicate_type es p (terms_count ts)).arguments ts rest more e)
    formula-count Γ Δ (equation positive s t) rest more e =
        term-count Γ Δ None None s (term_causes ds Γ (Some (term_sort ds Γ s)) t rest) (term_causes es Δ (Some (term_sort es Δ s)) t more)
        (term-count Γ Δ (Some (term_sort ds Γ s)) (Some (term_sort es Δ s)) t rest more e)
    formula-count Γ Δ (negation f) rest more e = formula-count Γ Δ f rest more e
    formula-count Γ Δ (conjunction fs) rest more e = formulas-count Γ Δ fs rest more e
    formula-count Γ Δ (disjunction fs) rest more e = formulas-count Γ Δ fs rest more e
    formula-count Γ Δ (connected c f g) rest more e =
        formula-count Γ Δ f (formula_causes ds Γ g rest) (formula_causes es Δ g more) (formula-count Γ Δ g rest more e)
    formula-count Γ Δ (quantified q xs f) rest more e =
        variables-count xs (formula_causes ds (inside xs Γ) f rest) (formula_causes es (inside xs Δ) f more) (formula-count (inside xs Γ) (inside xs Δ) f rest more e)

    formulas-count :
        (Γ Δ : Sorting) (fs : TypedTrees) (rest more : Causes) → length rest ≡ length more → length (formulas_causes ds Γ fs rest) ≡ length (formulas_causes es Δ fs more)
    formulas-count Γ Δ no_formulas rest more e = e
    formulas-count Γ Δ (formula_then f fs) rest more e =
        formula-count Γ Δ f (formulas_causes ds Γ fs rest) (formulas_causes es Δ fs more) (formulas-count Γ Δ fs rest more e)

body-count : (ds earlier : List DeclarationTree) (b : BodyTree) → length (body_causes ds earlier b) ≡ length (body_causes [] [] b)
body-count ds earlier (declaration_tree d) = ap suc (declared-count ds [] d.declared)
body-count ds earlier (formula_tree role f) = formula-count ds [] [] [] f [] [] refl

-- ---- all entries

abbrev IsFine : List DeclarationTree → BodyTree → Type 0
IsFine ds (declaration_tree d) = AllByRecursion IsNone (declared_causes ds d.declared)
IsFine ds (formula_tree role f) = AllByRecursion IsNone (formula_causes ds [] f [])

abbrev AreFine : List DeclarationTree → Entries → Type 0
AreFine ds es = AllByRecursion (λ (e : PlacedTree TypedEntryTree). IsFine ds e.tree.body) es

fine : (ds earlier : List DeclarationTree) (es : Entries) → IsConsistent earlier → HavePlaces es → fault_among ds earlier es ≡ None → IsConsistent (earlier ++ declarations_of es) × AreFine ds es
fine ds earlier [] c p h = (subst IsConsistent (sym (append-nil earlier)) c, tt)
fine ds earlier (e ∷ es) c p h =
    let parts =
    later-parts (first_fault e.file (body_causes ds earlier e.tree.body) e.tree.places) (fault_among ds (earlier ++ with_declaration e.tree.body []) es) h in
    by e.tree.body (none-first e.file (body_causes ds earlier e.tree.body) e.tree.places parts.0 (body-count ds earlier e.tree.body ∙ p.0)) parts.1
    (λ before k g. fine ds before es k p.1 g)
  where
    by :
        (b : BodyTree) → AllByRecursion IsNone (body_causes ds earlier b) → fault_among ds (earlier ++ with_declaration b []) es ≡ None
        → ((before : List DeclarationTree) → IsConsistent before → fault_among ds before es ≡ None → IsConsistent (before ++ declarations_of es) × AreFine ds es)
        → IsConsistent (earlier ++ with_declaration b (declarations_of es)) × (IsFine ds b × AreFine ds es)
    by (declaration_tree d) n g r =
        let rest = r (earlier ++ d ∷ []) (consistent-more earlier d c n.0) g in
        (subst IsConsistent (append_assoc earlier (d ∷ []) (declarations_of es)) rest.0, (n.1, rest.1))
    by (formula_tree role f) n g r =
        let rest = r (earlier ++ []) (subst IsConsistent (sym (append-nil earlier)) c) g in
        (subst IsConsistent (append_assoc earlier [] (declarations_of es)) rest.0, (n, rest.1))

-- ---- what is listed

declared-fine : (ds : List DeclarationTree) (es : Entries) → AreFine ds es → AllByRecursion (λ (d : DeclarationTree). AllByRecursion IsNone (declared_causes ds d.declared)) (declarations_of es)
declared-fine ds [] h = tt
declared-fine ds (e ∷ es) h = by e.tree.body h.0 (declared-fine ds es h.1)
  where
    by :
        (b : BodyTree) → IsFine ds b → AllByRecursion (λ (d : DeclarationTree). AllByRecursion IsNone (declared_causes ds d.declared)) (declarations_of es)
        → AllByRecursion (λ (d : DeclarationTree). AllByRecursion IsNone (declared_causes ds d.declared)) (with_declaration b (declarations_of es))
    by (declaration_tree d) k r = (k, r)
    by (formula_tree role f) k r = r

formulas-fine :
    (ds : List DeclarationTree) (es : Entries) → AreFine ds es
    → AllByRecursion (λ (a : TypedAnnotatedTree). AllByRecursion IsNone (formula_causes ds [] a.formula [])) (formulas_among es)
formulas-fine ds [] h = tt
formulas-fine ds (e ∷ es) h = by e.tree.body h.0 (formulas-fine ds es h.1)
  where
    by :
        (b : BodyTree) → IsFine ds b → AllByRecursion (λ (a : TypedAnnotatedTree). AllByRecursion IsNone (formula_causes ds [] a.formula [])) (formulas_among es)
        → AllByRecursion (λ (a : TypedAnnotatedTree). AllByRecursion IsNone (formula_causes ds [] a.formula [])) (with_formula_of e b (formulas_among es))
    by (declaration_tree d) k r = r
    by (formula_tree role f) k r = (k, r)

-- declarations of one word say the same
pub consistent-entries : (es : Entries) → HavePlaces es → sort_fault es ≡ None → IsConsistent (declarations_of es)
consistent-entries es places h = (fine (declarations_of es) [] es tt places h).0

pub sorted-entries : SortedEntries
sorted-entries es places h = record {
  words = all-different ds both.0;
  symbols = symbols-alone ds;
  declared =
      firsts-each (λ (d : DeclarationTree). AllByRecursion IsNone (declared_causes (all_of ds) d.declared)) [] ds tt
      (each-weaker (λ (d : DeclarationTree). AllByRecursion IsNone (declared_causes ds d.declared))
      (λ (d : DeclarationTree). IsSymbol d → AllByRecursion IsNone (declared_causes (all_of ds) d.declared))
      (λ d k s. subst (AllByRecursion IsNone) (sym (declared-agree (all_of ds) ds (all-agree ds both.0) d.declared)) k) ds (declared-fine ds es both.1));
  sorted =
      each-weaker (λ (a : TypedAnnotatedTree). AllByRecursion IsNone (formula_causes ds [] a.formula []))
      (λ (a : TypedAnnotatedTree). AllByRecursion IsNone (formula_causes (all_of ds) [] a.formula []))
      (λ a k. subst (AllByRecursion IsNone) (sym (formula-agrees (all_of ds) ds (all-agree ds both.0) [] a.formula [] [] refl)) k) (formulas_among es)
      (formulas-fine ds es both.1);
}
  where
    ds : List DeclarationTree
    ds = declarations_of es

    both : IsConsistent ds × AreFine ds es
    both = fine ds [] es tt places h
