-- The symbols of the form of a problem that was read, `$true` aside, have names that are shown.
use Rattle.std.proofs.Common.{◌≡◌, ℕ, zero, suc, ◌+◌, Bool, true, false, List, [], ◌∷◌, ◌++◌, codes, Some, refl, ◌∙◌, subst, arith, length-append}
use Rattle.std.specs.Prelude.{fold, flat_map, slice_get, if◌then◌else◌}
use Rattle.std.specs.Fmt.{decimal}
use Rattle.std.specs.List.{list_any, list_all, AllByRecursion}
use Rattle.std.proofs.lemmas.Bool.{and_from}
use Rattle.std.proofs.lemmas.List.Folds.{list_all-append}
use Rattle.std.proofs.lemmas.Option.{none-some, same_Some}
use Rattle.tptp_token.specs.Spelling.{is_printable}
use Rattle.tptp_tree.specs.Term.{TermTree, variable, application, TermTrees, no_terms, term_then}
use Rattle.tptp_tree.specs.Formula.{FormulaTree, truth, falsity, predicate, equation, negation, conjunction, disjunction, connected, quantified, FormulaTrees, no_formulas, formula_then}
use Rattle.tptp_tree.specs.Printing.{formula_text}
use Rattle.tptp_tree.specs.Shape.{formula_of, entry_of}
use Rattle.tptp_tree.specs.Entries.{AnnotatedTree}
use Rattle.tptp_tree.specs.declared.problem.Annotated.{Annotated}
use Rattle.tptp_tree.proofs.NameLemmas.{WellName}
use Rattle.tptp_tree.proofs.CanonicalLemmas.{WellTerm, WellTerms, WellFormula, WellFormulas}
use Rattle.tptp_tree.proofs.WellLemmas.{spelled-well}
use Rattle.signature.specs.declared.symbol.Symbol.{Symbol}
use Rattle.signature.specs.Symbol.{predicate_symbol, function_symbol, true_symbol, has_symbol, with_symbol}
use Rattle.signature.specs.Occurrences.{term_symbols, terms_symbols, formula_symbols, formulas_symbols, annotated_symbols, problem_symbols}
use Rattle.signature.specs.Prefix.{underscores, needed, fresh_prefix_of}
use Rattle.signature.specs.Clausal.{Made}
use Rattle.signature.specs.Form.{numbered_symbols, is_constant, spare_constant, with_skolem, with_naming, form_symbols, problem_form, clausal_form}
use Rattle.tstp_writer.specs.Printable.{IsShown}
use Rattle.tstp_writer.specs.ProblemLaws.{IsPrintableEntry, ArePrintableEntries}
use Rattle.tstp_writer.specs.WrittenTexts.{AreShownSymbols}
use Rattle.tstp_writer.proofs.ReadAgain.ProblemLemmas.{decimal-printable}

-- ---- lists of symbols

abbrev AreShown : List Symbol → Type 0
AreShown ss = AllByRecursion (λ (s : Symbol). IsShown s.name) ss

-- all behind the first
abbrev ShownBehind : List Symbol → Type 0
ShownBehind [] = ⊥
ShownBehind (s ∷ ss) = AreShown ss

both-shown : (ss us : List Symbol) → AreShown ss → AreShown us → AreShown (ss ++ us)
both-shown [] us h k = k
both-shown (s ∷ ss) us h k = (h.0, both-shown ss us h.1 k)

behind-shown : (ss us : List Symbol) → ShownBehind ss → AreShown us → ShownBehind (ss ++ us)
behind-shown [] us h k = absurd h
behind-shown (s ∷ ss) us h k = both-shown ss us h k

at-shown : (ss : List Symbol) (n : ℕ) (s : Symbol) → AreShown ss → slice_get ss n ≡ Some s → IsShown s.name
at-shown [] n s h e = absurd (none-some s e)
at-shown (u ∷ us) zero s h e = subst (λ (v : Symbol). IsShown v.name) (same_Some u s e) h.0
at-shown (u ∷ us) (suc n) s h e = at-shown us n s h.1 e

all-shown : (ss : List Symbol) → ShownBehind ss → AreShownSymbols ss
all-shown [] h n s e = absurd h
all-shown (u ∷ us) h n s e = at-shown us n s h e

-- ---- the symbols of a problem

shown : (name : List ℕ) → WellName name → IsShown name
shown name w = record { printable = w.printable; some = w.some }

mutual
  term-shown : (t : TermTree) → WellTerm t → AreShown (term_symbols t)
  term-shown (variable x) w = tt
  term-shown (application f ts) w = (shown f w.0, terms-shown ts w.1)

  terms-shown : (ts : TermTrees) → WellTerms ts → AreShown (terms_symbols ts)
  terms-shown no_terms w = tt
  terms-shown (term_then t ts) w =
      both-shown (term_symbols t) (terms_symbols ts) (term-shown t w.0) (terms-shown ts w.1)

mutual
  formula-shown : (f : FormulaTree) → WellFormula f → AreShown (formula_symbols f)
  formula-shown truth w = tt
  formula-shown falsity w = tt
  formula-shown (predicate p ts) w = (shown p w.0, terms-shown ts w.1)
  formula-shown (equation positive s t) w = both-shown (term_symbols s) (term_symbols t) (term-shown s w.0) (term-shown t w.1)
  formula-shown (negation f) w = formula-shown f w
  formula-shown (conjunction fs) w = formulas-shown fs w.1
  formula-shown (disjunction fs) w = formulas-shown fs w.1
  formula-shown (connected c f g) w =
      both-shown (formula_symbols f) (formula_symbols g) (formula-shown f w.0) (formula-shown g w.1)
  formula-shown (quantified q xs f) w = formula-shown f w.2

  formulas-shown : (fs : FormulaTrees) → WellFormulas fs → AreShown (formulas_symbols fs)
  formulas-shown no_formulas w = tt
  formulas-shown (formula_then f fs) w =
      both-shown (formula_symbols f) (formulas_symbols fs) (formula-shown f w.0) (formulas-shown fs w.1)

entry-well : (a : AnnotatedTree) → IsPrintableEntry a → WellFormula a.formula
entry-well a e = subst WellFormula e.spelled.2 (spelled-well (formula_text a.formula) e.spelled.0 e.spelled.1)

entries-shown :
    (fs : List Annotated) → ArePrintableEntries fs → AreShown (flat_map annotated_symbols fs)
entries-shown [] h = tt
entries-shown (a ∷ fs) h =
    both-shown (annotated_symbols a) (flat_map annotated_symbols fs) (formula-shown (formula_of a.formula) (entry-well (entry_of a) h.0))
    (entries-shown fs h.1)

with-shown : (known : List Symbol) (s : Symbol) → ShownBehind known → IsShown s.name → ShownBehind (with_symbol known s)
with-shown known s h k = by (has_symbol s known)
  where
    by : (t : Bool) → ShownBehind (if t then known else known ++ s ∷ [])
    by true = h
    by false = behind-shown known (s ∷ []) h (k, tt)

met-shown : (known ss : List Symbol) → ShownBehind known → AreShown ss → ShownBehind (fold with_symbol known ss)
met-shown known [] h k = h
met-shown known (s ∷ ss) h k = met-shown (with_symbol known s) ss (with-shown known s h k.0) k.1

-- ---- the symbols that the product makes

underscores-printable : (n : ℕ) → list_all is_printable (underscores n) ≡ true
underscores-printable zero = refl
underscores-printable (suc n) = and_from (is_printable 95) (list_all is_printable (underscores n)) refl (underscores-printable n)

pub made-shown : (base : List ℕ) → IsShown base → (symbols : List Symbol) (k : ℕ) → IsShown (fresh_prefix_of symbols base ++ decimal k)
made-shown base h symbols k =
    let low : List ℕ = underscores (needed symbols base) in
    let prefix : list_all is_printable (base ++ low) ≡ true =
    list_all-append is_printable base low
    ∙ and_from (list_all is_printable base) (list_all is_printable low) h.printable (underscores-printable (needed symbols base)) in
    record {
      printable =
          list_all-append is_printable (base ++ low) (decimal k)
          ∙ and_from (list_all is_printable (base ++ low)) (list_all is_printable (decimal k)) prefix (decimal-printable k);
      some = omega (arith, length-append (base ++ low) (decimal k), length-append base low, h.some);
    }

functions-shown :
    (prefix : List ℕ) → ((k : ℕ) → IsShown (prefix ++ decimal k)) → (number : ℕ) (arities : List ℕ)
    → AreShown (numbered_symbols function_symbol prefix number arities)
functions-shown prefix each number [] = tt
functions-shown prefix each number (arity ∷ arities) = (each number, functions-shown prefix each (number + 1) arities)

predicates-shown :
    (prefix : List ℕ) → ((k : ℕ) → IsShown (prefix ++ decimal k)) → (number : ℕ) (arities : List ℕ)
    → AreShown (numbered_symbols predicate_symbol prefix number arities)
predicates-shown prefix each number [] = tt
predicates-shown prefix each number (arity ∷ arities) = (each number, predicates-shown prefix each (number + 1) arities)

spare-shown : (prefix : List ℕ) (symbols : List Symbol) → IsShown (prefix ++ decimal 0) → AreShown (spare_constant prefix symbols)
spare-shown prefix symbols h = by (list_any is_constant symbols)
  where
    by : (t : Bool) → AreShown (if t then [] else function_symbol (prefix ++ decimal 0) 0 ∷ [])
    by true = tt
    by false = (h, tt)

form-shown : (symbols : List Symbol) (m : Made) → ShownBehind symbols → ShownBehind (form_symbols symbols m)
form-shown symbols m h =
    let skolem : ShownBehind (with_skolem symbols m) =
    behind-shown symbols (numbered_symbols function_symbol (fresh_prefix_of symbols (codes "sk")) 0 m.skolem_arities) h
    (functions-shown (fresh_prefix_of symbols (codes "sk"))
    (made-shown (codes "sk") (record { printable = refl; some = omega arith }) symbols) 0 m.skolem_arities) in
    let naming : ShownBehind (with_naming symbols m) =
    behind-shown (with_skolem symbols m)
    (numbered_symbols predicate_symbol (fresh_prefix_of symbols (codes "nm")) 0 m.naming_arities) skolem
    (predicates-shown (fresh_prefix_of symbols (codes "nm"))
    (made-shown (codes "nm") (record { printable = refl; some = omega arith }) symbols) 0 m.naming_arities) in
    behind-shown (with_naming symbols m) (spare_constant (fresh_prefix_of symbols (codes "hc")) (with_naming symbols m)) naming
    (spare-shown (fresh_prefix_of symbols (codes "hc")) (with_naming symbols m)
    (made-shown (codes "hc") (record { printable = refl; some = omega arith }) symbols 0))

pub form-symbols-shown :
    (problem : List Annotated) → ArePrintableEntries problem → AreShownSymbols (clausal_form problem).symbols
form-symbols-shown problem h =
    all-shown (clausal_form problem).symbols
    (form-shown (problem_symbols problem) (problem_form problem).made
    (met-shown (true_symbol ∷ []) (flat_map annotated_symbols problem) tt
    (entries-shown problem h)))
