-- The levels of printed texts.
use Rattle.std.proofs.Common.{◌≡◌, ℕ, suc, ◌*◌, ◌≤◌, List, [], ◌∷◌, ◌↔◌, refl, ap, ap₂, sym, ◌∙◌, subst, arith}
use Rattle.std.specs.Prelude.{max}
use Rattle.tptp_token.specs.Lexemes.{IsLexedAs}
use Rattle.tptp_tree.specs.Formula.{FormulaTree, truth, falsity, predicate, equation, negation, conjunction, disjunction, connected, quantified, FormulaTrees, no_formulas, formula_then}
use Rattle.tptp_tree.specs.Printing.{is_bare, formula_text}
use Rattle.tptp_tree.specs.Spelling.{phrase_lexemes, SpellsFormula}
use Rattle.tptp_tree.specs.Levels.{formula_levels, operands_levels, arguments_levels, term_levels, unit_levels, units_levels, phrase_levels, SpellsFormulaWithin, IsWrittenWithin}
use Rattle.tptp_tree.proofs.AboutPrinting.CanonicalLemmas.{WellFormula, WellFormulas, term-meant, terms-meant, formula-meant, unit_of, negated_unit, phrase_of, units_of}
use Rattle.tptp_tree.proofs.AboutPrinting.AgainLemmas.{formula-lexed}
use Rattle.tptp_tree.proofs.AboutUniqueness.UniqueLemmas.{one_phrase}
use Rattle.tptp_tree.proofs.AboutPrinting.WellLemmas.{spelled-well}
use Rattle.tptp_tree.proofs.AboutLevels.LevelLemmas.{operand_levels, negated_levels, phrase-twice, body-twice}

abbrev HasItsLevels : FormulaTree → Type 0
HasItsLevels f = phrase_levels (phrase_of f) ≡ formula_levels f

operand-has : (f : FormulaTree) → WellFormula f → HasItsLevels f → unit_levels (unit_of (phrase_of f)) ≡ operand_levels f
operand-has truth w h = h
operand-has falsity w h = h
operand-has (predicate p ts) w h = h
operand-has (equation positive s t) w h = h
operand-has (negation f) w h = h
operand-has (conjunction no_formulas) w h = absurd w.0
operand-has (conjunction (formula_then f no_formulas)) w h = absurd w.0
operand-has (conjunction (formula_then f (formula_then g fs))) w h = ap suc h
operand-has (disjunction no_formulas) w h = absurd w.0
operand-has (disjunction (formula_then f no_formulas)) w h = absurd w.0
operand-has (disjunction (formula_then f (formula_then g fs))) w h = ap suc h
operand-has (connected c f g) w h = ap suc h
operand-has (quantified q xs f) w h = h

negated-has : (f : FormulaTree) → HasItsLevels f → unit_levels (negated_unit (is_bare f) (phrase_of f)) ≡ negated_levels f
negated-has truth h = h
negated-has falsity h = h
negated-has (predicate p ts) h = h
negated-has (equation positive s t) h = ap suc h
negated-has (negation f) h = h
negated-has (conjunction fs) h = ap suc h
negated-has (disjunction fs) h = ap suc h
negated-has (connected c f g) h = ap suc h
negated-has (quantified q xs f) h = ap suc h

mutual
  pub printed-has : (f : FormulaTree) → WellFormula f → HasItsLevels f
  printed-has truth w = refl
  printed-has falsity w = refl
  printed-has (predicate p ts) w = ap arguments_levels (terms-meant ts)
  printed-has (equation positive s t) w = ap₂ (λ t u. max (term_levels t) (term_levels u)) (term-meant s) (term-meant t)
  printed-has (negation f) w = ap suc (negated-has f (printed-has f w))
  printed-has (conjunction no_formulas) w = absurd w.0
  printed-has (conjunction (formula_then f no_formulas)) w = absurd w.0
  printed-has (conjunction (formula_then f (formula_then g fs))) w = operands-have (formula_then f (formula_then g fs)) w.1
  printed-has (disjunction no_formulas) w = absurd w.0
  printed-has (disjunction (formula_then f no_formulas)) w = absurd w.0
  printed-has (disjunction (formula_then f (formula_then g fs))) w = operands-have (formula_then f (formula_then g fs)) w.1
  printed-has (connected c f g) w =
      ap₂ (λ n m. max n m) (operand-has f w.0 (printed-has f w.0)) (operand-has g w.1 (printed-has g w.1))
  printed-has (quantified q [] f) w = absurd w.0
  printed-has (quantified q (x ∷ xs) f) w = ap (λ n. suc (max 1 n)) (operand-has f w.2 (printed-has f w.2))

  operands-have : (fs : FormulaTrees) → WellFormulas fs → units_levels (units_of fs) ≡ operands_levels fs
  operands-have no_formulas w = refl
  operands-have (formula_then f fs) w = ap₂ (λ n m. max n m) (operand-has f w.0 (printed-has f w.0)) (operands-have fs w.1)

-- ---- texts

pub within-its-levels :
    (levels : ℕ) (text : List ℕ) (f : FormulaTree) → SpellsFormula text f → formula_levels f ≤ levels
    → SpellsFormulaWithin levels (formula_text f) f
within-its-levels levels text f s h =
    let well : WellFormula f = subst WellFormula s.2 (spelled-well text s.0 s.1) in
    (phrase_of f, formula-lexed f well, formula-meant f well, omega (arith, h, printed-has f well))

pub printing-doubles :
    (levels : ℕ) (text : List ℕ) (f : FormulaTree) → SpellsFormulaWithin levels text f → SpellsFormulaWithin (2 * levels) (formula_text f) f
printing-doubles levels text f s =
    within-its-levels (2 * levels) text f (s.0, s.1, s.2)
    (omega (arith, ap formula_levels s.2, phrase-twice s.0, s.3))

pub written-doubles :
    (levels : ℕ) (f : FormulaTree) → IsWrittenWithin levels f → SpellsFormula (formula_text f) f
    → SpellsFormulaWithin (2 * levels) (formula_text f) f
written-doubles levels f w s =
    within-its-levels (2 * levels) (formula_text f) f s (omega (arith, ap formula_levels w.1, body-twice w.0, w.2))

pub printed-exactly :
    (levels : ℕ) (f : FormulaTree) → SpellsFormula (formula_text f) f → SpellsFormulaWithin levels (formula_text f) f ↔ (formula_levels f ≤ levels)
printed-exactly levels f s = (says, λ h. within-its-levels levels (formula_text f) f s h)
  where
    says : SpellsFormulaWithin levels (formula_text f) f → formula_levels f ≤ levels
    says t =
        let well : WellFormula f = subst WellFormula s.2 (spelled-well (formula_text f) s.0 s.1) in
        let lexed : IsLexedAs (formula_text f) (phrase_lexemes (phrase_of f) []) = formula-lexed f well in
        let same : t.0 ≡ phrase_of f = one_phrase t.0 (phrase_of f) (sym t.1.tokens ∙ lexed.tokens) in
        omega (arith, ap phrase_levels same, printed-has f well, t.3)
