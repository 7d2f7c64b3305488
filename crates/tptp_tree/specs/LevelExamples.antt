-- Levels, names of formulas and equality, on small ones.
use Rattle.std.specs.Prelude.{◌≡◌, true, false, IsTrue, IsFalse, [], ◌∷◌, codes}
use Rattle.tptp_token.specs.Words.{bare}
use Rattle.tptp_tree.specs.Term.{TermTree, application, no_terms}
use Rattle.tptp_tree.specs.Formula.{implies, nor, nand, for_all, FormulaTree, truth, falsity, predicate, equation, negation, conjunction, connected, quantified, no_formulas, formula_then}
use Rattle.tptp_tree.specs.Printing.{formula_name_text}
use Rattle.tptp_tree.specs.Spelling.{no_phrases, word_with, variable_word, phrase_then, predicate_atom, negated, in_brackets, atomic, alone}
use Rattle.tptp_tree.specs.Entries.{plain_equation, positive_literal, negated_in_brackets, literals, clause_in_brackets, formula_body, clause_body}
use Rattle.tptp_tree.specs.Levels.{formula_levels, body_levels, SpellsFormulaWithin}
use Rattle.tptp_tree.specs.Equality.{same_formula}

abbrev p : FormulaTree
p = predicate (codes "p") no_terms

abbrev q : FormulaTree
q = predicate (codes "q") no_terms

abbrev a : TermTree
a = application (codes "a") no_terms

-- ---- levels

-- an equation after `~` is printed in parentheses, and may be written without
abbrev pub NegatedEquationLevels : Type 0
NegatedEquationLevels = formula_levels (negation (equation true a a)) ≡ 2

abbrev pub BareNegatedEquation : Type 0
BareNegatedEquation = SpellsFormulaWithin 1 (codes "~a=a") (negation (equation true a a))

-- a quantifier after `~` is printed in parentheses, and its variables stand in a bracket
abbrev pub NegatedQuantifierLevels : Type 0
NegatedQuantifierLevels = formula_levels (negation (quantified for_all (codes "X" ∷ []) p)) ≡ 4

abbrev pub NegatedTwiceLevels : Type 0
NegatedTwiceLevels = formula_levels (negation (negation p)) ≡ 2

-- the operand's parentheses are a level
abbrev pub JoinedOperandLevels : Type 0
JoinedOperandLevels = formula_levels (connected implies (conjunction (formula_then truth (formula_then falsity no_formulas))) (negation truth)) ≡ 1

-- brackets that are written count, also where they say nothing: `~((p(X)))`
abbrev pub WrittenBrackets : Type 0
WrittenBrackets =
    body_levels
    (formula_body
    (alone (negated (in_brackets (alone (in_brackets (alone (atomic (predicate_atom (bare (codes "p")) (phrase_then (variable_word (codes "X")) no_phrases))))))))))
    ≡ 4

-- `( ~(a = a) | p )`
abbrev pub WrittenClause : Type 0
WrittenClause =
    body_levels
    (clause_body
    (clause_in_brackets
    (literals (negated_in_brackets (plain_equation (word_with (bare (codes "a")) no_phrases) (word_with (bare (codes "a")) no_phrases)))
    (positive_literal (predicate_atom (bare (codes "p")) no_phrases) ∷ []))))
    ≡ 3

-- ---- names of formulas

-- digits alone, and a name that begins with one
abbrev pub DigitsName : Type 0
DigitsName = formula_name_text (codes "012") ≡ codes "012"

abbrev pub QuotedName : Type 0
QuotedName = formula_name_text (codes "1a") ≡ codes "'1a'"

abbrev pub BareName : Type 0
BareName = formula_name_text (codes "a1") ≡ codes "a1"

-- ---- equality

abbrev pub SameImplication : Type 0
SameImplication = IsTrue (same_formula (connected implies p q) (connected implies p q))

abbrev pub TurnedImplication : Type 0
TurnedImplication = IsFalse (same_formula (connected implies p q) (connected implies q p))

abbrev pub OtherConnective : Type 0
OtherConnective = IsFalse (same_formula (connected nor p q) (connected nand p q))

-- `a != a` is no negation
abbrev pub InequationAndNegation : Type 0
InequationAndNegation = IsFalse (same_formula (equation false a a) (negation (equation true a a)))
