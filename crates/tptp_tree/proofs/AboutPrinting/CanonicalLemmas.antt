-- The phrases that are printed for terms and formulas.
use Rattle.std.proofs.Common.{◌≡◌, ℕ, Bool, true, false, List, [], ◌∷◌, refl, ap, ap₂, ◌∙◌}
use Rattle.std.specs.List.{AllByRecursion}
use Rattle.tptp_token.specs.Spelling.{is_variable_word}
use Rattle.tptp_tree.specs.Term.{TermTree, variable, application, TermTrees, no_terms, term_then}
use Rattle.tptp_tree.specs.Formula.{Quantifier, FormulaTree, truth, falsity, predicate, equation, negation, conjunction, disjunction, connected, quantified, FormulaTrees, no_formulas, formula_then}
use Rattle.tptp_tree.specs.Printing.{is_bare}
use Rattle.tptp_tree.specs.Spelling.{TermPhrase, variable_word, word_with, TermPhrases, no_phrases, phrase_then, term_meant, terms_meant, true_atom, false_atom, predicate_atom, equation_atom, UnitPhrase, negated, bound, in_brackets, atomic, UnitPhrases, no_units, unit_then, Phrase, alone, all_of, some_of, joined_by, unit_meant, units_meant, meant}
use Rattle.tptp_tree.proofs.AboutNames.NameLemmas.{WellName, word_of, name_of-word_of}

-- ---- what a text can spell

abbrev mutual
  pub WellTerm : TermTree → Type 0
  WellTerm (variable x) = is_variable_word x ≡ true
  WellTerm (application f ts) = WellName f × WellTerms ts

  pub WellTerms : TermTrees → Type 0
  WellTerms no_terms = Unit {0}
  WellTerms (term_then t ts) = WellTerm t × WellTerms ts

-- at least two operands
abbrev pub AtLeastTwo : FormulaTrees → Type 0
AtLeastTwo no_formulas = ⊥
AtLeastTwo (formula_then f no_formulas) = ⊥
AtLeastTwo (formula_then f (formula_then g fs)) = Unit {0}

-- at least one variable
abbrev pub AtLeastOne : List (List ℕ) → Type 0
AtLeastOne [] = ⊥
AtLeastOne (x ∷ xs) = Unit {0}

abbrev mutual
  pub WellFormula : FormulaTree → Type 0
  WellFormula truth = Unit {0}
  WellFormula falsity = Unit {0}
  WellFormula (predicate p ts) = WellName p × WellTerms ts
  WellFormula (equation positive s t) = WellTerm s × WellTerm t
  WellFormula (negation f) = WellFormula f
  WellFormula (conjunction fs) = AtLeastTwo fs × WellFormulas fs
  WellFormula (disjunction fs) = AtLeastTwo fs × WellFormulas fs
  WellFormula (connected c f g) = WellFormula f × WellFormula g
  WellFormula (quantified q xs f) = AtLeastOne xs × AllByRecursion (λ x. is_variable_word x ≡ true) xs × WellFormula f

  pub WellFormulas : FormulaTrees → Type 0
  WellFormulas no_formulas = Unit {0}
  WellFormulas (formula_then f fs) = WellFormula f × WellFormulas fs

-- ---- phrases

abbrev mutual
  pub term_phrase : TermTree → TermPhrase
  term_phrase (variable x) = variable_word x
  term_phrase (application f ts) = word_with (word_of f) (term_phrases ts)

  pub term_phrases : TermTrees → TermPhrases
  term_phrases no_terms = no_phrases
  term_phrases (term_then t ts) = phrase_then (term_phrase t) (term_phrases ts)

-- a phrase as a unit
abbrev pub unit_of : Phrase → UnitPhrase
unit_of (alone u) = u
unit_of (all_of u v us) = in_brackets (all_of u v us)
unit_of (some_of u v us) = in_brackets (some_of u v us)
unit_of (joined_by c u v) = in_brackets (joined_by c u v)

-- what is negated
abbrev pub negated_unit : Bool → Phrase → UnitPhrase
negated_unit true p = unit_of p
negated_unit false p = in_brackets p

abbrev pub all_from : UnitPhrases → Phrase
all_from no_units = alone (atomic true_atom)
all_from (unit_then u no_units) = alone u
all_from (unit_then u (unit_then v us)) = all_of u v us

abbrev pub some_from : UnitPhrases → Phrase
some_from no_units = alone (atomic true_atom)
some_from (unit_then u no_units) = alone u
some_from (unit_then u (unit_then v us)) = some_of u v us

abbrev pub bound_unit : Quantifier → List (List ℕ) → UnitPhrase → UnitPhrase
bound_unit q [] u = u
bound_unit q (x ∷ xs) u = bound q (record { first = x; others = xs }) u

abbrev mutual
  pub phrase_of : FormulaTree → Phrase
  phrase_of truth = alone (atomic true_atom)
  phrase_of falsity = alone (atomic false_atom)
  phrase_of (predicate p ts) = alone (atomic (predicate_atom (word_of p) (term_phrases ts)))
  phrase_of (equation positive s t) = alone (atomic (equation_atom positive (term_phrase s) (term_phrase t)))
  phrase_of (negation f) = alone (negated (negated_unit (is_bare f) (phrase_of f)))
  phrase_of (conjunction fs) = all_from (units_of fs)
  phrase_of (disjunction fs) = some_from (units_of fs)
  phrase_of (connected c f g) = joined_by c (unit_of (phrase_of f)) (unit_of (phrase_of g))
  phrase_of (quantified q xs f) = alone (bound_unit q xs (unit_of (phrase_of f)))

  pub units_of : FormulaTrees → UnitPhrases
  units_of no_formulas = no_units
  units_of (formula_then f fs) = unit_then (unit_of (phrase_of f)) (units_of fs)

-- ---- their formulas

mutual
  pub term-meant : (t : TermTree) → term_meant (term_phrase t) ≡ t
  term-meant (variable x) = refl
  term-meant (application f ts) = ap₂ application (name_of-word_of f) (terms-meant ts)

  pub terms-meant : (ts : TermTrees) → terms_meant (term_phrases ts) ≡ ts
  terms-meant no_terms = refl
  terms-meant (term_then t ts) = ap₂ term_then (term-meant t) (terms-meant ts)

unit-meant : (p : Phrase) → unit_meant (unit_of p) ≡ meant p
unit-meant (alone u) = refl
unit-meant (all_of u v us) = refl
unit-meant (some_of u v us) = refl
unit-meant (joined_by c u v) = refl

negated-meant : (t : Bool) (p : Phrase) → unit_meant (negated_unit t p) ≡ meant p
negated-meant true p = unit-meant p
negated-meant false p = refl

all-meant : (fs : FormulaTrees) → AtLeastTwo fs → meant (all_from (units_of fs)) ≡ conjunction (units_meant (units_of fs))
all-meant no_formulas h = absurd h
all-meant (formula_then f no_formulas) h = absurd h
all-meant (formula_then f (formula_then g fs)) h = refl

some-meant : (fs : FormulaTrees) → AtLeastTwo fs → meant (some_from (units_of fs)) ≡ disjunction (units_meant (units_of fs))
some-meant no_formulas h = absurd h
some-meant (formula_then f no_formulas) h = absurd h
some-meant (formula_then f (formula_then g fs)) h = refl

bound-meant : (q : Quantifier) (xs : List (List ℕ)) (u : UnitPhrase) → AtLeastOne xs → unit_meant (bound_unit q xs u) ≡ quantified q xs (unit_meant u)
bound-meant q [] u h = absurd h
bound-meant q (x ∷ xs) u h = refl

mutual
  pub formula-meant : (f : FormulaTree) → WellFormula f → meant (phrase_of f) ≡ f
  formula-meant truth w = refl
  formula-meant falsity w = refl
  formula-meant (predicate p ts) w = ap₂ predicate (name_of-word_of p) (terms-meant ts)
  formula-meant (equation positive s t) w = ap₂ (equation positive) (term-meant s) (term-meant t)
  formula-meant (negation f) w = ap negation (negated-meant (is_bare f) (phrase_of f) ∙ formula-meant f w)
  formula-meant (conjunction fs) w = all-meant fs w.0 ∙ ap conjunction (formulas-meant fs w.1)
  formula-meant (disjunction fs) w = some-meant fs w.0 ∙ ap disjunction (formulas-meant fs w.1)
  formula-meant (connected c f g) w =
      ap₂ (connected c) (unit-meant (phrase_of f) ∙ formula-meant f w.0) (unit-meant (phrase_of g) ∙ formula-meant g w.1)
  formula-meant (quantified q xs f) w =
      bound-meant q xs (unit_of (phrase_of f)) w.0
      ∙ ap (quantified q xs) (unit-meant (phrase_of f) ∙ formula-meant f w.2)

  pub formulas-meant : (fs : FormulaTrees) → WellFormulas fs → units_meant (units_of fs) ≡ fs
  formulas-meant no_formulas w = refl
  formulas-meant (formula_then f fs) w =
      ap₂ formula_then (unit-meant (phrase_of f) ∙ formula-meant f w.0) (formulas-meant fs w.1)
