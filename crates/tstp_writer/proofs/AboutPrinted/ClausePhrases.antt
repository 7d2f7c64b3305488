-- A formula that is a clause, as a phrase of `cnf`: its tokens, its meaning and the causes of its tokens are those of the formula.
use Rattle.std.proofs.Common.{◌≡◌, true, false, List, [], ◌∷◌, codes, Option, None, refl, ap, ap₂, ◌∙◌}
use Rattle.std.specs.List.{list_all}
use Rattle.std.proofs.lemmas.Bool.{and_parts}
use Rattle.tptp_token.specs.Lexemes.{Lexeme, lexeme}
use Rattle.tptp_token.specs.declared.token.Kind.TheVariants.{Connective}
use Rattle.tptp_tree.specs.Formula.{FormulaTree, truth, falsity, predicate, equation, negation, conjunction, disjunction, connected, quantified, FormulaTrees, no_formulas, formula_then, list_of_formulas}
use Rattle.tptp_tree.specs.Spelling.{true_atom, false_atom, predicate_atom, equation_atom, unit_lexemes, units_lexemes, phrase_lexemes}
use Rattle.tptp_tree.specs.Entries.{plain_true, plain_false, plain_predicate, plain_equation, LiteralPhrase, positive_literal, negated_literal, negated_in_brackets, ClausePhrase, literals, literal_lexemes, more_literals_lexemes, clause_lexemes, literal_meant, literals_meant, clause_meant}
use Rattle.tptp_tree.specs.Causes.{Refusal, Surroundings, literal_causes, more_literals_causes, clause_causes, unit_causes, units_causes, phrase_causes}
use Rattle.tptp_tree.proofs.NameLemmas.{word_of, name_of-word_of}
use Rattle.tptp_tree.proofs.CanonicalLemmas.{WellFormula, term_phrase, term_phrases, phrase_of, units_of, unit_of, term-meant, terms-meant}
use Rattle.tstp_writer.specs.Printable.{is_plain_atom, is_literal_formula, is_clause_formula}

-- ---- phrases

abbrev negated_of : FormulaTree → LiteralPhrase
negated_of truth = negated_literal plain_true
negated_of falsity = negated_literal plain_false
negated_of (predicate p ts) = negated_literal (plain_predicate (word_of p) (term_phrases ts))
negated_of (equation positive s t) = negated_in_brackets (plain_equation (term_phrase s) (term_phrase t))
negated_of (negation f) = negated_literal plain_true
negated_of (conjunction fs) = negated_literal plain_true
negated_of (disjunction fs) = negated_literal plain_true
negated_of (connected c f g) = negated_literal plain_true
negated_of (quantified q xs f) = negated_literal plain_true

abbrev literal_of : FormulaTree → LiteralPhrase
literal_of truth = positive_literal true_atom
literal_of falsity = positive_literal false_atom
literal_of (predicate p ts) = positive_literal (predicate_atom (word_of p) (term_phrases ts))
literal_of (equation positive s t) = positive_literal (equation_atom positive (term_phrase s) (term_phrase t))
literal_of (negation f) = negated_of f
literal_of (conjunction fs) = positive_literal true_atom
literal_of (disjunction fs) = positive_literal true_atom
literal_of (connected c f g) = positive_literal true_atom
literal_of (quantified q xs f) = positive_literal true_atom

abbrev literals_from : FormulaTrees → List LiteralPhrase
literals_from no_formulas = []
literals_from (formula_then f fs) = literal_of f ∷ literals_from fs

abbrev clause_from : FormulaTrees → ClausePhrase
clause_from no_formulas = literals (positive_literal true_atom) []
clause_from (formula_then f fs) = literals (literal_of f) (literals_from fs)

abbrev pub clause_of : FormulaTree → ClausePhrase
clause_of truth = literals (literal_of truth) []
clause_of falsity = literals (literal_of falsity) []
clause_of (predicate p ts) = literals (literal_of (predicate p ts)) []
clause_of (equation positive s t) = literals (literal_of (equation positive s t)) []
clause_of (negation f) = literals (negated_of f) []
clause_of (conjunction fs) = literals (positive_literal true_atom) []
clause_of (disjunction fs) = clause_from fs
clause_of (connected c f g) = literals (positive_literal true_atom) []
clause_of (quantified q xs f) = literals (positive_literal true_atom) []

-- ---- literals

record IsLiteralOf (l : LiteralPhrase) (f : FormulaTree) : Type 0 where
  tokens : (rest : List Lexeme) → literal_lexemes l rest ≡ unit_lexemes (unit_of (phrase_of f)) rest
  meant : literal_meant l ≡ f
  causes : (s : Surroundings) (rest : List (Option Refusal)) → literal_causes s l rest ≡ unit_causes s (unit_of (phrase_of f)) rest

negated-is : (f : FormulaTree) → is_plain_atom f ≡ true → IsLiteralOf (negated_of f) (negation f)
negated-is truth h = record { tokens = λ rest. refl; meant = refl; causes = λ s rest. refl }
negated-is falsity h = record { tokens = λ rest. refl; meant = refl; causes = λ s rest. refl }
negated-is (predicate p ts) h =
    record {
      tokens = λ rest. refl;
      meant = ap negation (ap₂ predicate (name_of-word_of p) (terms-meant ts));
      causes = λ s rest. refl;
    }
negated-is (equation true s t) h =
    record {
      tokens = λ rest. refl;
      meant = ap negation (ap₂ (equation true) (term-meant s) (term-meant t));
      causes = λ s rest. refl;
    }
negated-is (equation false s t) h = absurd (let e : false ≡ true = h in cc)
negated-is (negation f) h = absurd (let e : false ≡ true = h in cc)
negated-is (conjunction fs) h = absurd (let e : false ≡ true = h in cc)
negated-is (disjunction fs) h = absurd (let e : false ≡ true = h in cc)
negated-is (connected c f g) h = absurd (let e : false ≡ true = h in cc)
negated-is (quantified q xs f) h = absurd (let e : false ≡ true = h in cc)

literal-is : (f : FormulaTree) → is_literal_formula f ≡ true → IsLiteralOf (literal_of f) f
literal-is truth h = record { tokens = λ rest. refl; meant = refl; causes = λ s rest. refl }
literal-is falsity h = record { tokens = λ rest. refl; meant = refl; causes = λ s rest. refl }
literal-is (predicate p ts) h =
    record {
      tokens = λ rest. refl;
      meant = ap₂ predicate (name_of-word_of p) (terms-meant ts);
      causes = λ s rest. refl;
    }
literal-is (equation positive s t) h =
    record {
      tokens = λ rest. refl;
      meant = ap₂ (equation positive) (term-meant s) (term-meant t);
      causes = λ s rest. refl;
    }
literal-is (negation f) h = negated-is f h
literal-is (conjunction fs) h = absurd (let e : false ≡ true = h in cc)
literal-is (disjunction fs) h = absurd (let e : false ≡ true = h in cc)
literal-is (connected c f g) h = absurd (let e : false ≡ true = h in cc)
literal-is (quantified q xs f) h = absurd (let e : false ≡ true = h in cc)

-- ---- clauses

record AreLiteralsOf (ls : List LiteralPhrase) (fs : FormulaTrees) : Type 0 where
  tokens : (rest : List Lexeme) → more_literals_lexemes ls rest ≡ units_lexemes (lexeme Connective (codes "|")) (units_of fs) rest
  meant : literals_meant ls ≡ fs
  causes : (s : Surroundings) (rest : List (Option Refusal)) → more_literals_causes s ls rest ≡ units_causes s (units_of fs) rest

literals-are : (fs : FormulaTrees) → list_all is_literal_formula (list_of_formulas fs) ≡ true → AreLiteralsOf (literals_from fs) fs
literals-are no_formulas h = record { tokens = λ rest. refl; meant = refl; causes = λ s rest. refl }
literals-are (formula_then f fs) h =
    let each = and_parts (is_literal_formula f) (list_all is_literal_formula (list_of_formulas fs)) h in
    let first : IsLiteralOf (literal_of f) f = literal-is f each.0 in
    let more : AreLiteralsOf (literals_from fs) fs = literals-are fs each.1 in
    record {
      tokens =
          λ rest.
          ap (λ us. lexeme Connective (codes "|") ∷ us)
          (ap (literal_lexemes (literal_of f)) (more.tokens rest)
          ∙ first.tokens (units_lexemes (lexeme Connective (codes "|")) (units_of fs) rest));
      meant = ap₂ formula_then first.meant more.meant;
      causes =
          λ s rest.
          ap (λ us. None ∷ us)
          (ap (literal_causes s (literal_of f)) (more.causes s rest) ∙ first.causes s (units_causes s (units_of fs) rest));
    }

pub record IsClauseOf (c : ClausePhrase) (f : FormulaTree) : Type 0 where
  pub tokens : (rest : List Lexeme) → clause_lexemes c rest ≡ phrase_lexemes (phrase_of f) rest
  pub meant : clause_meant c ≡ f
  pub causes : (s : Surroundings) (rest : List (Option Refusal)) → clause_causes s c rest ≡ phrase_causes s (phrase_of f) rest

alone-is : (l : LiteralPhrase) (f : FormulaTree) → IsLiteralOf l f
    → ((rest : List Lexeme) → unit_lexemes (unit_of (phrase_of f)) rest ≡ phrase_lexemes (phrase_of f) rest)
    → ((s : Surroundings) (rest : List (Option Refusal)) → unit_causes s (unit_of (phrase_of f)) rest ≡ phrase_causes s (phrase_of f) rest)
    → IsClauseOf (literals l []) f
alone-is l f k same_tokens same_causes =
    record {
      tokens = λ rest. k.tokens rest ∙ same_tokens rest;
      meant = k.meant;
      causes = λ s rest. k.causes s rest ∙ same_causes s rest;
    }

pub clause-is : (f : FormulaTree) → is_clause_formula f ≡ true → WellFormula f → IsClauseOf (clause_of f) f
clause-is truth h w = alone-is (literal_of truth) truth (literal-is truth refl) (λ rest. refl) (λ s rest. refl)
clause-is falsity h w = alone-is (literal_of falsity) falsity (literal-is falsity refl) (λ rest. refl) (λ s rest. refl)
clause-is (predicate p ts) h w =
    alone-is (literal_of (predicate p ts)) (predicate p ts) (literal-is (predicate p ts) refl) (λ rest. refl) (λ s rest. refl)
clause-is (equation positive s t) h w =
    alone-is (literal_of (equation positive s t)) (equation positive s t) (literal-is (equation positive s t) refl) (λ rest. refl) (λ s rest. refl)
clause-is (negation f) h w = alone-is (negated_of f) (negation f) (negated-is f h) (λ rest. refl) (λ s rest. refl)
clause-is (conjunction fs) h w = absurd (let e : false ≡ true = h in cc)
clause-is (disjunction no_formulas) h w = absurd w.0
clause-is (disjunction (formula_then f no_formulas)) h w = absurd w.0
clause-is (disjunction (formula_then f (formula_then g fs))) h w =
    let each = and_parts (is_literal_formula f) (list_all is_literal_formula (list_of_formulas (formula_then g fs))) h in
    let first : IsLiteralOf (literal_of f) f = literal-is f each.0 in
    let more : AreLiteralsOf (literals_from (formula_then g fs)) (formula_then g fs) = literals-are (formula_then g fs) each.1 in
    record {
      tokens =
          λ rest.
          ap (literal_lexemes (literal_of f)) (more.tokens rest)
          ∙ first.tokens (units_lexemes (lexeme Connective (codes "|")) (units_of (formula_then g fs)) rest);
      meant = ap disjunction (ap₂ formula_then first.meant more.meant);
      causes =
          λ s rest.
          ap (literal_causes s (literal_of f)) (more.causes s rest)
          ∙ first.causes s (units_causes s (units_of (formula_then g fs)) rest);
    }
clause-is (connected c f g) h w = absurd (let e : false ≡ true = h in cc)
clause-is (quantified q xs f) h w = absurd (let e : false ≡ true = h in cc)
