-- What is spelled as the body of an annotated formula is printed so that it is spelled again.
use Rattle.std.proofs.Common.{◌≡◌, ℕ, true, false, List, [], ◌∷◌, ◌++◌, map, drop, codes, suc, zero, refl, ap, ap₂, sym, ◌∙◌, subst, append-nil}
use Rattle.tptp_token.specs.Lexemes.{Lexeme, IsLexedAs, lexeme, lexemes_of}
use Rattle.tptp_token.specs.Lexing.{lexed_of}
use Rattle.tptp_token.specs.declared.token.Kind.TheVariants.{Connective, Mark}
use Rattle.tptp_token.proofs.AboutLexemes.LexemeLemmas.{tokens-spelled, lexes-whole, lexes-nothing}
use Rattle.tptp_tree.specs.Formula.{FormulaTree, negation, disjunction, formula_then}
use Rattle.tptp_tree.specs.Printing.{formula_text}
use Rattle.tptp_token.specs.Words.{name_of}
use Rattle.tptp_tree.specs.Spelling.{term_meant, terms_meant, Atom, true_atom, false_atom, predicate_atom, equation_atom, atom_meant, UnitPhrase, negated, in_brackets, atomic, unit_lexemes, unit_meant, UnitPhrases, no_units, unit_then, units_lexemes, units_meant, Phrase, alone, some_of, phrase_lexemes, meant}
use Rattle.tptp_tree.specs.Entries.{PlainAtom, plain_true, plain_false, plain_predicate, plain_equation, atom_of, LiteralPhrase, positive_literal, negated_literal, negated_in_brackets, ClausePhrase, literals, clause_in_brackets, literal_lexemes, more_literals_lexemes, clause_lexemes, literal_meant, literals_meant, clause_meant, Body, formula_body, clause_body, is_clause_body, body_lexemes, body_meant, AnnotatedPhrase, annotated_lexemes, AnnotatedTree, IsAnnotatedOf, SpellsAnnotated}
use Rattle.tptp_tree.proofs.NameLemmas.{word_of}
use Rattle.tptp_tree.proofs.CanonicalLemmas.{WellFormula, term_phrase, term_phrases, phrase_of, units_of, unit_of, some_from, formula-meant}
use Rattle.tptp_tree.proofs.LexingLemmas.{formula-lexes}
use Rattle.tptp_tree.proofs.WellLemmas.{AreSpelled, lexemes-spelled, text-spelled, phrase-well}
use Rattle.tptp_reader.specs.Annotating.{IsReading}
use Rattle.tptp_tree.specs.Shape.{entry_of}
use Rattle.tptp_reader.specs.Printed.{SpellsClause, IsPrintedAgain}
use Rattle.tptp_reader.specs.declared.entry.Read.{Read}

-- ---- a clause as a formula

abbrev literal_unit : LiteralPhrase → UnitPhrase
literal_unit (positive_literal a) = atomic a
literal_unit (negated_literal a) = negated (atomic (atom_of a))
literal_unit (negated_in_brackets a) = negated (in_brackets (alone (atomic (atom_of a))))

abbrev literal_units : List LiteralPhrase → UnitPhrases
literal_units [] = no_units
literal_units (l ∷ ls) = unit_then (literal_unit l) (literal_units ls)

abbrev clause_phrase : ClausePhrase → Phrase
clause_phrase (literals l []) = alone (literal_unit l)
clause_phrase (literals l (m ∷ ls)) = some_of (literal_unit l) (literal_unit m) (literal_units ls)
clause_phrase (clause_in_brackets c) = alone (in_brackets (clause_phrase c))

literal-tokens : (l : LiteralPhrase) (rest : List Lexeme) → unit_lexemes (literal_unit l) rest ≡ literal_lexemes l rest
literal-tokens (positive_literal a) rest = refl
literal-tokens (negated_literal a) rest = refl
literal-tokens (negated_in_brackets a) rest = refl

more-tokens :
    (ls : List LiteralPhrase) (rest : List Lexeme)
    → units_lexemes (lexeme Connective (codes "|")) (literal_units ls) rest ≡ more_literals_lexemes ls rest
more-tokens [] rest = refl
more-tokens (l ∷ ls) rest =
    ap (λ us. lexeme Connective (codes "|") ∷ us)
    (ap (unit_lexemes (literal_unit l)) (more-tokens ls rest) ∙ literal-tokens l (more_literals_lexemes ls rest))

clause-tokens : (c : ClausePhrase) (rest : List Lexeme) → phrase_lexemes (clause_phrase c) rest ≡ clause_lexemes c rest
clause-tokens (literals l []) rest = literal-tokens l rest
clause-tokens (literals l (m ∷ ls)) rest =
    ap (unit_lexemes (literal_unit l)) (more-tokens (m ∷ ls) rest) ∙ literal-tokens l (more_literals_lexemes (m ∷ ls) rest)
clause-tokens (clause_in_brackets c) rest =
    ap (λ us. lexeme Mark (codes "(") ∷ us) (clause-tokens c (lexeme Mark (codes ")") ∷ rest))

literal-meant : (l : LiteralPhrase) → unit_meant (literal_unit l) ≡ literal_meant l
literal-meant (positive_literal a) = refl
literal-meant (negated_literal a) = refl
literal-meant (negated_in_brackets a) = refl

literals-meant : (ls : List LiteralPhrase) → units_meant (literal_units ls) ≡ literals_meant ls
literals-meant [] = refl
literals-meant (l ∷ ls) = ap₂ formula_then (literal-meant l) (literals-meant ls)

clause-meant : (c : ClausePhrase) → meant (clause_phrase c) ≡ clause_meant c
clause-meant (literals l []) = literal-meant l
clause-meant (literals l (m ∷ ls)) = ap disjunction (literals-meant (l ∷ m ∷ ls))
clause-meant (clause_in_brackets c) = clause-meant c

-- ---- the clause that is printed

abbrev printed_atom : Atom → Atom
printed_atom true_atom = true_atom
printed_atom false_atom = false_atom
printed_atom (predicate_atom w ts) = predicate_atom (word_of (name_of w)) (term_phrases (terms_meant ts))
printed_atom (equation_atom positive s t) = equation_atom positive (term_phrase (term_meant s)) (term_phrase (term_meant t))

-- an equation stands in brackets behind `~`
abbrev printed_negation : PlainAtom → LiteralPhrase
printed_negation plain_true = negated_literal plain_true
printed_negation plain_false = negated_literal plain_false
printed_negation (plain_predicate w ts) = negated_literal (plain_predicate (word_of (name_of w)) (term_phrases (terms_meant ts)))
printed_negation (plain_equation s t) = negated_in_brackets (plain_equation (term_phrase (term_meant s)) (term_phrase (term_meant t)))

abbrev printed_literal : LiteralPhrase → LiteralPhrase
printed_literal (positive_literal a) = positive_literal (printed_atom a)
printed_literal (negated_literal a) = printed_negation a
printed_literal (negated_in_brackets a) = printed_negation a

abbrev printed_clause : ClausePhrase → ClausePhrase
printed_clause (literals l ls) = literals (printed_literal l) (map printed_literal ls)
printed_clause (clause_in_brackets c) = printed_clause c

negation-printed : (a : PlainAtom) → phrase_of (negation (atom_meant (atom_of a))) ≡ alone (literal_unit (printed_negation a))
negation-printed plain_true = refl
negation-printed plain_false = refl
negation-printed (plain_predicate w ts) = refl
negation-printed (plain_equation s t) = refl

literal-printed : (l : LiteralPhrase) → phrase_of (literal_meant l) ≡ alone (literal_unit (printed_literal l))
literal-printed (positive_literal true_atom) = refl
literal-printed (positive_literal false_atom) = refl
literal-printed (positive_literal (predicate_atom w ts)) = refl
literal-printed (positive_literal (equation_atom positive s t)) = refl
literal-printed (negated_literal a) = negation-printed a
literal-printed (negated_in_brackets a) = negation-printed a

literals-printed : (ls : List LiteralPhrase) → units_of (literals_meant ls) ≡ literal_units (map printed_literal ls)
literals-printed [] = refl
literals-printed (l ∷ ls) = ap₂ unit_then (ap unit_of (literal-printed l)) (literals-printed ls)

clause-printed : (c : ClausePhrase) → phrase_of (clause_meant c) ≡ clause_phrase (printed_clause c)
clause-printed (literals l []) = literal-printed l
clause-printed (literals l (m ∷ ls)) = ap some_from (literals-printed (l ∷ m ∷ ls))
clause-printed (clause_in_brackets c) = clause-printed c

-- ---- what is printed

formula-again : (f : FormulaTree) → WellFormula f → IsLexedAs (formula_text f) (phrase_lexemes (phrase_of f) [])
formula-again f w =
    subst (λ us. IsLexedAs us (phrase_lexemes (phrase_of f) [])) (append-nil (formula_text f))
    (lexes-whole (formula_text f ++ []) (phrase_lexemes (phrase_of f) []) (formula-lexes f w [] [] tt lexes-nothing))

clause-again : (c : ClausePhrase) → WellFormula (clause_meant c) → SpellsClause (formula_text (clause_meant c)) (clause_meant c)
clause-again c w = (
  printed_clause c,
  subst (IsLexedAs (formula_text (clause_meant c)))
      (ap (λ p. phrase_lexemes p []) (clause-printed c) ∙ clause-tokens (printed_clause c) []) (formula-again (clause_meant c) w),
  sym (clause-meant (printed_clause c)) ∙ ap meant (sym (clause-printed c)) ∙ formula-meant (clause_meant c) w,
)

body-well : (b : Body) (rest : List Lexeme) → AreSpelled (body_lexemes b rest) → WellFormula (body_meant b)
body-well (formula_body p) rest h = (phrase-well p rest h).0
body-well (clause_body c) rest h =
    subst WellFormula (clause-meant c) (phrase-well (clause_phrase c) rest (subst AreSpelled (sym (clause-tokens c rest)) h)).0

body-again : (b : Body) → WellFormula (body_meant b) → IsPrintedAgain (is_clause_body b) (body_meant b)
body-again (formula_body p) w = record {
  formula = (phrase_of (meant p), formula-again (meant p) w, formula-meant (meant p) w);
  clause = λ e. absurd (let g : false ≡ true = e in cc);
}
body-again (clause_body c) w = record {
  formula = (phrase_of (clause_meant c), formula-again (clause_meant c) w, formula-meant (clause_meant c) w);
  clause = λ e. clause-again c w;
}

-- the tokens of an annotated formula, of which the bytes spell their kinds
phrase-again :
    (p : AnnotatedPhrase) (rest : List Lexeme) (a : AnnotatedTree)
    → AreSpelled (annotated_lexemes p rest) → IsAnnotatedOf p a → IsPrintedAgain a.is_clause a.formula
phrase-again p rest a h m =
    subst (λ b. IsPrintedAgain b a.formula) (sym m.is_clause)
    (subst (IsPrintedAgain (is_clause_body p.body)) (sym m.formula) (body-again p.body (body-well p.body _ h.1.1.1.1.1.1)))

pub text-again : (text : List ℕ) (a : AnnotatedTree) → SpellsAnnotated text a → IsPrintedAgain a.is_clause a.formula
text-again text a s = phrase-again s.0 [] a (text-spelled text (annotated_lexemes s.0 []) s.2) s.3

pub spelled-behind : (n : ℕ) (ls : List Lexeme) → AreSpelled ls → AreSpelled (drop n ls)
spelled-behind zero ls h = h
spelled-behind (suc n) [] h = tt
spelled-behind (suc n) (l ∷ ls) h = spelled-behind n ls h.1

pub reading-again :
    (limit : ℕ) (bytes : List ℕ) (first : ℕ) (read : Read)
    → IsReading limit bytes (lexed_of bytes).tokens first read
    → IsPrintedAgain (entry_of read.annotated).is_clause (entry_of read.annotated).formula
reading-again limit bytes first read h =
    phrase-again h.phrase _ (entry_of read.annotated)
    (subst AreSpelled h.spelled.spelled
    (spelled-behind first (lexemes_of bytes (lexed_of bytes).tokens) (lexemes-spelled bytes (lexed_of bytes).tokens (tokens-spelled bytes)))) h.meant
