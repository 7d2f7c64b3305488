-- A printed text has the tokens of the phrase that is printed.
use Rattle.std.proofs.Common.{◌≡◌, ℕ, Bool, true, false, not, ◌&&◌, ◌||◌, ◌==◌, List, [], ◌∷◌, ◌++◌, codes, refl, ap, sym, ◌∙◌, subst, arith, append_assoc, leb-true, ne_eqb}
use Rattle.std.specs.Prelude.{if◌then◌else◌, nat_le}
use Rattle.std.specs.List.{AllByRecursion, list_all}
use Rattle.std.proofs.lemmas.Bool.{and_parts}
use Rattle.tptp_token.specs.Spelling.{is_lower, is_lower_word, is_variable_word, is_word_byte}
use Rattle.tptp_token.specs.Pieces.{starts_with_either}
use Rattle.tptp_token.specs.Lexemes.{Lexeme, lexeme, word_lexeme}
use Rattle.tptp_token.specs.declared.token.Kind.TheVariants.{Variable, Connective, Mark}
use Rattle.tptp_token.proofs.AboutLexemes.SignLemmas.{not_equal, equal_sign, negation_sign, lone_sign, long_arrow, short_arrow}
use Rattle.tptp_token.proofs.AboutLexemes.LexemeLemmas.{Lexes}
use Rattle.tptp_token.proofs.AboutTexts.FrontLemmas.{EndsWord, lexes-space, lexes-plain, lexes-variable, lexes-dollar, lexes-mark}
use Rattle.tptp_tree.specs.Term.{TermTree, variable, application, TermTrees, no_terms, term_then}
use Rattle.tptp_tree.specs.Formula.{BinaryConnective, implies, implied, equivalent, different, nor, nand, Quantifier, for_all, exists_some, FormulaTree, truth, falsity, predicate, equation, negation, conjunction, disjunction, connected, quantified, FormulaTrees, no_formulas, formula_then}
use Rattle.tptp_token.specs.Words.{name_text, quoted_text}
use Rattle.tptp_tree.specs.Printing.{term_text, arguments_text, more_arguments_text, equals_text, connective_text, quantifier_text, variables_text, more_variables_text, is_joined, is_bare, in_parentheses, formula_text, more_operands_text}
use Rattle.tptp_tree.specs.Spelling.{term_lexemes, arguments_lexemes, more_arguments_lexemes, equals_lexeme, connective_lexeme, quantifier_lexeme, more_variables_lexemes, variables_lexemes, Phrase, in_brackets, units_lexemes, unit_lexemes, phrase_lexemes}
use Rattle.tptp_tree.proofs.AboutNames.NameLemmas.{name-lexes, word_of}
use Rattle.tptp_tree.proofs.AboutPrinting.CanonicalLemmas.{WellTerm, WellTerms, WellFormula, WellFormulas, term_phrase, term_phrases, phrase_of, units_of, unit_of, negated_unit, all_from}

-- one text behind another
regroup : (a b c : List ℕ) (ls : List Lexeme) → Lexes (a ++ (b ++ c)) ls → Lexes (a ++ b ++ c) ls
regroup a b c ls l = subst (λ us. Lexes us ls) (sym (append_assoc a b c)) l

-- ---- terms

mutual
  pub term-lexes :
      (t : TermTree) (text : List ℕ) (ls : List Lexeme)
      → WellTerm t → EndsWord text → Lexes text ls → Lexes (term_text t ++ text) (term_lexemes (term_phrase t) ls)
  term-lexes (variable x) text ls w e l = lexes-variable x text ls w e l
  term-lexes (application f ts) text ls w e l =
      regroup (name_text f) (arguments_text ts) text (word_lexeme (word_of f) ∷ arguments_lexemes (term_phrases ts) ls)
      (name-lexes f (arguments_text ts ++ text) (arguments_lexemes (term_phrases ts) ls) w.0 (arguments-end ts text e)
      (arguments-lexes ts text ls w.1 e l))

  pub arguments-lexes :
      (ts : TermTrees) (text : List ℕ) (ls : List Lexeme)
      → WellTerms ts → EndsWord text → Lexes text ls → Lexes (arguments_text ts ++ text) (arguments_lexemes (term_phrases ts) ls)
  arguments-lexes no_terms text ls w e l = l
  arguments-lexes (term_then t ts) text ls w e l =
      lexes-mark 40 (term_text t ++ more_arguments_text ts ++ text) (term_lexemes (term_phrase t) (more_arguments_lexemes (term_phrases ts) ls))
      (omega arith) refl
      (regroup (term_text t) (more_arguments_text ts) text (term_lexemes (term_phrase t) (more_arguments_lexemes (term_phrases ts) ls))
      (term-lexes t (more_arguments_text ts ++ text) (more_arguments_lexemes (term_phrases ts) ls) w.0 (more_arguments-end ts text)
      (more_arguments-lexes ts text ls w.1 l)))

  more_arguments-lexes :
      (ts : TermTrees) (text : List ℕ) (ls : List Lexeme)
      → WellTerms ts → Lexes text ls → Lexes (more_arguments_text ts ++ text) (more_arguments_lexemes (term_phrases ts) ls)
  more_arguments-lexes no_terms text ls w l = lexes-mark 41 text ls (omega arith) refl l
  more_arguments-lexes (term_then t ts) text ls w l =
      lexes-mark 44 (term_text t ++ more_arguments_text ts ++ text) (term_lexemes (term_phrase t) (more_arguments_lexemes (term_phrases ts) ls))
      (omega arith) refl
      (regroup (term_text t) (more_arguments_text ts) text (term_lexemes (term_phrase t) (more_arguments_lexemes (term_phrases ts) ls))
      (term-lexes t (more_arguments_text ts ++ text) (more_arguments_lexemes (term_phrases ts) ls) w.0 (more_arguments-end ts text)
      (more_arguments-lexes ts text ls w.1 l)))

  arguments-end : (ts : TermTrees) (text : List ℕ) → EndsWord text → EndsWord (arguments_text ts ++ text)
  arguments-end no_terms text e = e
  arguments-end (term_then t ts) text e = refl

  more_arguments-end : (ts : TermTrees) (text : List ℕ) → EndsWord (more_arguments_text ts ++ text)
  more_arguments-end no_terms text = refl
  more_arguments-end (term_then t ts) text = refl

-- ---- signs

equals-lexes : (positive : Bool) (text : List ℕ) (ls : List Lexeme) → Lexes text ls → Lexes (equals_text positive ++ text) (equals_lexeme positive ∷ ls)
equals-lexes true text ls l =
    lexes-space (61 ∷ 32 ∷ text) (equals_lexeme true ∷ ls)
    (lexes-plain Connective 61 [] (32 ∷ text) ls refl (equal_sign (32 ∷ text) false refl) (lexes-space text ls l))
equals-lexes false text ls l =
    lexes-space (33 ∷ 61 ∷ 32 ∷ text) (equals_lexeme false ∷ ls)
    (lexes-plain Connective 33 (61 ∷ []) (32 ∷ text) ls refl (not_equal (61 ∷ 32 ∷ text) true refl) (lexes-space text ls l))

equals-end : (positive : Bool) (text : List ℕ) → EndsWord (equals_text positive ++ text)
equals-end true text = refl
equals-end false text = refl

connective-lexes : (c : BinaryConnective) (text : List ℕ) (ls : List Lexeme) → Lexes text ls → Lexes (connective_text c ++ text) (connective_lexeme c ∷ ls)
connective-lexes implies text ls l =
    lexes-space (61 ∷ 62 ∷ 32 ∷ text) (connective_lexeme implies ∷ ls)
    (lexes-plain Connective 61 (62 ∷ []) (32 ∷ text) ls refl (equal_sign (62 ∷ 32 ∷ text) true refl) (lexes-space text ls l))
connective-lexes implied text ls l =
    lexes-space (60 ∷ 61 ∷ 32 ∷ text) (connective_lexeme implied ∷ ls)
    (lexes-plain Connective 60 (61 ∷ []) (32 ∷ text) ls refl (short_arrow (61 ∷ 32 ∷ text) (32 ∷ text) refl refl refl)
    (lexes-space text ls l))
connective-lexes equivalent text ls l =
    lexes-space (60 ∷ 61 ∷ 62 ∷ 32 ∷ text) (connective_lexeme equivalent ∷ ls)
    (lexes-plain Connective 60 (61 ∷ 62 ∷ []) (32 ∷ text) ls refl
    (long_arrow (61 ∷ 62 ∷ 32 ∷ text) (62 ∷ 32 ∷ text) refl refl refl) (lexes-space text ls l))
connective-lexes different text ls l =
    lexes-space (60 ∷ 126 ∷ 62 ∷ 32 ∷ text) (connective_lexeme different ∷ ls)
    (lexes-plain Connective 60 (126 ∷ 62 ∷ []) (32 ∷ text) ls refl
    (long_arrow (126 ∷ 62 ∷ 32 ∷ text) (62 ∷ 32 ∷ text) refl refl refl) (lexes-space text ls l))
connective-lexes nor text ls l =
    lexes-space (126 ∷ 124 ∷ 32 ∷ text) (connective_lexeme nor ∷ ls)
    (lexes-plain Connective 126 (124 ∷ []) (32 ∷ text) ls refl (negation_sign (124 ∷ 32 ∷ text) true refl) (lexes-space text ls l))
connective-lexes nand text ls l =
    lexes-space (126 ∷ 38 ∷ 32 ∷ text) (connective_lexeme nand ∷ ls)
    (lexes-plain Connective 126 (38 ∷ []) (32 ∷ text) ls refl (negation_sign (38 ∷ 32 ∷ text) true refl) (lexes-space text ls l))

connective-end : (c : BinaryConnective) (text : List ℕ) → EndsWord (connective_text c ++ text)
connective-end implies text = refl
connective-end implied text = refl
connective-end equivalent text = refl
connective-end different text = refl
connective-end nor text = refl
connective-end nand text = refl

and-lexes : (text : List ℕ) (ls : List Lexeme) → Lexes text ls → Lexes (codes " & " ++ text) (lexeme Connective (codes "&") ∷ ls)
and-lexes text ls l =
    lexes-space (38 ∷ 32 ∷ text) (lexeme Connective (codes "&") ∷ ls)
    (lexes-plain Connective 38 [] (32 ∷ text) ls refl (lone_sign 38 (32 ∷ text) refl) (lexes-space text ls l))

or-lexes : (text : List ℕ) (ls : List Lexeme) → Lexes text ls → Lexes (codes " | " ++ text) (lexeme Connective (codes "|") ∷ ls)
or-lexes text ls l =
    lexes-space (124 ∷ 32 ∷ text) (lexeme Connective (codes "|") ∷ ls)
    (lexes-plain Connective 124 [] (32 ∷ text) ls refl (lone_sign 124 (32 ∷ text) refl) (lexes-space text ls l))

quantifier-lexes :
    (q : Quantifier) (text : List ℕ) (ls : List Lexeme)
    → Lexes text ls → Lexes (quantifier_text q ++ text) (quantifier_lexeme q ∷ lexeme Mark (codes "[") ∷ ls)
quantifier-lexes for_all text ls l =
    lexes-plain Connective 33 [] (32 ∷ 91 ∷ text) (lexeme Mark (codes "[") ∷ ls) refl (not_equal (32 ∷ 91 ∷ text) false refl)
    (lexes-space (91 ∷ text) (lexeme Mark (codes "[") ∷ ls) (lexes-mark 91 text ls (omega arith) refl l))
quantifier-lexes exists_some text ls l =
    lexes-plain Connective 63 [] (32 ∷ 91 ∷ text) (lexeme Mark (codes "[") ∷ ls) refl (lone_sign 63 (32 ∷ 91 ∷ text) refl)
    (lexes-space (91 ∷ text) (lexeme Mark (codes "[") ∷ ls) (lexes-mark 91 text ls (omega arith) refl l))

-- ---- variables

more_variables-end : (xs : List (List ℕ)) (text : List ℕ) → EndsWord text → EndsWord (more_variables_text xs ++ text)
more_variables-end [] text e = e
more_variables-end (x ∷ xs) text e = refl

more_variables-lexes :
    (xs : List (List ℕ)) (text : List ℕ) (ls : List Lexeme)
    → AllByRecursion (λ x. is_variable_word x ≡ true) xs → EndsWord text → Lexes text ls
    → Lexes (more_variables_text xs ++ text) (more_variables_lexemes xs ls)
more_variables-lexes [] text ls w e l = l
more_variables-lexes (x ∷ xs) text ls w e l =
    lexes-mark 44 (x ++ more_variables_text xs ++ text) (lexeme Variable x ∷ more_variables_lexemes xs ls) (omega arith) refl
    (regroup x (more_variables_text xs) text (lexeme Variable x ∷ more_variables_lexemes xs ls)
    (lexes-variable x (more_variables_text xs ++ text) (more_variables_lexemes xs ls) w.0 (more_variables-end xs text e)
    (more_variables-lexes xs text ls w.1 e l)))

variables-lexes :
    (x : List ℕ) (xs : List (List ℕ)) (text : List ℕ) (ls : List Lexeme)
    → AllByRecursion (λ y. is_variable_word y ≡ true) (x ∷ xs) → EndsWord text → Lexes text ls
    → Lexes (variables_text (x ∷ xs) ++ text) (variables_lexemes (record { first = x; others = xs }) ls)
variables-lexes x xs text ls w e l =
    regroup x (more_variables_text xs) text (lexeme Variable x ∷ more_variables_lexemes xs ls)
    (lexes-variable x (more_variables_text xs ++ text) (more_variables_lexemes xs ls) w.0 (more_variables-end xs text e)
    (more_variables-lexes xs text ls w.1 e l))

-- ---- formulas

-- the text of a formula, in front of whatever ends a word
abbrev FormulaLexes : List ℕ → Phrase → Type 0
FormulaLexes printed p =
    (text : List ℕ) (ls : List Lexeme) → EndsWord text → Lexes text ls → Lexes (printed ++ text) (phrase_lexemes p ls)

bracketed :
    (printed : List ℕ) (p : Phrase) (text : List ℕ) (ls : List Lexeme)
    → FormulaLexes printed p → Lexes text ls → Lexes (in_parentheses true printed ++ text) (unit_lexemes (in_brackets p) ls)
bracketed printed p text ls ih l =
    lexes-mark 40 (printed ++ 41 ∷ [] ++ text) (phrase_lexemes p (lexeme Mark (codes ")") ∷ ls)) (omega arith) refl
    (regroup printed (41 ∷ []) text (phrase_lexemes p (lexeme Mark (codes ")") ∷ ls))
    (ih (41 ∷ text) (lexeme Mark (codes ")") ∷ ls) refl (lexes-mark 41 text ls (omega arith) refl l)))

operand-lexes :
    (f : FormulaTree) (text : List ℕ) (ls : List Lexeme)
    → WellFormula f → FormulaLexes (formula_text f) (phrase_of f) → EndsWord text → Lexes text ls
    → Lexes (in_parentheses (is_joined f) (formula_text f) ++ text) (unit_lexemes (unit_of (phrase_of f)) ls)
operand-lexes truth text ls w ih e l = ih text ls e l
operand-lexes falsity text ls w ih e l = ih text ls e l
operand-lexes (predicate p ts) text ls w ih e l = ih text ls e l
operand-lexes (equation positive s t) text ls w ih e l = ih text ls e l
operand-lexes (negation f) text ls w ih e l = ih text ls e l
operand-lexes (conjunction no_formulas) text ls w ih e l = absurd w.0
operand-lexes (conjunction (formula_then f no_formulas)) text ls w ih e l = absurd w.0
operand-lexes (conjunction (formula_then f (formula_then g fs))) text ls w ih e l =
    bracketed (formula_text (conjunction (formula_then f (formula_then g fs)))) (phrase_of (conjunction (formula_then f (formula_then g fs)))) text ls ih l
operand-lexes (disjunction no_formulas) text ls w ih e l = absurd w.0
operand-lexes (disjunction (formula_then f no_formulas)) text ls w ih e l = absurd w.0
operand-lexes (disjunction (formula_then f (formula_then g fs))) text ls w ih e l =
    bracketed (formula_text (disjunction (formula_then f (formula_then g fs)))) (phrase_of (disjunction (formula_then f (formula_then g fs)))) text ls ih l
operand-lexes (connected c f g) text ls w ih e l =
    bracketed (formula_text (connected c f g)) (phrase_of (connected c f g)) text ls ih l
operand-lexes (quantified q xs f) text ls w ih e l = ih text ls e l

-- what is negated begins with no sign that a `~` goes on with
lower-no_sign : (b : ℕ) (text : List ℕ) → is_lower b ≡ true → starts_with_either 124 38 (b ∷ text) ≡ false
lower-no_sign b text h =
    let parts = and_parts (nat_le 97 b) (nat_le b 122) h in
    let low = leb-true 97 b parts.0 in
    let high = leb-true b 122 parts.1 in
    ap (λ t. (t || (b == 38)) && true) (ne_eqb b 124 (λ e. omega arith))
    ∙ ap (λ t. t && true) (ne_eqb b 38 (λ e. omega arith))

name-no_sign : (name text : List ℕ) → starts_with_either 124 38 (name_text name ++ text) ≡ false
name-no_sign name text = by (is_lower_word name) refl
  where
    bare_name : (us : List ℕ) → is_lower_word us ≡ true → starts_with_either 124 38 (us ++ text) ≡ false
    bare_name [] h = absurd (let t : false ≡ true = h in cc)
    bare_name (b ∷ us) h = lower-no_sign b (us ++ text) (and_parts (is_lower b) (list_all is_word_byte us) h).0

    by : (t : Bool) → is_lower_word name ≡ t → starts_with_either 124 38 ((if t then name else quoted_text name) ++ text) ≡ false
    by true h = bare_name name h
    by false h = refl

negated-lexes :
    (f : FormulaTree) (text : List ℕ) (ls : List Lexeme)
    → WellFormula f → FormulaLexes (formula_text f) (phrase_of f) → EndsWord text → Lexes text ls
    → Lexes (in_parentheses (not (is_bare f)) (formula_text f) ++ text) (unit_lexemes (negated_unit (is_bare f) (phrase_of f)) ls)
negated-lexes truth text ls w ih e l = ih text ls e l
negated-lexes falsity text ls w ih e l = ih text ls e l
negated-lexes (predicate p ts) text ls w ih e l = ih text ls e l
negated-lexes (equation positive s t) text ls w ih e l =
    bracketed (formula_text (equation positive s t)) (phrase_of (equation positive s t)) text ls ih l
negated-lexes (negation f) text ls w ih e l = ih text ls e l
negated-lexes (conjunction fs) text ls w ih e l =
    bracketed (formula_text (conjunction fs)) (phrase_of (conjunction fs)) text ls ih l
negated-lexes (disjunction fs) text ls w ih e l =
    bracketed (formula_text (disjunction fs)) (phrase_of (disjunction fs)) text ls ih l
negated-lexes (connected c f g) text ls w ih e l =
    bracketed (formula_text (connected c f g)) (phrase_of (connected c f g)) text ls ih l
negated-lexes (quantified q xs f) text ls w ih e l =
    bracketed (formula_text (quantified q xs f)) (phrase_of (quantified q xs f)) text ls ih l

negated-no_sign :
    (f : FormulaTree) (text : List ℕ)
    → starts_with_either 124 38 (in_parentheses (not (is_bare f)) (formula_text f) ++ text) ≡ false
negated-no_sign truth text = refl
negated-no_sign falsity text = refl
negated-no_sign (predicate p ts) text =
    ap (starts_with_either 124 38) (append_assoc (name_text p) (arguments_text ts) text)
    ∙ name-no_sign p (arguments_text ts ++ text)
negated-no_sign (equation positive s t) text = refl
negated-no_sign (negation f) text = refl
negated-no_sign (conjunction fs) text = refl
negated-no_sign (disjunction fs) text = refl
negated-no_sign (connected c f g) text = refl
negated-no_sign (quantified q xs f) text = refl

-- a sign between operands
record Sign (sign : List ℕ) (one : Lexeme) : Type 0 where
  lexes : (text : List ℕ) (ls : List Lexeme) → Lexes text ls → Lexes (sign ++ text) (one ∷ ls)
  ends : (text : List ℕ) → EndsWord (sign ++ text)

and_sign : Sign (codes " & ") (lexeme Connective (codes "&"))
and_sign = record { lexes = and-lexes; ends = λ text. refl }

or_sign : Sign (codes " | ") (lexeme Connective (codes "|"))
or_sign = record { lexes = or-lexes; ends = λ text. refl }

more_operands-end :
    (sign : List ℕ) (one : Lexeme) (s : Sign sign one) (fs : FormulaTrees) (text : List ℕ)
    → EndsWord text → EndsWord (more_operands_text sign fs ++ text)
more_operands-end sign one s no_formulas text e = e
more_operands-end sign one s (formula_then f fs) text e =
    subst EndsWord
    (sym (append_assoc (sign ++ in_parentheses (is_joined f) (formula_text f)) (more_operands_text sign fs) text
    ∙ append_assoc sign (in_parentheses (is_joined f) (formula_text f)) (more_operands_text sign fs ++ text)))
    (s.ends (in_parentheses (is_joined f) (formula_text f) ++ (more_operands_text sign fs ++ text)))

all-lexemes :
    (fs : FormulaTrees) (ls : List Lexeme) (f g : FormulaTree)
    → phrase_lexemes (all_from (units_of (formula_then f (formula_then g fs)))) ls
    ≡ unit_lexemes (unit_of (phrase_of f)) (units_lexemes (lexeme Connective (codes "&")) (units_of (formula_then g fs)) ls)
all-lexemes fs ls f g = refl

mutual
  pub formula-lexes : (f : FormulaTree) → WellFormula f → FormulaLexes (formula_text f) (phrase_of f)
  formula-lexes truth w text ls e l = lexes-dollar 116 (codes "rue") text ls refl refl e l
  formula-lexes falsity w text ls e l = lexes-dollar 102 (codes "alse") text ls refl refl e l
  formula-lexes (predicate p ts) w text ls e l = term-lexes (application p ts) text ls w e l
  formula-lexes (equation positive s t) w text ls e l =
      regroup (term_text s ++ equals_text positive) (term_text t) text
      (term_lexemes (term_phrase s) (equals_lexeme positive ∷ term_lexemes (term_phrase t) ls))
      (regroup (term_text s) (equals_text positive) (term_text t ++ text)
      (term_lexemes (term_phrase s) (equals_lexeme positive ∷ term_lexemes (term_phrase t) ls))
      (term-lexes s (equals_text positive ++ (term_text t ++ text)) (equals_lexeme positive ∷ term_lexemes (term_phrase t) ls) w.0
      (equals-end positive (term_text t ++ text))
      (equals-lexes positive (term_text t ++ text) (term_lexemes (term_phrase t) ls) (term-lexes t text ls w.1 e l))))
  formula-lexes (negation f) w text ls e l =
      lexes-plain Connective 126 [] (in_parentheses (not (is_bare f)) (formula_text f) ++ text)
      (unit_lexemes (negated_unit (is_bare f) (phrase_of f)) ls) refl
      (negation_sign (in_parentheses (not (is_bare f)) (formula_text f) ++ text) false (sym (negated-no_sign f text)))
      (negated-lexes f text ls w (formula-lexes f w) e l)
  formula-lexes (conjunction no_formulas) w text ls e l = absurd w.0
  formula-lexes (conjunction (formula_then f no_formulas)) w text ls e l = absurd w.0
  formula-lexes (conjunction (formula_then f (formula_then g fs))) w text ls e l =
      regroup (in_parentheses (is_joined f) (formula_text f)) (more_operands_text (codes " & ") (formula_then g fs)) text
      (unit_lexemes (unit_of (phrase_of f)) (units_lexemes (lexeme Connective (codes "&")) (units_of (formula_then g fs)) ls))
      (operand-lexes f (more_operands_text (codes " & ") (formula_then g fs) ++ text)
      (units_lexemes (lexeme Connective (codes "&")) (units_of (formula_then g fs)) ls) w.1.0 (formula-lexes f w.1.0)
      (more_operands-end (codes " & ") (lexeme Connective (codes "&")) and_sign (formula_then g fs) text e)
      (more_operands-lexes (codes " & ") (lexeme Connective (codes "&")) and_sign (formula_then g fs) w.1.1 text ls e l))
  formula-lexes (disjunction no_formulas) w text ls e l = absurd w.0
  formula-lexes (disjunction (formula_then f no_formulas)) w text ls e l = absurd w.0
  formula-lexes (disjunction (formula_then f (formula_then g fs))) w text ls e l =
      regroup (in_parentheses (is_joined f) (formula_text f)) (more_operands_text (codes " | ") (formula_then g fs)) text
      (unit_lexemes (unit_of (phrase_of f)) (units_lexemes (lexeme Connective (codes "|")) (units_of (formula_then g fs)) ls))
      (operand-lexes f (more_operands_text (codes " | ") (formula_then g fs) ++ text)
      (units_lexemes (lexeme Connective (codes "|")) (units_of (formula_then g fs)) ls) w.1.0 (formula-lexes f w.1.0)
      (more_operands-end (codes " | ") (lexeme Connective (codes "|")) or_sign (formula_then g fs) text e)
      (more_operands-lexes (codes " | ") (lexeme Connective (codes "|")) or_sign (formula_then g fs) w.1.1 text ls e l))
  formula-lexes (connected c f g) w text ls e l =
      regroup (in_parentheses (is_joined f) (formula_text f) ++ connective_text c) (in_parentheses (is_joined g) (formula_text g)) text
      (unit_lexemes (unit_of (phrase_of f)) (connective_lexeme c ∷ unit_lexemes (unit_of (phrase_of g)) ls))
      (regroup (in_parentheses (is_joined f) (formula_text f)) (connective_text c) (in_parentheses (is_joined g) (formula_text g) ++ text)
      (unit_lexemes (unit_of (phrase_of f)) (connective_lexeme c ∷ unit_lexemes (unit_of (phrase_of g)) ls))
      (operand-lexes f (connective_text c ++ (in_parentheses (is_joined g) (formula_text g) ++ text))
      (connective_lexeme c ∷ unit_lexemes (unit_of (phrase_of g)) ls) w.0 (formula-lexes f w.0)
      (connective-end c (in_parentheses (is_joined g) (formula_text g) ++ text))
      (connective-lexes c (in_parentheses (is_joined g) (formula_text g) ++ text) (unit_lexemes (unit_of (phrase_of g)) ls)
      (operand-lexes g text ls w.1 (formula-lexes g w.1) e l))))
  formula-lexes (quantified q [] f) w text ls e l = absurd w.0
  formula-lexes (quantified q (x ∷ xs) f) w text ls e l =
      regroup (quantifier_text q ++ variables_text (x ∷ xs) ++ codes "] : ") (in_parentheses (is_joined f) (formula_text f)) text
      (quantifier_lexeme q ∷ lexeme Mark (codes "[") ∷ variables_lexemes (record { first = x; others = xs }) (lexeme Mark (codes "]") ∷ lexeme Mark (codes ":") ∷ unit_lexemes (unit_of (phrase_of f)) ls))
      (regroup (quantifier_text q ++ variables_text (x ∷ xs)) (codes "] : ") (in_parentheses (is_joined f) (formula_text f) ++ text)
      (quantifier_lexeme q ∷ lexeme Mark (codes "[") ∷ variables_lexemes (record { first = x; others = xs }) (lexeme Mark (codes "]") ∷ lexeme Mark (codes ":") ∷ unit_lexemes (unit_of (phrase_of f)) ls))
      (regroup (quantifier_text q) (variables_text (x ∷ xs)) (codes "] : " ++ (in_parentheses (is_joined f) (formula_text f) ++ text))
      (quantifier_lexeme q ∷ lexeme Mark (codes "[") ∷ variables_lexemes (record { first = x; others = xs }) (lexeme Mark (codes "]") ∷ lexeme Mark (codes ":") ∷ unit_lexemes (unit_of (phrase_of f)) ls))
      (quantifier-lexes q (variables_text (x ∷ xs) ++ (codes "] : " ++ (in_parentheses (is_joined f) (formula_text f) ++ text)))
      (variables_lexemes (record { first = x; others = xs }) (lexeme Mark (codes "]") ∷ lexeme Mark (codes ":") ∷ unit_lexemes (unit_of (phrase_of f)) ls))
      (variables-lexes x xs (codes "] : " ++ (in_parentheses (is_joined f) (formula_text f) ++ text))
      (lexeme Mark (codes "]") ∷ lexeme Mark (codes ":") ∷ unit_lexemes (unit_of (phrase_of f)) ls) w.1 refl
      (lexes-mark 93 (32 ∷ 58 ∷ 32 ∷ in_parentheses (is_joined f) (formula_text f) ++ text)
      (lexeme Mark (codes ":") ∷ unit_lexemes (unit_of (phrase_of f)) ls) (omega arith) refl
      (lexes-space (58 ∷ 32 ∷ in_parentheses (is_joined f) (formula_text f) ++ text)
      (lexeme Mark (codes ":") ∷ unit_lexemes (unit_of (phrase_of f)) ls)
      (lexes-mark 58 (32 ∷ in_parentheses (is_joined f) (formula_text f) ++ text) (unit_lexemes (unit_of (phrase_of f)) ls)
      (omega arith) refl
      (lexes-space (in_parentheses (is_joined f) (formula_text f) ++ text) (unit_lexemes (unit_of (phrase_of f)) ls)
      (operand-lexes f text ls w.2 (formula-lexes f w.2) e l)))))))))

  more_operands-lexes :
      (sign : List ℕ) (one : Lexeme) (s : Sign sign one) (fs : FormulaTrees)
      → WellFormulas fs → (text : List ℕ) (ls : List Lexeme) → EndsWord text → Lexes text ls
      → Lexes (more_operands_text sign fs ++ text) (units_lexemes one (units_of fs) ls)
  more_operands-lexes sign one s no_formulas w text ls e l = l
  more_operands-lexes sign one s (formula_then f fs) w text ls e l =
      regroup (sign ++ in_parentheses (is_joined f) (formula_text f)) (more_operands_text sign fs) text
      (one ∷ unit_lexemes (unit_of (phrase_of f)) (units_lexemes one (units_of fs) ls))
      (regroup sign (in_parentheses (is_joined f) (formula_text f)) (more_operands_text sign fs ++ text)
      (one ∷ unit_lexemes (unit_of (phrase_of f)) (units_lexemes one (units_of fs) ls))
      (s.lexes (in_parentheses (is_joined f) (formula_text f) ++ (more_operands_text sign fs ++ text))
      (unit_lexemes (unit_of (phrase_of f)) (units_lexemes one (units_of fs) ls))
      (operand-lexes f (more_operands_text sign fs ++ text) (units_lexemes one (units_of fs) ls) w.0 (formula-lexes f w.0)
      (more_operands-end sign one s fs text e) (more_operands-lexes sign one s fs w.1 text ls e l))))
