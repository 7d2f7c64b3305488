-- The definitions of entries and of the causes of their tokens, on small ones.
use Rattle.std.specs.Prelude.{◌≡◌, true, false, List, [], ◌∷◌, codes, None, Some}
use Rattle.tptp_token.specs.declared.token.Kind.TheVariants.{Lower, Variable, Quoted, Number, Connective, Mark, Other}
use Rattle.tptp_tree.specs.declared.role.Role.TheVariants.{Axiom, Plain, Conjecture}
use Rattle.tptp_tree.specs.declared.formula.Formula.TheVariants.{True}
use Rattle.tptp_tree.specs.Term.{variable, application, no_terms, term_then}
use Rattle.tptp_tree.specs.Formula.{for_all, with_sign, truth, predicate, equation, negation, disjunction, no_formulas, formula_then}
use Rattle.tptp_token.specs.Words.{bare, quoted}
use Rattle.tptp_token.specs.Lexemes.{lexeme}
use Rattle.tptp_tree.specs.Spelling.{variable_word, word_with, no_phrases, phrase_then, predicate_atom, equation_atom, bound, atomic, alone}
use Rattle.tptp_tree.specs.Brackets.{are_balanced}
use Rattle.tptp_tree.specs.Entries.{plain_predicate, positive_literal, negated_literal, negated_in_brackets, ClausePhrase, literals, clause_in_brackets, clause_lexemes, clause_meant, word_name, digits_name, name_meant, role_of, formula_body, AnnotatedPhrase, annotated_lexemes, EntryTree, annotated_tree, include_tree, SpellsEntries}
use Rattle.tptp_tree.specs.Shape.{entry_of}
use Rattle.tptp_tree.specs.Causes.{free_variable, too_deep, role_not_taken, left_out, role_form, role_cause, outermost, clause_causes, annotated_causes}

-- the clause `( ~ p(X) | X != 'A b' )`
abbrev clause : ClausePhrase
clause =
    clause_in_brackets
    (literals (negated_literal (plain_predicate (bare (codes "p")) (phrase_then (variable_word (codes "X")) no_phrases)))
    (positive_literal (equation_atom false (variable_word (codes "X")) (word_with (quoted (codes "'A b'")) no_phrases)) ∷ []))

abbrev pub ClauseTokens : Type 0
ClauseTokens =
    clause_lexemes clause []
    ≡ lexeme Mark (codes "(") ∷ lexeme Connective (codes "~") ∷ lexeme Lower (codes "p") ∷ lexeme Mark (codes "(")
    ∷ lexeme Variable (codes "X") ∷ lexeme Mark (codes ")") ∷ lexeme Connective (codes "|") ∷ lexeme Variable (codes "X")
    ∷ lexeme Connective (codes "!=") ∷ lexeme Quoted (codes "'A b'") ∷ lexeme Mark (codes ")") ∷ []

-- brackets say nothing, and two literals are a disjunction
abbrev pub ClauseMeaning : Type 0
ClauseMeaning =
    clause_meant clause
    ≡ disjunction
    (formula_then (negation (predicate (codes "p") (term_then (variable (codes "X")) no_terms)))
    (formula_then (equation false (variable (codes "X")) (application (codes "A b") no_terms)) no_formulas))

-- one literal is no disjunction, and brackets after `~` say nothing
abbrev pub OneLiteral : Type 0
OneLiteral = clause_meant (literals (negated_in_brackets (plain_predicate (bare (codes "p")) no_phrases)) []) ≡ negation (predicate (codes "p") no_terms)

-- the clause's brackets, `~` and the brackets of `p` are three levels
abbrev pub ClauseLevels : Type 0
ClauseLevels =
    clause_causes (outermost 2 true) clause []
    ≡ None ∷ None ∷ None ∷ Some too_deep ∷ None ∷ None ∷ None ∷ None ∷ None ∷ None ∷ None ∷ []

-- `fof(12,plain,! [X] : p(Y)).`
abbrev open_formula : AnnotatedPhrase
open_formula =
    record {
      name = digits_name (codes "12");
      role = codes "plain";
      body =
          formula_body
          (alone
          (bound for_all (record { first = codes "X"; others = [] })
          (atomic (predicate_atom (bare (codes "p")) (phrase_then (variable_word (codes "Y")) no_phrases)))));
      notes = [];
    }

abbrev pub OpenTokens : Type 0
OpenTokens =
    annotated_lexemes open_formula []
    ≡ lexeme Lower (codes "fof") ∷ lexeme Mark (codes "(") ∷ lexeme Number (codes "12") ∷ lexeme Mark (codes ",")
    ∷ lexeme Lower (codes "plain") ∷ lexeme Mark (codes ",") ∷ lexeme Connective (codes "!") ∷ lexeme Mark (codes "[")
    ∷ lexeme Variable (codes "X") ∷ lexeme Mark (codes "]") ∷ lexeme Mark (codes ":") ∷ lexeme Lower (codes "p")
    ∷ lexeme Mark (codes "(") ∷ lexeme Variable (codes "Y") ∷ lexeme Mark (codes ")") ∷ lexeme Mark (codes ")")
    ∷ lexeme Mark (codes ".") ∷ []

-- the quantifier's bracket is a level inside the quantifier's own, and `Y` is free
abbrev pub OpenCauses : Type 0
OpenCauses =
    annotated_causes 1 open_formula
    ≡ None ∷ None ∷ None ∷ None ∷ None ∷ None ∷ None ∷ Some too_deep ∷ None ∷ None ∷ None ∷ None ∷ Some too_deep
    ∷ Some free_variable ∷ None ∷ None ∷ None ∷ []

abbrev pub OneName : Type 0
OneName = name_meant (word_name (quoted (codes "'12'"))) ≡ name_meant (digits_name (codes "12"))

-- a conjecture is taken in `fof` alone
abbrev pub Roles : Type 0
Roles = role_of true (codes "conjecture") ≡ None

abbrev pub FormulaRoles : Type 0
FormulaRoles = role_of false (codes "conjecture") ≡ Some Conjecture

abbrev pub UnknownRole : Type 0
UnknownRole = role_cause true (codes "unknown") ≡ Some role_not_taken

abbrev pub LeftOutRole : Type 0
LeftOutRole = role_cause false (codes "fi_domain") ≡ Some (left_out role_form)

-- `[ ( , ) { } ]` closes, and `( [ ) ]` doesn't
abbrev pub Balanced : Type 0
Balanced =
    are_balanced
    (lexeme Mark (codes "[") ∷ lexeme Mark (codes "(") ∷ lexeme Mark (codes ",") ∷ lexeme Mark (codes ")") ∷ lexeme Other (codes "{")
    ∷ lexeme Other (codes "}") ∷ lexeme Mark (codes "]") ∷ [])
    ≡ true

abbrev pub Crossed : Type 0
Crossed = are_balanced (lexeme Mark (codes "(") ∷ lexeme Mark (codes "[") ∷ lexeme Mark (codes ")") ∷ lexeme Mark (codes "]") ∷ []) ≡ false

-- the content of the axiom `$true`, at any place
abbrev pub EntryOfTruth : Type 0
EntryOfTruth =
    entry_of (record { name = codes "a"; role = Axiom; clause = false; formula = True; file = codes "f.p"; place = 7 })
    ≡ record { name = codes "a"; role = Axiom; is_clause = false; formula = truth }

abbrev pub NegativeSign : Type 0
NegativeSign = with_sign false truth ≡ negation truth

-- ---- includes, from texts

-- all formulas of a file, whose name may be quoted
abbrev pub WholeInclude : Type 0
WholeInclude = SpellsEntries (codes "include('f.ax').") (include_tree (codes "f.ax") None ∷ [])

-- the formulas with these names, one of digits
abbrev pub SelectedInclude : Type 0
SelectedInclude =
    SpellsEntries (codes "include(f,[a,'B c',012]).")
    (include_tree (codes "f") (Some (codes "a" ∷ codes "B c" ∷ codes "012" ∷ [])) ∷ [])

-- an include and an annotated formula, in order
abbrev pub TwoEntries : Type 0
TwoEntries =
    SpellsEntries (codes "include(f).cnf(a,plain,p).")
    (include_tree (codes "f") None
    ∷ annotated_tree (record { name = codes "a"; role = Plain; is_clause = true; formula = predicate (codes "p") no_terms }) ∷ [])

-- the empty text has no entries
abbrev pub NoEntries : Type 0
NoEntries = SpellsEntries [] []

-- the brackets of a selection aren't empty
abbrev pub EmptySelection : Type 0
EmptySelection = (entries : List EntryTree) → SpellsEntries (codes "include(f,[]).") entries → ⊥
