-- The definitions of typed entries, of the causes of their tokens and of the answers on them, on small ones.
use Rattle.std.specs.Prelude.{◌≡◌, ℕ, ◌+◌, true, false, List, [], ◌∷◌, codes, None, Some}
use Rattle.tptp_token.specs.declared.token.Kind.{Kind}
use Rattle.tptp_token.specs.declared.token.Kind.TheVariants.{Lower, Variable, Quoted, Dollar, Connective, Mark, Other}
use Rattle.tptp_token.specs.declared.token.Token.{Token}
use Rattle.tptp_token.specs.Words.{bare, quoted}
use Rattle.tptp_token.specs.Lexemes.{Lexeme, lexeme}
use Rattle.tptp_tree.specs.declared.role.Role.TheVariants.{Axiom}
use Rattle.tptp_tree.specs.Term.{variable, no_terms, term_then}
use Rattle.tptp_tree.specs.Formula.{for_all}
use Rattle.tptp_tree.specs.Spelling.{variable_word, no_phrases, phrase_then, true_atom, predicate_atom}
use Rattle.tptp_tree.specs.Entries.{word_name}
use Rattle.tptp_tree.specs.Causes.{typed, dollar_form, too_deep}
use Rattle.typed_tree.specs.Sorts.{individuals, named_sort, SymbolType, same_type, a_sort, a_symbol}
use Rattle.typed_tree.specs.TypedFormula.{predicate, quantified, typed_occurrences}
use Rattle.typed_tree.specs.TypedSpelling.{dollar_sort, word_sort, variable_meant, bound, atomic, alone, unit_meant, arguments_in_brackets, kind_of_sorts, predicate_from, declares, declaration_in_brackets, declaration_meant, UnitPhrase}
use Rattle.typed_tree.specs.TypedEntries.{declaration_body, formula_body, TypedPhrase, typed_lexemes, is_right_typed, body_places, formula_tree, declaration_tree, IsBodyOf}
use Rattle.typed_tree.specs.TypedCauses.{typed_causes}
use Rattle.typed_tree.specs.TypedAnswers.{IsLeftOut, IsPolymorphic, IsMixed}

abbrev mark : List ℕ → Lexeme
mark bytes = lexeme Mark bytes

abbrev word : List ℕ → Lexeme
word bytes = lexeme Lower bytes

-- `! [X: dog,Y] : 'Barks'(X)`
abbrev barks_for_all : UnitPhrase
barks_for_all =
    bound for_all
    (record { first = record { name = codes "X"; sort = Some (word_sort (bare (codes "dog"))) }; others = record { name = codes "Y"; sort = None } ∷ [] })
    (atomic (predicate_atom (quoted (codes "'Barks'")) (phrase_then (variable_word (codes "X")) no_phrases)))

-- `tff(a,axiom,! [X: dog,Y] : 'Barks'(X)).`
abbrev formula_entry : TypedPhrase
formula_entry = record { name = word_name (bare (codes "a")); body = formula_body (codes "axiom") (alone barks_for_all); notes = [] }

abbrev pub FormulaTokens : Type 0
FormulaTokens =
    typed_lexemes formula_entry []
    ≡ word (codes "tff") ∷ mark (codes "(") ∷ word (codes "a") ∷ mark (codes ",") ∷ word (codes "axiom") ∷ mark (codes ",")
    ∷ lexeme Connective (codes "!") ∷ mark (codes "[") ∷ lexeme Variable (codes "X") ∷ mark (codes ":") ∷ word (codes "dog") ∷ mark (codes ",")
    ∷ lexeme Variable (codes "Y") ∷ mark (codes "]") ∷ mark (codes ":") ∷ lexeme Quoted (codes "'Barks'") ∷ mark (codes "(")
    ∷ lexeme Variable (codes "X") ∷ mark (codes ")") ∷ mark (codes ")") ∷ mark (codes ".") ∷ []

-- A variable without a sort is an individual.
abbrev pub FormulaMeaning : Type 0
FormulaMeaning =
    IsBodyOf (formula_body (codes "axiom") (alone barks_for_all))
    (formula_tree Axiom
    (quantified for_all
    (record { name = codes "X"; sort = named_sort (codes "dog") } ∷ record { name = codes "Y"; sort = individuals } ∷ [])
    (predicate (codes "Barks") (term_then (variable (codes "X")) no_terms))))

-- tokens of one byte each, the first at 0
abbrev tokens_from : ℕ → List Kind → List Token
tokens_from start [] = []
tokens_from start (k ∷ ks) = record { kind = k; start = start; end = start + 1 } ∷ tokens_from (start + 1) ks

-- The words and variables of the body: X, dog, Y, Barks and X.
abbrev pub FormulaPlaces : Type 0
FormulaPlaces =
    body_places formula_entry
    (tokens_from 0
    (Lower ∷ Mark ∷ Lower ∷ Mark ∷ Lower ∷ Mark ∷ Connective ∷ Mark ∷ Variable ∷ Mark ∷ Lower ∷ Mark ∷ Variable ∷ Mark ∷ Mark ∷ Quoted ∷ Mark
    ∷ Variable ∷ Mark ∷ Mark ∷ Mark ∷ []))
    0
    ≡ 8 ∷ 10 ∷ 12 ∷ 15 ∷ 17 ∷ []

-- Within five levels nothing is wrong: the bracket is one up to its end, `X` begins two, `Y` two, and the bracket of the argument one.
abbrev pub FormulaCauses : Type 0
FormulaCauses =
    typed_causes 5 formula_entry
    ≡ None ∷ None ∷ None ∷ None ∷ None ∷ None ∷ None ∷ None ∷ None ∷ None ∷ None ∷ None ∷ None ∷ None ∷ None ∷ None ∷ None ∷ None ∷ None ∷ None
    ∷ None ∷ []

-- Within three levels there is no room for both of `Y`, nor for the bracket of the argument.
abbrev pub FormulaTooDeep : Type 0
FormulaTooDeep =
    typed_causes 3 formula_entry
    ≡ None ∷ None ∷ None ∷ None ∷ None ∷ None ∷ None ∷ None ∷ None ∷ None ∷ None ∷ None ∷ Some too_deep ∷ None ∷ None ∷ None ∷ Some too_deep ∷ None
    ∷ None ∷ None ∷ None ∷ []

-- `tff(f,type,(f: (s * $i) > $o),n).`
abbrev declaration_entry : TypedPhrase
declaration_entry = record {
  name = word_name (bare (codes "f"));
  body =
      declaration_body
      (declaration_in_brackets
      (declares (bare (codes "f")) (predicate_from (arguments_in_brackets (word_sort (bare (codes "s"))) (dollar_sort ∷ [])))));
  notes = word (codes "n") ∷ [];
}

abbrev pub DeclarationTokens : Type 0
DeclarationTokens =
    typed_lexemes declaration_entry []
    ≡ word (codes "tff") ∷ mark (codes "(") ∷ word (codes "f") ∷ mark (codes ",") ∷ word (codes "type") ∷ mark (codes ",")
    ∷ mark (codes "(") ∷ word (codes "f") ∷ mark (codes ":") ∷ mark (codes "(") ∷ word (codes "s") ∷ lexeme Other (codes "*")
    ∷ lexeme Dollar (codes "$i") ∷ mark (codes ")") ∷ lexeme Other (codes ">") ∷ lexeme Dollar (codes "$o") ∷ mark (codes ")")
    ∷ mark (codes ",") ∷ word (codes "n") ∷ mark (codes ")") ∷ mark (codes ".") ∷ []

abbrev pub DeclarationMeaning : Type 0
DeclarationMeaning =
    IsBodyOf declaration_entry.body
    (declaration_tree
    (record { word = codes "f"; declared = a_symbol (record { arguments = named_sort (codes "s") ∷ individuals ∷ []; result = None }) }))

-- Each bracket is a level.
abbrev pub DeclarationCauses : Type 0
DeclarationCauses =
    typed_causes 1 declaration_entry
    ≡ None ∷ None ∷ None ∷ None ∷ None ∷ None ∷ None ∷ None ∷ None ∷ Some too_deep ∷ None ∷ None ∷ None ∷ None ∷ None ∷ None ∷ None ∷ None ∷ None
    ∷ None ∷ None ∷ []

-- `dog: $tType`
abbrev pub SortDeclaration : Type 0
SortDeclaration = declaration_meant (declares (bare (codes "dog")) kind_of_sorts) ≡ record { word = codes "dog"; declared = a_sort }

abbrev pub SortlessVariable : Type 0
SortlessVariable =
    variable_meant (record { name = codes "X"; sort = None }) ≡ variable_meant (record { name = codes "X"; sort = Some dollar_sort })

-- `type` is no role of a formula.
abbrev pub TypeIsNoRole : Type 0
TypeIsNoRole =
    is_right_typed (record { name = word_name (bare (codes "a")); body = formula_body (codes "type") (alone (atomic true_atom)); notes = [] }) ≡ false

-- ---- tokens that end the reading

-- `fof`
abbrev pub MixedWord : Type 0
MixedWord = IsMixed [] (word (codes "fof"))

-- `thf`
abbrev pub LeftOutWord : Type 0
LeftOutWord = IsLeftOut [] (word (codes "thf")) typed

-- `tff(a,type,c:`
abbrev before_type : List Lexeme
before_type =
    word (codes "tff") ∷ mark (codes "(") ∷ word (codes "a") ∷ mark (codes ",") ∷ word (codes "type") ∷ mark (codes ",") ∷ word (codes "c")
    ∷ mark (codes ":") ∷ []

-- and `!` with `>` after it
abbrev pub PolymorphicType : Type 0
PolymorphicType = IsPolymorphic before_type (lexeme Connective (codes "!")) (lexeme Other (codes ">") ∷ mark (codes "[") ∷ [])

-- or `$int`
abbrev pub LeftOutSort : Type 0
LeftOutSort = IsLeftOut before_type (lexeme Dollar (codes "$int")) dollar_form

-- ---- types and sizes

abbrev unary : SymbolType
unary = record { arguments = named_sort (codes "s") ∷ []; result = Some individuals }

abbrev pub SameTypes : Type 0
SameTypes = same_type unary unary ≡ true

-- a predicate isn't a function
abbrev pub OtherTypes : Type 0
OtherTypes = same_type unary (record { arguments = named_sort (codes "s") ∷ []; result = None }) ≡ false

-- the two variables, the predicate and its argument
abbrev pub FormulaSize : Type 0
FormulaSize = typed_occurrences (unit_meant barks_for_all) ≡ 4
