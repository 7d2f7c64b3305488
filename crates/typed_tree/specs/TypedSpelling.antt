-- The typed formulas and the types that tokens spell (Sutcliffe 2017, this product's profile). The grammar's cases are trees of
-- phrases; a phrase has its tokens and its meaning. Terms and atoms are those of untyped formulas.
use Rattle.std.specs.Prelude.{ℕ, List, [], ◌∷◌, codes, Option, None, Some, map}
use Rattle.tptp_token.specs.Words.{Word, name_of}
use Rattle.tptp_token.specs.Lexemes.{Lexeme, lexeme, word_lexeme}
use Rattle.tptp_token.specs.declared.token.Kind.TheVariants.{Variable, Dollar, Connective, Mark, Other}
use Rattle.tptp_tree.specs.Formula.{BinaryConnective, Quantifier}
use Rattle.tptp_tree.specs.Spelling.{Atom, true_atom, false_atom, predicate_atom, equation_atom, atom_lexemes, connective_lexeme, quantifier_lexeme, term_meant, terms_meant}
use Rattle.typed_tree.specs.Sorts.{SortTree, individuals, named_sort, Declared, a_sort, a_symbol, DeclarationTree}
use Rattle.typed_tree.specs.TypedFormula.{TypedVariable, TypedTree, truth, falsity, predicate, equation, negation, conjunction, disjunction, connected, quantified, TypedTrees, no_formulas, formula_then}

-- ---- sorts

-- a sort as it is written: `$i`, or a word
pub data SortPhrase : Type 0 where
  dollar_sort : SortPhrase
  word_sort : Word → SortPhrase

abbrev pub sort_lexeme : SortPhrase → Lexeme
sort_lexeme dollar_sort = lexeme Dollar (codes "$i")
sort_lexeme (word_sort w) = word_lexeme w

abbrev pub sort_meant : SortPhrase → SortTree
sort_meant dollar_sort = individuals
sort_meant (word_sort w) = named_sort (name_of w)

-- ---- variables of a quantifier

-- a variable, as `X`, or with a sort, as `X: s`
pub record VariablePhrase : Type 0 where
  pub name : List ℕ
  pub sort : Option SortPhrase

abbrev pub sort_part_lexemes : Option SortPhrase → List Lexeme → List Lexeme
sort_part_lexemes None rest = rest
sort_part_lexemes (Some s) rest = lexeme Mark (codes ":") ∷ sort_lexeme s ∷ rest

abbrev pub variable_lexemes : VariablePhrase → List Lexeme → List Lexeme
variable_lexemes x rest = lexeme Variable x.name ∷ sort_part_lexemes x.sort rest

-- Without a sort it has `$i`.
abbrev pub variable_sort : Option SortPhrase → SortTree
variable_sort None = individuals
variable_sort (Some s) = sort_meant s

abbrev pub variable_meant : VariablePhrase → TypedVariable
variable_meant x = record { name = x.name; sort = variable_sort x.sort }

-- at least one: `X: s,Y`
pub record VariablePhrases : Type 0 where
  pub first : VariablePhrase
  pub others : List VariablePhrase

-- the variables after the first, each with the comma before it
abbrev pub more_variables_lexemes : List VariablePhrase → List Lexeme → List Lexeme
more_variables_lexemes [] rest = rest
more_variables_lexemes (x ∷ xs) rest = lexeme Mark (codes ",") ∷ variable_lexemes x (more_variables_lexemes xs rest)

-- ---- formulas: units and phrases as of untyped formulas

mutual
  pub data UnitPhrase : Type 0 where
    negated : UnitPhrase → UnitPhrase
    bound : Quantifier → VariablePhrases → UnitPhrase → UnitPhrase
    in_brackets : Phrase → UnitPhrase
    atomic : Atom → UnitPhrase

  pub data UnitPhrases : Type 0 where
    no_units : UnitPhrases
    unit_then : UnitPhrase → UnitPhrases → UnitPhrases

  pub data Phrase : Type 0 where
    alone : UnitPhrase → Phrase
    all_of : UnitPhrase → UnitPhrase → UnitPhrases → Phrase
    some_of : UnitPhrase → UnitPhrase → UnitPhrases → Phrase
    joined_by : BinaryConnective → UnitPhrase → UnitPhrase → Phrase

abbrev mutual
  pub unit_lexemes : UnitPhrase → List Lexeme → List Lexeme
  unit_lexemes (negated u) rest = lexeme Connective (codes "~") ∷ unit_lexemes u rest
  unit_lexemes (bound q xs u) rest =
      quantifier_lexeme q ∷ lexeme Mark (codes "[")
      ∷ variable_lexemes xs.first
      (more_variables_lexemes xs.others (lexeme Mark (codes "]") ∷ lexeme Mark (codes ":") ∷ unit_lexemes u rest))
  unit_lexemes (in_brackets p) rest = lexeme Mark (codes "(") ∷ phrase_lexemes p (lexeme Mark (codes ")") ∷ rest)
  unit_lexemes (atomic a) rest = atom_lexemes a rest

  -- each unit with the sign before it, `&` or `|`
  pub units_lexemes : Lexeme → UnitPhrases → List Lexeme → List Lexeme
  units_lexemes sign no_units rest = rest
  units_lexemes sign (unit_then u us) rest = sign ∷ unit_lexemes u (units_lexemes sign us rest)

  pub phrase_lexemes : Phrase → List Lexeme → List Lexeme
  phrase_lexemes (alone u) rest = unit_lexemes u rest
  phrase_lexemes (all_of u v us) rest =
      unit_lexemes u
      (lexeme Connective (codes "&") ∷ unit_lexemes v (units_lexemes (lexeme Connective (codes "&")) us rest))
  phrase_lexemes (some_of u v us) rest =
      unit_lexemes u
      (lexeme Connective (codes "|") ∷ unit_lexemes v (units_lexemes (lexeme Connective (codes "|")) us rest))
  phrase_lexemes (joined_by c u v) rest = unit_lexemes u (connective_lexeme c ∷ unit_lexemes v rest)

abbrev pub atom_meant : Atom → TypedTree
atom_meant true_atom = truth
atom_meant false_atom = falsity
atom_meant (predicate_atom w ts) = predicate (name_of w) (terms_meant ts)
atom_meant (equation_atom positive s t) = equation positive (term_meant s) (term_meant t)

abbrev mutual
  pub unit_meant : UnitPhrase → TypedTree
  unit_meant (negated u) = negation (unit_meant u)
  unit_meant (bound q xs u) = quantified q (variable_meant xs.first ∷ map variable_meant xs.others) (unit_meant u)
  unit_meant (in_brackets p) = meant p
  unit_meant (atomic a) = atom_meant a

  pub units_meant : UnitPhrases → TypedTrees
  units_meant no_units = no_formulas
  units_meant (unit_then u us) = formula_then (unit_meant u) (units_meant us)

  pub meant : Phrase → TypedTree
  meant (alone u) = unit_meant u
  meant (all_of u v us) = conjunction (formula_then (unit_meant u) (formula_then (unit_meant v) (units_meant us)))
  meant (some_of u v us) = disjunction (formula_then (unit_meant u) (formula_then (unit_meant v) (units_meant us)))
  meant (joined_by c u v) = connected c (unit_meant u) (unit_meant v)

-- ---- declarations

-- the sorts of arguments: one, as `s`; or some in brackets, as `(s * t)`
pub data ArgumentsPhrase : Type 0 where
  one_argument : SortPhrase → ArgumentsPhrase
  arguments_in_brackets : SortPhrase → List SortPhrase → ArgumentsPhrase

-- the sorts after the first, each with the `*` before it
abbrev pub more_sorts_lexemes : List SortPhrase → List Lexeme → List Lexeme
more_sorts_lexemes [] rest = rest
more_sorts_lexemes (s ∷ ss) rest = lexeme Other (codes "*") ∷ sort_lexeme s ∷ more_sorts_lexemes ss rest

abbrev pub arguments_lexemes : ArgumentsPhrase → List Lexeme → List Lexeme
arguments_lexemes (one_argument s) rest = sort_lexeme s ∷ rest
arguments_lexemes (arguments_in_brackets s ss) rest =
    lexeme Mark (codes "(") ∷ sort_lexeme s ∷ more_sorts_lexemes ss (lexeme Mark (codes ")") ∷ rest)

abbrev pub arguments_meant : ArgumentsPhrase → List SortTree
arguments_meant (one_argument s) = sort_meant s ∷ []
arguments_meant (arguments_in_brackets s ss) = sort_meant s ∷ map sort_meant ss

-- what follows the colon of a declaration: `$tType`; a sort; `$o`; arguments, `>` and a sort; or arguments, `>` and `$o`
pub data TypePhrase : Type 0 where
  kind_of_sorts : TypePhrase
  constant_of : SortPhrase → TypePhrase
  proposition : TypePhrase
  function_from : ArgumentsPhrase → SortPhrase → TypePhrase
  predicate_from : ArgumentsPhrase → TypePhrase

abbrev pub type_lexemes : TypePhrase → List Lexeme → List Lexeme
type_lexemes kind_of_sorts rest = lexeme Dollar (codes "$tType") ∷ rest
type_lexemes (constant_of s) rest = sort_lexeme s ∷ rest
type_lexemes proposition rest = lexeme Dollar (codes "$o") ∷ rest
type_lexemes (function_from a s) rest = arguments_lexemes a (lexeme Other (codes ">") ∷ sort_lexeme s ∷ rest)
type_lexemes (predicate_from a) rest = arguments_lexemes a (lexeme Other (codes ">") ∷ lexeme Dollar (codes "$o") ∷ rest)

abbrev pub type_meant : TypePhrase → Declared
type_meant kind_of_sorts = a_sort
type_meant (constant_of s) = a_symbol (record { arguments = []; result = Some (sort_meant s) })
type_meant proposition = a_symbol (record { arguments = []; result = None })
type_meant (function_from a s) = a_symbol (record { arguments = arguments_meant a; result = Some (sort_meant s) })
type_meant (predicate_from a) = a_symbol (record { arguments = arguments_meant a; result = None })

-- a word, `:` and its type, as `f: s > t`; or a declaration in brackets
pub data DeclarationPhrase : Type 0 where
  declares : Word → TypePhrase → DeclarationPhrase
  declaration_in_brackets : DeclarationPhrase → DeclarationPhrase

abbrev pub declaration_lexemes : DeclarationPhrase → List Lexeme → List Lexeme
declaration_lexemes (declares w t) rest = word_lexeme w ∷ lexeme Mark (codes ":") ∷ type_lexemes t rest
declaration_lexemes (declaration_in_brackets d) rest =
    lexeme Mark (codes "(") ∷ declaration_lexemes d (lexeme Mark (codes ")") ∷ rest)

abbrev pub declaration_meant : DeclarationPhrase → DeclarationTree
declaration_meant (declares w t) = record { word = name_of w; declared = type_meant t }
declaration_meant (declaration_in_brackets d) = declaration_meant d
