-- The general terms that tokens spell (Sutcliffe 2017, in the profile of this program). The grammar's cases are trees of
-- phrases; a phrase has its tokens and its term.
use Rattle.std.specs.Prelude.{◌≡◌, ℕ, List, [], ◌∷◌, codes}
use Rattle.tptp_token.specs.Words.{Word, name_of}
use Rattle.tptp_token.specs.Lexemes.{Lexeme, lexeme, word_lexeme}
use Rattle.tptp_token.specs.declared.token.Kind.TheVariants.{Variable, Distinct, Dollar, Number, Connective, Mark, Other}
use Rattle.tptp_source.specs.declared.sign.NumberSign.{NumberSign}
use Rattle.tptp_source.specs.declared.sign.NumberSign.TheVariants.{Unsigned, Plus, Minus}
use Rattle.tptp_source.specs.General.{GeneralTree, variable, word, dollar, number, distinct, negated, listed, trees_of, whole}

-- A term is one part, or at least two parts between `:`. A word and a dollar word have arguments in round brackets, or no
-- brackets where there are none.
mutual
  pub data PartPhrase : Type 0 where
    variable_part : List ℕ → PartPhrase
    word_part : Word → GeneralPhrases → PartPhrase
    dollar_part : List ℕ → GeneralPhrases → PartPhrase
    number_part : NumberSign → List ℕ → PartPhrase
    distinct_part : List ℕ → PartPhrase
    -- `~` and a word without arguments
    negated_part : Word → PartPhrase
    list_part : GeneralPhrases → PartPhrase

  pub data PartPhrases : Type 0 where
    no_parts : PartPhrases
    part_then : PartPhrase → PartPhrases → PartPhrases

  pub data GeneralPhrase : Type 0 where
    parts : PartPhrase → PartPhrases → GeneralPhrase

  pub data GeneralPhrases : Type 0 where
    no_phrases : GeneralPhrases
    phrase_then : GeneralPhrase → GeneralPhrases → GeneralPhrases

-- ---- tokens, in front of those that follow

-- the tokens of a number: its sign `+` or `-` if it has one, and its digits
abbrev pub number_lexemes : NumberSign → List ℕ → List Lexeme → List Lexeme
number_lexemes Unsigned n rest = lexeme Number n ∷ rest
number_lexemes Plus n rest = lexeme Other (codes "+") ∷ lexeme Number n ∷ rest
number_lexemes Minus n rest = lexeme Other (codes "-") ∷ lexeme Number n ∷ rest

-- The tokens of a phrase, as in `f(a,X):[+1,~q]`: a part, the arguments of a word, the items of a list, the terms after a
-- comma, a whole term, and the parts after a `:`. The tokens that follow are given.
abbrev mutual
  pub part_lexemes : PartPhrase → List Lexeme → List Lexeme
  part_lexemes (variable_part x) rest = lexeme Variable x ∷ rest
  part_lexemes (word_part w ts) rest = word_lexeme w ∷ arguments_lexemes ts rest
  part_lexemes (dollar_part d ts) rest = lexeme Dollar d ∷ arguments_lexemes ts rest
  part_lexemes (number_part sign n) rest = number_lexemes sign n rest
  part_lexemes (distinct_part d) rest = lexeme Distinct d ∷ rest
  part_lexemes (negated_part w) rest = lexeme Connective (codes "~") ∷ word_lexeme w ∷ rest
  part_lexemes (list_part ts) rest = lexeme Mark (codes "[") ∷ items_lexemes ts rest

  -- in round brackets
  pub arguments_lexemes : GeneralPhrases → List Lexeme → List Lexeme
  arguments_lexemes no_phrases rest = rest
  arguments_lexemes (phrase_then t ts) rest =
      lexeme Mark (codes "(") ∷ general_lexemes t (more_lexemes (codes ")") ts rest)

  -- after an opening square bracket
  pub items_lexemes : GeneralPhrases → List Lexeme → List Lexeme
  items_lexemes no_phrases rest = lexeme Mark (codes "]") ∷ rest
  items_lexemes (phrase_then t ts) rest = general_lexemes t (more_lexemes (codes "]") ts rest)

  -- further terms, each after a comma, and the closing bracket
  pub more_lexemes : List ℕ → GeneralPhrases → List Lexeme → List Lexeme
  more_lexemes close no_phrases rest = lexeme Mark close ∷ rest
  more_lexemes close (phrase_then t ts) rest = lexeme Mark (codes ",") ∷ general_lexemes t (more_lexemes close ts rest)

  pub general_lexemes : GeneralPhrase → List Lexeme → List Lexeme
  general_lexemes (parts p ps) rest = part_lexemes p (more_parts_lexemes ps rest)

  pub more_parts_lexemes : PartPhrases → List Lexeme → List Lexeme
  more_parts_lexemes no_parts rest = rest
  more_parts_lexemes (part_then p ps) rest = lexeme Mark (codes ":") ∷ part_lexemes p (more_parts_lexemes ps rest)

-- ---- terms

-- The general terms that phrases spell: of a part, of the parts after the first, of a whole term, and of a list of terms.
abbrev mutual
  pub part_meant : PartPhrase → GeneralTree
  part_meant (variable_part x) = variable x
  part_meant (word_part w ts) = word (name_of w) (trees_of (phrases_meant ts))
  part_meant (dollar_part d ts) = dollar d (trees_of (phrases_meant ts))
  part_meant (number_part sign n) = number sign n
  part_meant (distinct_part d) = distinct d
  part_meant (negated_part w) = negated (name_of w)
  part_meant (list_part ts) = listed (trees_of (phrases_meant ts))

  pub parts_meant : PartPhrases → List GeneralTree
  parts_meant no_parts = []
  parts_meant (part_then p ps) = part_meant p ∷ parts_meant ps

  pub general_meant : GeneralPhrase → GeneralTree
  general_meant (parts p ps) = whole (part_meant p ∷ parts_meant ps)

  pub phrases_meant : GeneralPhrases → List GeneralTree
  phrases_meant no_phrases = []
  phrases_meant (phrase_then t ts) = general_meant t ∷ phrases_meant ts

-- the tokens spell the general term
pub record SpellsGeneral (tokens : List Lexeme) (t : GeneralTree) : Type 0 where
  pub phrase : GeneralPhrase
  pub spelled : tokens ≡ general_lexemes phrase []
  pub meant : general_meant phrase ≡ t
