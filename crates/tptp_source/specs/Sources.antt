-- The sources of a derivation's lines: where the formula of a line comes from.
use Rattle.std.specs.Prelude.{◌≡◌, ℕ, List, [], ◌∷◌, codes, Option, None, Some, if◌then◌else◌}
use Rattle.std.specs.List.{list_all}
use Rattle.tptp_token.specs.Spelling.{is_digit}
use Rattle.tptp_token.specs.Lexemes.{Lexeme}
use Rattle.tptp_source.specs.declared.sign.NumberSign.{NumberSign}
use Rattle.tptp_source.specs.declared.sign.NumberSign.TheVariants.{Unsigned, Plus, Minus}
use Rattle.tptp_source.specs.General.{GeneralTree, variable, word, dollar, number, distinct, negated, listed, joined, GeneralTrees, no_trees, tree_then, trees_of}
use Rattle.tptp_source.specs.Spelling.{SpellsGeneral}

-- ---- names

-- the name that a word is, if it has no arguments
abbrev pub bare_name : List ℕ → GeneralTrees → Option (List ℕ)
bare_name f no_trees = Some f
bare_name f (tree_then t ts) = None

-- The name that a numeral is: its digits, if it has no sign and nothing but digits. TPTP lets a formula have the name `12`.
abbrev pub number_name : NumberSign → List ℕ → Option (List ℕ)
number_name Unsigned n = if list_all is_digit n then Some n else None
number_name Plus n = None
number_name Minus n = None

-- the name that a general term is: a word without arguments, or digits alone
abbrev pub name_in : GeneralTree → Option (List ℕ)
name_in (variable x) = None
name_in (word f ts) = bare_name f ts
name_in (dollar d ts) = None
name_in (number sign n) = number_name sign n
name_in (distinct d) = None
name_in (negated f) = None
name_in (listed ts) = None
name_in (joined ts) = None

-- A name in front of a list of names. There is none if the name or the list is missing.
abbrev pub name_before : Option (List ℕ) → Option (List (List ℕ)) → Option (List (List ℕ))
name_before None ns = None
name_before (Some n) None = None
name_before (Some n) (Some ns) = Some (n ∷ ns)

-- the names that general terms are, if each of them is one
abbrev pub names_in : List GeneralTree → Option (List (List ℕ))
names_in [] = Some []
names_in (t ∷ ts) = name_before (name_in t) (names_in ts)

-- ---- sources

-- the source of a line: a formula of a file, an inference, or half of the definition of a new name
pub data SourceTree : Type 0 where
  -- a formula of a file, by its name there
  file_source : GeneralTree → List ℕ → SourceTree
  -- an inference by its rule, its items and the names of its parents
  inference_source : GeneralTree → List GeneralTree → List (List ℕ) → SourceTree
  -- the two halves of a name's definition: if the name is true, one of its literals is; if its one literal is true, the name is
  component_source : List ℕ → SourceTree
  opposite_source : List ℕ → SourceTree

-- the word with those arguments
abbrev pub word_of : List ℕ → List GeneralTree → GeneralTree
word_of f ts = word f (trees_of ts)

-- terms in square brackets, `[a,b]`
abbrev pub list_of : List GeneralTree → GeneralTree
list_of ts = listed (trees_of ts)

-- `introduced(definition,[WORD(NAME)])`
abbrev pub definition_by : List ℕ → GeneralTree → GeneralTree
definition_by way name =
    word_of (codes "introduced") (word_of (codes "definition") [] ∷ list_of (word_of way (name ∷ []) ∷ []) ∷ [])

-- The general term is written as the source is: `file(F,NAME)`, `inference(RULE,[ITEMS],[PARENTS])`,
-- `introduced(definition,[component(NAME)])` or `introduced(definition,[opposite(NAME)])`.
abbrev pub IsSource : GeneralTree → SourceTree → Type 0
IsSource t (file_source f n) =
    (name : GeneralTree) × (name_in name ≡ Some n) × (t ≡ word_of (codes "file") (f ∷ name ∷ []))
IsSource t (inference_source rule items parents) =
    (names : List GeneralTree) × (names_in names ≡ Some parents)
    × (t ≡ word_of (codes "inference") (rule ∷ list_of items ∷ list_of names ∷ []))
IsSource t (component_source n) =
    (name : GeneralTree) × (name_in name ≡ Some n) × (t ≡ definition_by (codes "component") name)
IsSource t (opposite_source n) =
    (name : GeneralTree) × (name_in name ≡ Some n) × (t ≡ definition_by (codes "opposite") name)

-- the tokens spell the source
pub record SpellsSource (tokens : List Lexeme) (source : SourceTree) : Type 0 where
  pub term : GeneralTree
  pub spelled : SpellsGeneral tokens term
  pub shape : IsSource term source
