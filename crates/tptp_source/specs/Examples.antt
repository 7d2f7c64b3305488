-- General terms and sources on small runs of tokens.
use Rattle.std.specs.Prelude.{◌≡◌, ℕ, List, [], ◌∷◌, codes, None, Some}
use Rattle.tptp_token.specs.Words.{bare, quoted}
use Rattle.tptp_token.specs.Lexemes.{Lexeme, lexeme}
use Rattle.tptp_token.specs.declared.token.Kind.TheVariants.{Lower, Variable, Quoted, Distinct, Dollar, Number, Connective, Mark, Other}
use Rattle.tptp_source.specs.declared.sign.NumberSign.TheVariants.{Unsigned, Plus, Minus}
use Rattle.tptp_source.specs.General.{GeneralTree, variable, number, distinct, dollar, negated, joined, no_trees, tree_then}
use Rattle.tptp_source.specs.Spelling.{word_part, number_part, list_part, no_parts, part_then, GeneralPhrase, parts, no_phrases, phrase_then, general_lexemes, general_meant}
use Rattle.tptp_source.specs.Sources.{file_source, inference_source, component_source, opposite_source, word_of, list_of, definition_by}
use Rattle.tptp_source.specs.Levels.{general_levels, source_levels}
use Rattle.tptp_source.specs.Machine.{read}
use Rattle.tptp_source.specs.TermSources.{source_in}

abbrev lower : List ℕ → Lexeme
lower bytes = lexeme Lower bytes

abbrev mark : List ℕ → Lexeme
mark bytes = lexeme Mark bytes

abbrev name : List ℕ → GeneralTree
name f = word_of f []

-- ---- phrases

-- `f('A b',[]):-1`
abbrev phrase : GeneralPhrase
phrase =
    parts
    (word_part (bare (codes "f"))
    (phrase_then (parts (word_part (quoted (codes "'A b'")) no_phrases) no_parts) (phrase_then (parts (list_part no_phrases) no_parts) no_phrases)))
    (part_then (number_part Minus (codes "1")) no_parts)

abbrev pub PhraseTokens : Type 0
PhraseTokens =
    general_lexemes phrase []
    ≡ lower (codes "f") ∷ mark (codes "(") ∷ lexeme Quoted (codes "'A b'") ∷ mark (codes ",") ∷ mark (codes "[") ∷ mark (codes "]")
    ∷ mark (codes ")") ∷ mark (codes ":") ∷ lexeme Other (codes "-") ∷ lexeme Number (codes "1") ∷ []

abbrev pub PhraseMeaning : Type 0
PhraseMeaning =
    general_meant phrase
    ≡ joined (tree_then (word_of (codes "f") (name (codes "A b") ∷ list_of [] ∷ [])) (tree_then (number Minus (codes "1")) no_trees))

-- ---- reading

-- `[spl0,~spl1]`
abbrev pub SignedNames : Type 0
SignedNames =
    read
    (mark (codes "[") ∷ lower (codes "spl0") ∷ mark (codes ",") ∷ lexeme Connective (codes "~") ∷ lower (codes "spl1") ∷ mark (codes "]") ∷ [])
    ≡ Some (list_of (name (codes "spl0") ∷ negated (codes "spl1") ∷ []))

-- `X:$fof("a"):+2`
abbrev pub JoinedParts : Type 0
JoinedParts =
    read
    (lexeme Variable (codes "X") ∷ mark (codes ":") ∷ lexeme Dollar (codes "$fof") ∷ mark (codes "(") ∷ lexeme Distinct (codes "\"a\"")
    ∷ mark (codes ")") ∷ mark (codes ":") ∷ lexeme Other (codes "+") ∷ lexeme Number (codes "2") ∷ [])
    ≡ Some
    (joined
    (tree_then (variable (codes "X"))
    (tree_then (dollar (codes "$fof") (tree_then (distinct (codes "\"a\"")) no_trees)) (tree_then (number Plus (codes "2")) no_trees))))

-- `'abc'` and `abc` are one word
abbrev pub OneWord : Type 0
OneWord = read (lexeme Quoted (codes "'abc'") ∷ []) ≡ read (lower (codes "abc") ∷ [])

-- `~p(a)`
abbrev pub ArgumentsBehindTilde : Type 0
ArgumentsBehindTilde =
    read (lexeme Connective (codes "~") ∷ lower (codes "p") ∷ mark (codes "(") ∷ lower (codes "a") ∷ mark (codes ")") ∷ []) ≡ None

-- `f()`
abbrev pub EmptyArguments : Type 0
EmptyArguments = read (lower (codes "f") ∷ mark (codes "(") ∷ mark (codes ")") ∷ []) ≡ None

-- `[a)`
abbrev pub OtherBracket : Type 0
OtherBracket = read (mark (codes "[") ∷ lower (codes "a") ∷ mark (codes ")") ∷ []) ≡ None

-- `a b`
abbrev pub TwoTerms : Type 0
TwoTerms = read (lower (codes "a") ∷ lower (codes "b") ∷ []) ≡ None

-- `a:`
abbrev pub NoPartBehindColon : Type 0
NoPartBehindColon = read (lower (codes "a") ∷ mark (codes ":") ∷ []) ≡ None

-- ---- sources

-- `file('a.p',12)`
abbrev pub FileSource : Type 0
FileSource =
    source_in (word_of (codes "file") (name (codes "a.p") ∷ number Unsigned (codes "12") ∷ []))
    ≡ Some (file_source (name (codes "a.p")) (codes "12"))

-- `inference(merge,[lit(0)],[c1])`
abbrev pub InferenceSource : Type 0
InferenceSource =
    source_in
    (word_of (codes "inference")
    (name (codes "merge") ∷ list_of (word_of (codes "lit") (number Unsigned (codes "0") ∷ []) ∷ []) ∷ list_of (name (codes "c1") ∷ []) ∷ []))
    ≡ Some (inference_source (name (codes "merge")) (word_of (codes "lit") (number Unsigned (codes "0") ∷ []) ∷ []) (codes "c1" ∷ []))

-- `inference(r,[],[])`
abbrev pub EmptyLists : Type 0
EmptyLists = source_in (word_of (codes "inference") (name (codes "r") ∷ list_of [] ∷ list_of [] ∷ [])) ≡ Some (inference_source (name (codes "r")) [] [])

abbrev pub Definitions : Type 0
Definitions =
    (source_in (definition_by (codes "component") (name (codes "spl0"))) ≡ Some (component_source (codes "spl0")))
    × (source_in (definition_by (codes "opposite") (name (codes "spl0"))) ≡ Some (opposite_source (codes "spl0")))

-- `inference(r,[],[c(1)])`
abbrev pub ParentWithArguments : Type 0
ParentWithArguments =
    source_in
    (word_of (codes "inference") (name (codes "r") ∷ list_of [] ∷ list_of (word_of (codes "c") (number Unsigned (codes "1") ∷ []) ∷ []) ∷ []))
    ≡ None

-- `file(a,-1)`
abbrev pub SignedFileName : Type 0
SignedFileName = source_in (word_of (codes "file") (name (codes "a") ∷ number Minus (codes "1") ∷ [])) ≡ None

-- `file(a,1/2)`
abbrev pub FractionAsName : Type 0
FractionAsName = source_in (word_of (codes "file") (name (codes "a") ∷ number Unsigned (codes "1/2") ∷ [])) ≡ None

-- `introduced(definition(a),[component(n)])`
abbrev pub DefinitionWithArguments : Type 0
DefinitionWithArguments =
    source_in
    (word_of (codes "introduced")
    (word_of (codes "definition") (name (codes "a") ∷ []) ∷ list_of (word_of (codes "component") (name (codes "n") ∷ []) ∷ []) ∷ []))
    ≡ None

-- ---- levels

-- the arguments' brackets, and those of the empty list in them
abbrev pub PhraseLevels : Type 0
PhraseLevels = general_levels (general_meant phrase) ≡ 2

-- `file('f.p',a)`
abbrev pub FileLevels : Type 0
FileLevels = source_levels (file_source (name (codes "f.p")) (codes "a")) ≡ 1

-- `inference(refl,[status(thm)],[c1])`
abbrev pub InferenceLevels : Type 0
InferenceLevels =
    source_levels (inference_source (name (codes "refl")) (word_of (codes "status") (name (codes "thm") ∷ []) ∷ []) (codes "c1" ∷ [])) ≡ 3

-- `introduced(definition,[component(spl0)])`
abbrev pub DefinitionLevels : Type 0
DefinitionLevels = general_levels (definition_by (codes "component") (name (codes "spl0"))) ≡ source_levels (component_source (codes "spl0"))
