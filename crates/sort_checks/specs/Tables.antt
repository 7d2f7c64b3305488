-- The table of the words that a problem declares.
use Rattle.std.specs.Prelude.{◌≡◌, ℕ, suc, Bool, false, ◌&&◌, ◌||◌, List, [], ◌∷◌, ◌++◌, Option, None, Some, bytes_eq, if◌then◌else◌}
use denote.Ref.{Bor}
use Rattle.std.specs.Option.{is_some}
use Rattle.std.specs.HashMap.{HashMap, get}
use Rattle.std.specs.HashSet.{HashSet, contains}
use Rattle.std.specs.declared.hash.DefaultHasher.{DefaultHasher}
use Rattle.std.specs.declared.hash.BuildHasherDefault.{BuildHasherDefault}
use Rattle.tptp_reader.specs.declared.source.Name.{Name}
use Rattle.tptp_reader.specs.Bound.{bytes_of, same_name}
use Rattle.typed_tree.specs.declared.cause.TypedCause.{TypedCause}
use Rattle.typed_tree.specs.declared.sort.Declaration.{Declaration}
use Rattle.typed_tree.specs.Sorts.{SymbolType, DeclarationTree}
use Rattle.typed_tree.specs.TypedEntries.{BodyTree, declaration_tree, formula_tree}
use Rattle.typed_problem.specs.Declarations.{is_sort_word, declared_as, with_declaration}
use Rattle.typed_problem.specs.ProblemShape.{type_of}
use Rattle.typed_problem.specs.SortFaults.{SortFault}

-- ---- which entry declares a word first

abbrev pub declares : List ℕ → BodyTree → Bool
declares word (declaration_tree d) = bytes_eq d.word word
declares word (formula_tree role f) = false

-- the index of the first body that declares a word, where the first of them has that index
abbrev pub first_from : ℕ → List BodyTree → List ℕ → Option ℕ
first_from index [] word = None
first_from index (b ∷ bs) word = if declares word b then Some index else first_from (suc index) bs word

-- whether a body makes a word a sort
abbrev pub makes_sort : List ℕ → BodyTree → Bool
makes_sort word (declaration_tree d) = bytes_eq d.word word && is_sort_word (Some d.declared)
makes_sort word (formula_tree role f) = false

abbrev pub is_made_sort : List BodyTree → List ℕ → Bool
is_made_sort [] word = false
is_made_sort (b ∷ bs) word = makes_sort word b || is_made_sort bs word

abbrev pub WordTable : Type 0
WordTable = HashMap Name ℕ (BuildHasherDefault DefaultHasher)

abbrev pub WordSet : Type 0
WordSet = HashSet Name (BuildHasherDefault DefaultHasher)

abbrev pub HasFirst : ℕ → List BodyTree → WordTable → Type 0
HasFirst index bodies table = (n : Name) → get same_name table n ≡ first_from index bodies (bytes_of n)

abbrev pub HasSorts : List BodyTree → WordSet → Type 0
HasSorts bodies set = (n : Name) → contains same_name set n ≡ is_made_sort bodies (bytes_of n)

-- The table has the first declaration of each word, and the words that are sorts.
pub record HasWords (bodies : List BodyTree) (table : WordTable) (set : WordSet) : Type 0 where
  pub first : HasFirst 0 bodies table
  pub sorts : HasSorts bodies set

-- ---- types

-- the type that is told of a symbol, or else another
abbrev pub type_told : SymbolType → Option (Bor Declaration) → SymbolType
type_told otherwise None = otherwise
type_told otherwise (Some d) = type_of d.now

-- ---- repeated declarations

-- whether it declares a word that these declare
abbrev pub repeats : List DeclarationTree → BodyTree → Bool
repeats earlier (declaration_tree d) = is_some (declared_as earlier d.word)
repeats earlier (formula_tree role f) = false

abbrev pub repeats_from : List DeclarationTree → List BodyTree → List Bool
repeats_from earlier [] = []
repeats_from earlier (b ∷ bs) = repeats earlier b ∷ repeats_from (earlier ++ with_declaration b []) bs

-- a cause with its place
abbrev pub place_told : TypedCause × ℕ → SortFault
place_told f = record { cause = f.0; file = []; place = f.1 }
