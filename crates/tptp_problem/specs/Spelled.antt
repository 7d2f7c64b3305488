-- The formulas that the files of a problem spell, told without how they are read. The bytes of each file spell entries; an
-- annotated formula gives itself, and an include the formulas of its file, or those of them whose names it lists.
use Rattle.std.specs.Prelude.{◌≡◌, ℕ, zero, suc, List, [], ◌∷◌, ◌++◌, Option, None, Some}
use Rattle.std.specs.List.{filter}
use Rattle.outside.specs.Library.{Holdings, HoldsExactly}
use Rattle.tptp_tree.specs.Entries.{AnnotatedTree, EntryTree, annotated_tree, include_tree, SpellsEntries}
use Rattle.tptp_problem.specs.declared.limits.TheConstants.{MOST_INCLUDES}
use Rattle.tptp_problem.specs.Files.{base_of, loaded_name}
use Rattle.tptp_problem.specs.Formulas.{Placed}
use Rattle.tptp_problem.specs.Languages.{selects}

-- an annotated formula, and the name of its file
pub record FromFile : Type 0 where
  pub tree : AnnotatedTree
  pub file : List ℕ

abbrev pub from_file : Placed → FromFile
from_file f = record { tree = f.tree; file = f.file }

-- a relation between the name of a file and the formulas that it gives
abbrev pub Gives : Type 1
Gives = List ℕ → List FromFile → Type 0

-- An include without a list takes all; one with a list those whose names stand in it.
abbrev pub taken : Option (List (List ℕ)) → List FromFile → List FromFile
taken None formulas = formulas
taken (Some names) formulas = filter (λ (f : FromFile). selects names f.tree.name) formulas

-- The formulas that an entry of a file gives. An annotated formula gives itself; an include gives those that it takes from its file.
abbrev pub EntryGives : List ℕ → Gives → List ℕ → EntryTree → List FromFile → Type 0
EntryGives base gives file (annotated_tree tree) formulas = formulas ≡ record { tree = tree; file = file } ∷ []
EntryGives base gives file (include_tree word names) formulas =
    (all : List FromFile) × gives (loaded_name base word) all × (formulas ≡ taken names all)

-- the formulas that a list of entries gives, in order
abbrev pub EntriesGive : List ℕ → Gives → List ℕ → List EntryTree → List FromFile → Type 0
EntriesGive base gives file [] formulas = formulas ≡ []
EntriesGive base gives file (e ∷ es) formulas =
    (first : List FromFile) × (others : List FromFile) × EntryGives base gives file e first × EntriesGive base gives file es others
    × (formulas ≡ first ++ others)

-- The file is held, its bytes spell entries, and these give the formulas.
pub record FileGives (told : Option Holdings) (base : List ℕ) (gives : Gives) (name : List ℕ) (formulas : List FromFile) : Type 0 where
  pub bytes : List ℕ
  pub held : HoldsExactly told name bytes
  pub entries : List EntryTree
  pub spelled : SpellsEntries bytes entries
  pub given : EntriesGive base gives name entries formulas

-- The formulas that the file of a name gives, if files are nested at most `depth` deep, itself counted. At depth 0 no file gives any list.
abbrev pub NamedGives : Option Holdings → List ℕ → ℕ → Gives
NamedGives told base zero = λ name formulas. ⊥
NamedGives told base (suc depth) = FileGives told base (NamedGives told base depth)

-- the formulas that a file spells, after its includes and selections
abbrev pub SpellsProblem : Option Holdings → List ℕ → Option (List ℕ) → List FromFile → Type 0
SpellsProblem told file root formulas = NamedGives told (base_of root file) (suc MOST_INCLUDES) file formulas
