-- The language of `fof` and `cnf`, in which a problem's formulas are written.
use Rattle.std.specs.Prelude.{◌≡◌, ℕ, false, List}
use Rattle.tptp_token.specs.Lexing.{lexed_of}
use Rattle.tptp_tree.specs.declared.limits.TheConstants.{MOST_NESTING}
use Rattle.tptp_tree.specs.declared.problem.Annotated.{Annotated}
use Rattle.tptp_tree.specs.Entries.{AnnotatedTree, language_word, is_conjecture}
use Rattle.tptp_tree.specs.Shape.{entry_of}
use Rattle.tptp_reader.specs.Annotating.{IsReading, IsFaultAt}
use Rattle.tptp_reader.specs.declared.cause.ReadCause.{ReadCause}
use Rattle.tptp_reader.specs.declared.entry.Read.{Read}
use Rattle.tptp_problem.specs.Languages.{PlacedTree, Language}

-- a formula, the name of its file and its place in it
abbrev pub Placed : Type 0
Placed = PlacedTree AnnotatedTree

abbrev pub placed_in : List ℕ → Annotated → Placed
placed_in file a = record { tree = entry_of a; file = file; place = a.place }

abbrev pub placed : Annotated → Placed
placed a = placed_in a.file a

-- A formula is read in a file, from one token up to another.
pub record IsFormulaRead (file bytes : List ℕ) (first : ℕ) (formula : Placed) (next : ℕ) : Type 0 where
  pub read : Read
  pub reading : IsReading MOST_NESTING bytes (lexed_of bytes).tokens first read
  pub formula_is : formula ≡ placed_in file read.annotated
  pub next_is : next ≡ read.next

abbrev pub annotated_formulas : Language AnnotatedTree ReadCause
annotated_formulas = record {
  word = language_word false;
  name = λ tree. tree.name;
  is_conjecture = λ tree. is_conjecture tree.role;
  IsRead = IsFormulaRead;
  IsFault = λ bytes first cause place. IsFaultAt MOST_NESTING bytes (lexed_of bytes) first cause place;
  cause = λ cause. cause;
}
