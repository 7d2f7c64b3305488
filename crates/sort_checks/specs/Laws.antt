-- What it means that no fault of sorts and types is found: the problem's words are different, and all its declarations and formulas are sorted.
use Rattle.std.specs.Prelude.{◌≡◌, Some, None, [], length, IsTrue, IsFalse}
use Rattle.std.specs.List.{AllByRecursion}
use Rattle.tptp_problem.specs.Languages.{PlacedTree}
use Rattle.typed_tree.specs.Sorts.{DeclarationTree}
use Rattle.typed_tree.specs.TypedEntries.{TypedEntryTree}
use Rattle.typed_problem.specs.Declarations.{Entries, is_sort_word, TypedAnnotatedTree, TypedProblemTree, all_declarations, typed_problem_of}
use Rattle.typed_problem.specs.RightTyped.{are_different_words, declared_words, IsNone}
use Rattle.typed_problem.specs.SortFaults.{body_causes, declared_causes, formula_causes, sort_fault}

-- Each word and variable of an entry has a place.
abbrev pub HavePlaces : Entries → Type 0
HavePlaces es = AllByRecursion (λ (e : PlacedTree TypedEntryTree). length (body_causes [] [] e.tree.body) ≡ length e.tree.places) es

-- the part of the condition of a translation that speaks of sorts and types
pub record IsSorted (t : TypedProblemTree) : Type 0 where
  pub words : IsTrue (are_different_words (declared_words t))
  pub symbols : AllByRecursion (λ (d : DeclarationTree). IsFalse (is_sort_word (Some d.declared))) t.declared
  pub declared : AllByRecursion (λ (d : DeclarationTree). AllByRecursion IsNone (declared_causes (all_declarations t) d.declared)) t.declared
  pub sorted : AllByRecursion (λ (a : TypedAnnotatedTree). AllByRecursion IsNone (formula_causes (all_declarations t) [] a.formula [])) t.formulas

abbrev pub SortedEntries : Type 0
SortedEntries = (es : Entries) → HavePlaces es → sort_fault es ≡ None → IsSorted (typed_problem_of es)
