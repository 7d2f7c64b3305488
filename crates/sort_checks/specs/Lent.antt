-- Entries that are lent, in the words of the definitions, and the fault that is told of them.
use Rattle.std.specs.Prelude.{◌≡◌, ℕ, List, [], ◌∷◌, map, Option, None, Some, slice_get}
use denote.Ref.{Bor}
use Rattle.tptp_problem.specs.Languages.{PlacedTree}
use Rattle.typed_tree.specs.declared.sort.Sort.{Sort}
use Rattle.typed_tree.specs.declared.sort.Declaration.{Declaration}
use Rattle.typed_tree.specs.Shape.{sort_of, typed_of}
use Rattle.typed_tree.specs.Sorts.{SortTree, individuals, Declared as TypeDeclared, a_sort, a_symbol, DeclarationTree}
use Rattle.typed_tree.specs.TypedEntries.{TypedEntryTree, BodyTree, declaration_tree, formula_tree}
use Rattle.typed_problem.specs.Declarations.{Entries, with_declaration}
use Rattle.typed_problem.specs.ProblemShape.{type_of}
use Rattle.typed_problem.specs.SortFaults.{SortFault}
use Rattle.sort_checks.specs.declared.faults.SortFault.{SortFault as Found}
use Rattle.sort_checks.specs.declared.lent.LentBody.{LentBody}
use Rattle.sort_checks.specs.declared.lent.LentBody.TheVariants.{Declared, Formula}
use Rattle.sort_checks.specs.declared.lent.LentDeclaration.{LentDeclaration}
use Rattle.sort_checks.specs.declared.lent.LentEntry.{LentEntry}

abbrev pub declared_lent : Option (Bor Declaration) → TypeDeclared
declared_lent None = a_sort
declared_lent (Some d) = a_symbol (type_of d.now)

abbrev pub declaration_lent : LentDeclaration → DeclarationTree
declaration_lent d = record { word = d.word.now; declared = declared_lent d.symbol }

abbrev pub body_lent : LentBody → BodyTree
body_lent (Declared d) = declaration_tree (declaration_lent d)
body_lent (Formula role f) = formula_tree role (typed_of f.now)

abbrev pub bodies_of : List LentEntry → List BodyTree
bodies_of es = map (λ (e : LentEntry). body_lent e.body) es

abbrev pub places_of : List LentEntry → List (List ℕ)
places_of es = map (λ (e : LentEntry). e.places.now) es

-- the declarations among bodies, in reading order
abbrev pub declared_among : List BodyTree → List DeclarationTree
declared_among [] = []
declared_among (b ∷ bs) = with_declaration b (declared_among bs)

-- `$i`, or the sort that is lent
abbrev pub sort_lent : Option (Bor Sort) → SortTree
sort_lent None = individuals
sort_lent (Some s) = sort_of s.now

abbrev pub result_lent : Option (Bor Sort) → Option SortTree
result_lent None = None
result_lent (Some s) = Some (sort_of s.now)

-- what an earlier declaration gives a word, if there is one
abbrev pub earlier_lent : Option LentDeclaration → Option TypeDeclared
earlier_lent None = None
earlier_lent (Some d) = Some (declared_lent d.symbol)

abbrev pub declaration_of_body : BodyTree → Option DeclarationTree
declaration_of_body (declaration_tree d) = Some d
declaration_of_body (formula_tree role f) = None

-- ---- faults

-- The entries say this, and their words and variables have these places.
pub record AreLent (entries : Entries) (lent : List LentEntry) : Type 0 where
  pub bodies : map (λ (e : PlacedTree TypedEntryTree). e.tree.body) entries ≡ bodies_of lent
  pub places : map (λ (e : PlacedTree TypedEntryTree). e.tree.places) entries ≡ places_of lent

abbrev pub file_of : Option (PlacedTree TypedEntryTree) → List ℕ
file_of None = []
file_of (Some e) = e.file

-- the fault that is told of entries, in the file of its entry
abbrev pub fault_told : Entries → Option Found → Option SortFault
fault_told entries None = None
fault_told entries (Some found) = Some (record { cause = found.cause; file = file_of (slice_get entries found.entry); place = found.place })
