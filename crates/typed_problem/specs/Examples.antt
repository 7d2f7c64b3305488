-- Typed problems, their faults, translations and truth, on small ones.
use Rattle.std.specs.Prelude.{◌≡◌, ℕ, ◌+◌, true, false, List, [], ◌∷◌, ◌++◌, None, Some, codes}
use Rattle.std.specs.Fmt.{decimal}
use Rattle.fol_base.specs.Interpretation.{Row}
use Rattle.tptp_tree.specs.declared.role.Role.TheVariants.{Axiom, Conjecture}
use Rattle.tptp_tree.specs.Term.{TermTree, variable, application, no_terms, term_then}
use Rattle.tptp_tree.specs.Formula.{implies, for_all, exists_some, FormulaTree, predicate as untyped_predicate, connected as untyped_connected, quantified as untyped_quantified}
use Rattle.tptp_problem.specs.Languages.{PlacedTree}
use Rattle.typed_tree.specs.declared.cause.TypedCause.TheVariants.{UnknownSort, TwoTypes, SortClash}
use Rattle.typed_tree.specs.Sorts.{SortTree, individuals, named_sort, a_sort, a_symbol, SymbolType}
use Rattle.typed_tree.specs.TypedFormula.{TypedTree, predicate, equation, quantified}
use Rattle.typed_tree.specs.TypedEntries.{TypedEntryTree, BodyTree, declaration_tree, formula_tree}
use Rattle.typed_problem.specs.Declarations.{Entries, TypedProblemTree, typed_problem_of}
use Rattle.typed_problem.specs.SortFaults.{sort_fault}
use Rattle.typed_problem.specs.RightTyped.{typed_problem_size}
use Rattle.typed_problem.specs.Translation.{made_axiom, translation}
use Rattle.typed_problem.specs.TypedTruth.{TypedInterpretation, is_typed_model, typed_axioms_true, typed_conjecture_true}

-- ---- dogs

abbrev pub dog : SortTree
dog = named_sort (codes "dog")

abbrev pub fido : TermTree
fido = application (codes "fido") no_terms

abbrev pub dogs : TypedProblemTree
dogs = record {
  sorts = codes "dog" ∷ [];
  declared =
      record { word = codes "fido"; declared = a_symbol (record { arguments = []; result = Some dog }) }
      ∷ record { word = codes "barks"; declared = a_symbol (record { arguments = dog ∷ []; result = None }) } ∷ [];
  formulas =
      record {
        name = codes "a";
        role = Axiom;
        formula =
            quantified for_all (record { name = codes "X"; sort = dog } ∷ []) (predicate (codes "barks") (term_then (variable (codes "X")) no_terms));
        file = codes "t";
        place = 74;
      }
      ∷ record {
        name = codes "c";
        role = Conjecture;
        formula = predicate (codes "barks") (term_then fido no_terms);
        file = codes "t";
        place = 109;
      }
      ∷ [];
}

-- an entry of the file `t`
abbrev entry : List ℕ → BodyTree → List ℕ → ℕ → PlacedTree TypedEntryTree
entry name body places place = record { tree = record { name = name; body = body; places = places }; file = codes "t"; place = place }

-- what a declaration says of a word
abbrev declares : List ℕ → SymbolType → BodyTree
declares word type_of = declaration_tree (record { word = word; declared = a_symbol type_of })

abbrev constant : SortTree → SymbolType
constant s = record { arguments = []; result = Some s }

abbrev barking : SymbolType
barking = record { arguments = dog ∷ []; result = None }

abbrev barks : TermTree → TypedTree
barks t = predicate (codes "barks") (term_then t no_terms)

-- `dog: $tType`, `fido: dog`, `barks: dog > $o`, the last one twice, and the two formulas
abbrev dogs_entries : Entries
dogs_entries =
    entry (codes "s") (declaration_tree (record { word = codes "dog"; declared = a_sort })) (11 ∷ []) 0
    ∷ entry (codes "f") (declares (codes "fido") (constant dog)) (35 ∷ 41 ∷ []) 24
    ∷ entry (codes "p") (declares (codes "barks") barking) (58 ∷ 65 ∷ []) 47
    ∷ entry (codes "q") (declares (codes "barks") barking) (88 ∷ 95 ∷ []) 77
    ∷ entry (codes "a")
    (formula_tree Axiom (quantified for_all (record { name = codes "X"; sort = dog } ∷ []) (barks (variable (codes "X"))))) (90 ∷ 93 ∷ 100 ∷ 106 ∷ []) 74
    ∷ entry (codes "c") (formula_tree Conjecture (barks fido)) (127 ∷ 133 ∷ []) 109 ∷ []

-- A declaration that repeats an earlier one isn't listed again, and nothing is wrong.
abbrev pub DogsAreSorted : Type 0
DogsAreSorted = sort_fault dogs_entries ≡ None

abbrev pub DogsAreProblem : Type 0
DogsAreProblem = typed_problem_of dogs_entries ≡ dogs

-- two declared symbols with a sort each and the word of the sort; two formulas; and two and four occurrences and a variable of a quantifier
abbrev pub DogsSize : Type 0
DogsSize = typed_problem_size dogs ≡ 3 + 2 + 2 + 5

abbrev pub of_sort : List ℕ → TermTree → FormulaTree
of_sort sort t = untyped_predicate sort (term_then t no_terms)

abbrev pub some_of_sort : List ℕ → FormulaTree
some_of_sort sort = untyped_quantified exists_some (codes "X" ∷ []) (of_sort sort (variable (codes "X")))

-- the predicate of a sort, by the sort's number
abbrev pub of_number : ℕ → List ℕ
of_number number = codes "ty" ++ decimal number

-- Its translation: there are individuals and dogs, Fido is a dog, all dogs bark, and Fido barks.
abbrev pub DogsAreTranslated : Type 0
DogsAreTranslated =
    translation dogs
    ≡ made_axiom (codes "sort") 0 (some_of_sort (of_number 0))
    ∷ made_axiom (codes "sort") 1 (some_of_sort (of_number 1))
    ∷ made_axiom (codes "fun") 0 (of_sort (of_number 1) fido)
    ∷ record {
      tree =
          record {
            name = codes "a";
            role = Axiom;
            is_clause = false;
            formula =
                untyped_quantified for_all (codes "X" ∷ [])
                (untyped_connected implies (of_sort (of_number 1) (variable (codes "X"))) (of_sort (codes "barks") (variable (codes "X"))));
          };
      file = codes "t";
      place = 74;
    }
    ∷ record {
      tree = record { name = codes "c"; role = Conjecture; is_clause = false; formula = of_sort (codes "barks") fido };
      file = codes "t";
      place = 109;
    }
    ∷ []

-- ---- faults

-- `c: dog`, where no declaration makes `dog` a sort, at that word
abbrev pub SortUnknown : Type 0
SortUnknown =
    sort_fault (entry (codes "a") (declares (codes "c") (constant dog)) (11 ∷ 14 ∷ []) 0 ∷ [])
    ≡ Some (record { cause = UnknownSort; file = codes "t"; place = 14 })

-- `c: $i` and then `c: $o`, at the second `c`
abbrev pub DeclaredTwice : Type 0
DeclaredTwice =
    sort_fault
    (entry (codes "a") (declares (codes "c") (constant individuals)) (11 ∷ []) 0
    ∷ entry (codes "b") (declares (codes "c") (record { arguments = []; result = None })) (29 ∷ []) 18 ∷ [])
    ≡ Some (record { cause = TwoTypes; file = codes "t"; place = 29 })

-- an individual where a dog is wanted, at the argument, and the declaration stands after it
abbrev pub CatBarks : Type 0
CatBarks =
    sort_fault
    (entry (codes "a") (formula_tree Axiom (barks (application (codes "tom") no_terms))) (12 ∷ 18 ∷ []) 0
    ∷ entry (codes "s") (declaration_tree (record { word = codes "dog"; declared = a_sort })) (35 ∷ []) 24
    ∷ entry (codes "p") (declares (codes "barks") barking) (58 ∷ 65 ∷ []) 47 ∷ [])
    ≡ Some (record { cause = SortClash; file = codes "t"; place = 18 })

-- an equation between a dog and an individual, at its right side
abbrev pub MixedEquation : Type 0
MixedEquation =
    sort_fault
    (entry (codes "s") (declaration_tree (record { word = codes "dog"; declared = a_sort })) (11 ∷ []) 0
    ∷ entry (codes "f") (declares (codes "fido") (constant dog)) (35 ∷ 41 ∷ []) 24
    ∷ entry (codes "a") (formula_tree Axiom (equation true fido (application (codes "tom") no_terms))) (59 ∷ 64 ∷ []) 47 ∷ [])
    ≡ Some (record { cause = SortClash; file = codes "t"; place = 64 })

-- ---- truth: the symbols are `$true`, `fido` and `barks`, by their numbers 0, 1 and 2

-- one individual and two dogs, which both bark, or of which the second doesn't
abbrev barking_row : ℕ → ℕ → Row
barking_row dog_number value = record { symbol = 2; arguments = dog_number ∷ []; value = value }

abbrev both_bark : TypedInterpretation
both_bark = record { sizes = 1 ∷ 2 ∷ []; rows = barking_row 0 1 ∷ barking_row 1 1 ∷ [] }

abbrev one_barks : TypedInterpretation
one_barks = record { sizes = 1 ∷ 2 ∷ []; rows = barking_row 0 1 ∷ [] }

-- Where all dogs bark, Fido does.
abbrev pub AllBark : Type 0
AllBark = (typed_axioms_true dogs both_bark ≡ true) × (typed_conjecture_true dogs both_bark ≡ true)

-- Where one dog doesn't, the axiom is false, though Fido barks.
abbrev pub OneBarks : Type 0
OneBarks = (typed_axioms_true dogs one_barks ≡ false) × (typed_conjecture_true dogs one_barks ≡ true)

-- Neither makes the axiom true and the conjecture false.
abbrev pub NoModels : Type 0
NoModels = (is_typed_model dogs both_bark ≡ false) × (is_typed_model dogs one_barks ≡ false)
