-- Small items, read.
use Rattle.std.specs.Prelude.{◌≡◌, ℕ, true, false, List, [], ◌∷◌, codes, None, Some}
use Rattle.tptp_tree.specs.Term.{variable as variable_term, application, no_terms, term_then}
use Rattle.tptp_source.specs.declared.sign.NumberSign.TheVariants.{Unsigned, Minus}
use Rattle.tptp_source.specs.declared.items.SideName.TheVariants.{Left}
use Rattle.tptp_source.specs.General.{GeneralTree, variable, number, negated}
use Rattle.tptp_source.specs.Sources.{word_of, list_of}
use Rattle.tptp_source.specs.Items.{side_in, signed_name_in, number_in, all_numbers, term_in}

abbrev digits : List ℕ → GeneralTree
digits n = number Unsigned n

abbrev pub Sides : Type 0
Sides = (side_in (word_of (codes "left") []) ≡ Some Left) × (side_in (word_of (codes "left") (digits (codes "0") ∷ [])) ≡ None)

abbrev pub SignedNames : Type 0
SignedNames =
    (signed_name_in (negated (codes "spl0")) ≡ Some (false, codes "spl0")) × (signed_name_in (word_of (codes "p") []) ≡ Some (true, codes "p"))
    × (signed_name_in (digits (codes "1")) ≡ None)

abbrev pub Decimals : Type 0
Decimals =
    (number_in (digits (codes "120")) ≡ Some 120) × (number_in (digits (codes "0")) ≡ Some 0)
    × (number_in (digits (codes "18446744073709551615")) ≡ Some 18446744073709551615)

abbrev pub NoDecimals : Type 0
NoDecimals =
    (number_in (digits (codes "012")) ≡ None) × (number_in (digits (codes "1.5")) ≡ None) × (number_in (number Minus (codes "1")) ≡ None)
    × (number_in (digits (codes "18446744073709551616")) ≡ None)

abbrev pub NumberLists : Type 0
NumberLists =
    (all_numbers (digits (codes "0") ∷ digits (codes "7") ∷ []) ≡ Some (0 ∷ 7 ∷ [])) × (all_numbers (variable (codes "X") ∷ []) ≡ None)

-- `f(X,a)`, and `f([])`
abbrev pub FormulaTerms : Type 0
FormulaTerms =
    (term_in (word_of (codes "f") (variable (codes "X") ∷ word_of (codes "a") [] ∷ []))
    ≡ Some (application (codes "f") (term_then (variable_term (codes "X")) (term_then (application (codes "a") no_terms) no_terms))))
    × (term_in (word_of (codes "f") (list_of [] ∷ [])) ≡ None)
