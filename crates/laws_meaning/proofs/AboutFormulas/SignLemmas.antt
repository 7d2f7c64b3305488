-- The truth of formulas under a sign.
use Rattle.std.proofs.Common.{◌≡◌, ℕ, ◌==◌, Bool, true, false, not, ◌&&◌, ◌||◌, List, [], ◌∷◌, if◌then◌else◌, refl, ap, sym, ◌∙◌}
use mathlib.Core.Bool.{beq}
use Rattle.tptp_tree.specs.Formula.{implies, implied, equivalent, different, nor, nand, for_all, exists_some, FormulaTrees, no_formulas, formula_then}
use Rattle.fol_base.specs.Canonical.{numbers_from}
use Rattle.fol_base.specs.Interpretation.{Interpretation, sides_true}
use Rattle.signature.specs.declared.symbol.Symbol.{Symbol}
use Rattle.signature.specs.Truth.{Values, connective_true, values_tested, formula_true, all_formulas_true, some_formula_true}
use Rattle.laws_meaning.proofs.AboutStructures.ListLemmas.{all-agree, any-agree, not-all, not-any}

-- as it is under + (true), the opposite under - (false)
abbrev pub signed : Bool → Bool → Bool
signed true b = b
signed false b = not b

not-not : (b : Bool) → not (not b) ≡ b
not-not true = refl
not-not false = refl

pub equation-sign : (sign positive : Bool) (v w : ℕ) → sides_true (beq positive sign) v w ≡ signed sign (sides_true positive v w)
equation-sign true true v w = refl
equation-sign true false v w = refl
equation-sign false true v w = refl
equation-sign false false v w = sym (not-not (v == w))

pub atom-sign : (sign : Bool) (v : ℕ) → sides_true sign v 1 ≡ signed sign (v == 1)
atom-sign true v = refl
atom-sign false v = refl

-- ---- connectives

-- both, or one of them
abbrev pub joined_truth : Bool → Bool → Bool → Bool
joined_truth listed a b = if listed then a && b else a || b

pub implies-sign : (sign a b : Bool) → joined_truth (not sign) (signed (not sign) a) (signed sign b) ≡ signed sign (connective_true implies a b)
implies-sign true true b = refl
implies-sign true false b = refl
implies-sign false true b = refl
implies-sign false false b = refl

pub implied-sign : (sign a b : Bool) → joined_truth (not sign) (signed sign a) (signed (not sign) b) ≡ signed sign (connective_true implied a b)
implied-sign true true b = refl
implied-sign true false b = refl
implied-sign false true b = refl
implied-sign false false true = refl
implied-sign false false false = refl

pub nor-sign : (sign a b : Bool) → joined_truth sign (signed (not sign) a) (signed (not sign) b) ≡ signed sign (connective_true nor a b)
nor-sign true true b = refl
nor-sign true false b = refl
nor-sign false true b = refl
nor-sign false false true = refl
nor-sign false false false = refl

pub nand-sign : (sign a b : Bool) → joined_truth (not sign) (signed (not sign) a) (signed (not sign) b) ≡ signed sign (connective_true nand a b)
nand-sign true true b = refl
nand-sign true false b = refl
nand-sign false true true = refl
nand-sign false true false = refl
nand-sign false false b = refl

pub equivalent-sign :
    (sign a b : Bool)
    → joined_truth true (joined_truth false (signed (not sign) a) (signed true b)) (joined_truth false (signed sign a) (signed false b))
    ≡ signed sign (connective_true equivalent a b)
equivalent-sign true true true = refl
equivalent-sign true true false = refl
equivalent-sign true false true = refl
equivalent-sign true false false = refl
equivalent-sign false true true = refl
equivalent-sign false true false = refl
equivalent-sign false false true = refl
equivalent-sign false false false = refl

pub different-sign :
    (sign a b : Bool)
    → joined_truth true (joined_truth false (signed sign a) (signed true b)) (joined_truth false (signed (not sign) a) (signed false b))
    ≡ signed sign (connective_true different a b)
different-sign true true true = refl
different-sign true true false = refl
different-sign true false true = refl
different-sign true false false = refl
different-sign false true true = refl
different-sign false true false = refl
different-sign false false true = refl
different-sign false false false = refl

-- ---- quantifiers

pub not-for_all :
    (size : ℕ) (xs : List (List ℕ)) (test : Values → Bool) (V : Values)
    → not (values_tested for_all size xs test V) ≡ values_tested exists_some size xs (λ W. not (test W)) V
not-for_all size [] test V = refl
not-for_all size (x ∷ xs) test V =
    not-all (λ v. values_tested for_all size xs test ((x, v) ∷ V)) (numbers_from 0 size)
    ∙ any-agree (λ v. not (values_tested for_all size xs test ((x, v) ∷ V)))
    (λ v. values_tested exists_some size xs (λ W. not (test W)) ((x, v) ∷ V)) (λ v. not-for_all size xs test ((x, v) ∷ V)) (numbers_from 0 size)

pub not-exists :
    (size : ℕ) (xs : List (List ℕ)) (test : Values → Bool) (V : Values)
    → not (values_tested exists_some size xs test V) ≡ values_tested for_all size xs (λ W. not (test W)) V
not-exists size [] test V = refl
not-exists size (x ∷ xs) test V =
    not-any (λ v. values_tested exists_some size xs test ((x, v) ∷ V)) (numbers_from 0 size)
    ∙ all-agree (λ v. not (values_tested exists_some size xs test ((x, v) ∷ V)))
    (λ v. values_tested for_all size xs (λ W. not (test W)) ((x, v) ∷ V)) (λ v. not-exists size xs test ((x, v) ∷ V)) (numbers_from 0 size)

-- ---- lists of formulas

abbrev pub all_signed : List Symbol → Interpretation → Bool → FormulaTrees → Values → Bool
all_signed known i sign no_formulas V = true
all_signed known i sign (formula_then f fs) V = signed sign (formula_true known i f V) && all_signed known i sign fs V

abbrev pub some_signed : List Symbol → Interpretation → Bool → FormulaTrees → Values → Bool
some_signed known i sign no_formulas V = false
some_signed known i sign (formula_then f fs) V = signed sign (formula_true known i f V) || some_signed known i sign fs V

not-and : (a b c : Bool) → not b ≡ c → not (a && b) ≡ (not a || c)
not-and true b c e = e
not-and false b c e = refl

not-or : (a b c : Bool) → not b ≡ c → not (a || b) ≡ (not a && c)
not-or true b c e = refl
not-or false b c e = e

pub conjunction-sign :
    (known : List Symbol) (i : Interpretation) (fs : FormulaTrees) (V : Values)
    → (all_signed known i true fs V ≡ all_formulas_true known i fs V) × (some_signed known i false fs V ≡ not (all_formulas_true known i fs V))
conjunction-sign known i no_formulas V = (refl, refl)
conjunction-sign known i (formula_then f fs) V =
    let rest = conjunction-sign known i fs V in (
      ap (λ b. formula_true known i f V && b) rest.0,
      sym (not-and (formula_true known i f V) (all_formulas_true known i fs V) (some_signed known i false fs V) (sym rest.1)),
    )

pub disjunction-sign :
    (known : List Symbol) (i : Interpretation) (fs : FormulaTrees) (V : Values)
    → (some_signed known i true fs V ≡ some_formula_true known i fs V) × (all_signed known i false fs V ≡ not (some_formula_true known i fs V))
disjunction-sign known i no_formulas V = (refl, refl)
disjunction-sign known i (formula_then f fs) V =
    let rest = disjunction-sign known i fs V in (
      ap (λ b. formula_true known i f V || b) rest.0,
      sym (not-or (formula_true known i f V) (some_formula_true known i fs V) (all_signed known i false fs V) (sym rest.1)),
    )
