-- A code for formulas over names: a term whose names begin with a number for the kind of the formula.
use Rattle.std.specs.Prelude.{◌≡◌, ℕ, zero, suc, Bool, true, false, List, [], ◌∷◌, refl}
use Rattle.std.specs.Coded.{Coded, code_by}
use Rattle.std.proofs.Common.{◌∙◌, ap, ap₂}
use Rattle.tptp_tree.specs.Term.{TermTree, variable, application, TermTrees, no_terms, term_then}
use Rattle.tptp_tree.specs.TermCodes.{term_code}
use Rattle.tptp_tree.specs.Formula.{BinaryConnective, implies, implied, equivalent, different, nor, nand, Quantifier, for_all, exists_some, FormulaTree, truth, falsity, predicate, equation, negation, conjunction, disjunction, connected, quantified, FormulaTrees, no_formulas, formula_then}

-- ---- connectives, signs and quantifiers by numbers

-- a number for each connective
abbrev pub connective_number : BinaryConnective → ℕ
connective_number implies = 0
connective_number implied = 1
connective_number equivalent = 2
connective_number different = 3
connective_number nor = 4
connective_number nand = 5

-- the connective of a number
abbrev pub connective_of : ℕ → BinaryConnective
connective_of zero = implies
connective_of (suc zero) = implied
connective_of (suc (suc zero)) = equivalent
connective_of (suc (suc (suc zero))) = different
connective_of (suc (suc (suc (suc zero)))) = nor
connective_of (suc (suc (suc (suc (suc n))))) = nand

pub connective_of-number : (c : BinaryConnective) → connective_of (connective_number c) ≡ c
connective_of-number implies = refl
connective_of-number implied = refl
connective_of-number equivalent = refl
connective_of-number different = refl
connective_of-number nor = refl
connective_of-number nand = refl

-- a number for each sign: 1 for `=`, 0 for `!=`
abbrev pub sign_number : Bool → ℕ
sign_number true = 1
sign_number false = 0

-- the sign of a number
abbrev pub sign_of : ℕ → Bool
sign_of zero = false
sign_of (suc n) = true

pub sign_of-number : (b : Bool) → sign_of (sign_number b) ≡ b
sign_of-number true = refl
sign_of-number false = refl

-- a number for each quantifier
abbrev pub quantifier_number : Quantifier → ℕ
quantifier_number for_all = 0
quantifier_number exists_some = 1

-- the quantifier of a number
abbrev pub quantifier_of : ℕ → Quantifier
quantifier_of zero = for_all
quantifier_of (suc n) = exists_some

pub quantifier_of-number : (q : Quantifier) → quantifier_of (quantifier_number q) ≡ q
quantifier_of-number for_all = refl
quantifier_of-number exists_some = refl

-- ---- texts

-- the first number of a name, 0 where it is empty
abbrev pub number_first : List ℕ → ℕ
number_first [] = 0
number_first (n ∷ ns) = n

-- texts as terms: each is a variable's name
abbrev pub text_terms : List (List ℕ) → TermTrees
text_terms [] = no_terms
text_terms (x ∷ xs) = term_then (variable x) (text_terms xs)

-- the name at the head of a term
abbrev pub text_of : TermTree → List ℕ
text_of (variable x) = x
text_of (application f ts) = f

-- the names at the heads of terms
abbrev pub texts_of : TermTrees → List (List ℕ)
texts_of no_terms = []
texts_of (term_then t ts) = text_of t ∷ texts_of ts

pub texts_of-terms : (xs : List (List ℕ)) → texts_of (text_terms xs) ≡ xs
texts_of-terms [] = refl
texts_of-terms (x ∷ xs) = ap (λ ys. x ∷ ys) (texts_of-terms xs)

-- ---- formulas

-- A formula as a term: the head's name begins with a number for the kind of the formula, and the arguments are its parts. Formulas
-- that differ have codes that differ.
abbrev mutual
  pub encoded : FormulaTree → TermTree
  encoded truth = application (0 ∷ []) no_terms
  encoded falsity = application (1 ∷ []) no_terms
  encoded (predicate p ts) = application (2 ∷ p) ts
  encoded (equation positive s t) = application (3 ∷ sign_number positive ∷ []) (term_then s (term_then t no_terms))
  encoded (negation f) = application (4 ∷ []) (term_then (encoded f) no_terms)
  encoded (conjunction fs) = application (5 ∷ []) (encoded_formulas fs)
  encoded (disjunction fs) = application (6 ∷ []) (encoded_formulas fs)
  encoded (connected c f g) =
      application (7 ∷ connective_number c ∷ []) (term_then (encoded f) (term_then (encoded g) no_terms))
  encoded (quantified q xs f) = application (8 ∷ quantifier_number q ∷ []) (term_then (encoded f) (text_terms xs))

  pub encoded_formulas : FormulaTrees → TermTrees
  encoded_formulas no_formulas = no_terms
  encoded_formulas (formula_then f fs) = term_then (encoded f) (encoded_formulas fs)

abbrev pub decoded_equation : ℕ → TermTrees → FormulaTree
decoded_equation sign no_terms = truth
decoded_equation sign (term_then s no_terms) = truth
decoded_equation sign (term_then s (term_then t ts)) = equation (sign_of sign) s t

-- the formula of a code
abbrev mutual
  pub decoded : TermTree → FormulaTree
  decoded (variable x) = truth
  decoded (application [] ts) = truth
  decoded (application (zero ∷ x) ts) = truth
  decoded (application (suc zero ∷ x) ts) = falsity
  decoded (application (suc (suc zero) ∷ x) ts) = predicate x ts
  decoded (application (suc (suc (suc zero)) ∷ x) ts) = decoded_equation (number_first x) ts
  decoded (application (suc (suc (suc (suc zero))) ∷ x) ts) = decoded_negation ts
  decoded (application (suc (suc (suc (suc (suc zero)))) ∷ x) ts) = conjunction (decoded_formulas ts)
  decoded (application (suc (suc (suc (suc (suc (suc zero))))) ∷ x) ts) = disjunction (decoded_formulas ts)
  decoded (application (suc (suc (suc (suc (suc (suc (suc zero)))))) ∷ x) ts) = decoded_connected ts (number_first x)
  decoded (application (suc (suc (suc (suc (suc (suc (suc (suc n))))))) ∷ x) ts) = decoded_quantified ts (number_first x)

  pub decoded_negation : TermTrees → FormulaTree
  decoded_negation no_terms = truth
  decoded_negation (term_then t ts) = negation (decoded t)

  pub decoded_connected : TermTrees → ℕ → FormulaTree
  decoded_connected no_terms c = truth
  decoded_connected (term_then f no_terms) c = truth
  decoded_connected (term_then f (term_then g ts)) c = connected (connective_of c) (decoded f) (decoded g)

  pub decoded_quantified : TermTrees → ℕ → FormulaTree
  decoded_quantified no_terms q = truth
  decoded_quantified (term_then f ts) q = quantified (quantifier_of q) (texts_of ts) (decoded f)

  pub decoded_formulas : TermTrees → FormulaTrees
  decoded_formulas no_terms = no_formulas
  decoded_formulas (term_then t ts) = formula_then (decoded t) (decoded_formulas ts)

mutual
  pub decoded-formula : (f : FormulaTree) → decoded (encoded f) ≡ f
  decoded-formula truth = refl
  decoded-formula falsity = refl
  decoded-formula (predicate p ts) = refl
  decoded-formula (equation positive s t) = ap (λ b. equation b s t) (sign_of-number positive)
  decoded-formula (negation f) = ap negation (decoded-formula f)
  decoded-formula (conjunction fs) = ap conjunction (decoded-formulas fs)
  decoded-formula (disjunction fs) = ap disjunction (decoded-formulas fs)
  decoded-formula (connected c f g) =
      ap (λ d. connected d (decoded (encoded f)) (decoded (encoded g))) (connective_of-number c)
      ∙ ap₂ (connected c) (decoded-formula f) (decoded-formula g)
  decoded-formula (quantified q xs f) =
      ap (λ r. quantified r (texts_of (text_terms xs)) (decoded (encoded f))) (quantifier_of-number q)
      ∙ ap₂ (quantified q) (texts_of-terms xs) (decoded-formula f)

  pub decoded-formulas : (fs : FormulaTrees) → decoded_formulas (encoded_formulas fs) ≡ fs
  decoded-formulas no_formulas = refl
  decoded-formulas (formula_then f fs) = ap₂ formula_then (decoded-formula f) (decoded-formulas fs)

abbrev pub formula_code : Coded FormulaTree
formula_code = code_by TermTree term_code encoded decoded decoded-formula
