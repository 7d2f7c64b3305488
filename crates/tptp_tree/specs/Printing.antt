-- How terms, formulas and the names of formulas are printed.
use Rattle.std.specs.Prelude.{ℕ, Bool, true, false, not, List, [], ◌∷◌, ◌++◌, codes, if◌then◌else◌}
use Rattle.std.specs.List.{list_all}
use Rattle.tptp_token.specs.Spelling.{is_digit, begins}
use Rattle.tptp_token.specs.Words.{name_text}
use Rattle.tptp_tree.specs.Term.{TermTree, variable, application, TermTrees, no_terms, term_then}
use Rattle.tptp_tree.specs.Formula.{BinaryConnective, implies, implied, equivalent, different, nor, nand, Quantifier, for_all, exists_some, FormulaTree, truth, falsity, predicate, equation, negation, conjunction, disjunction, connected, quantified, FormulaTrees, no_formulas, formula_then}

-- ---- terms

-- arguments stand between brackets, with a comma between two of them
abbrev mutual
  pub term_text : TermTree → List ℕ
  term_text (variable x) = x
  term_text (application f ts) = name_text f ++ arguments_text ts

  pub arguments_text : TermTrees → List ℕ
  arguments_text no_terms = []
  arguments_text (term_then t ts) = codes "(" ++ term_text t ++ more_arguments_text ts

  -- the arguments from the second on, and the closing bracket
  pub more_arguments_text : TermTrees → List ℕ
  more_arguments_text no_terms = codes ")"
  more_arguments_text (term_then t ts) = codes "," ++ term_text t ++ more_arguments_text ts

-- ---- formulas

-- the sign of an equation between blanks
abbrev pub equals_text : Bool → List ℕ
equals_text true = codes " = "
equals_text false = codes " != "

-- a connective between blanks
abbrev pub connective_text : BinaryConnective → List ℕ
connective_text implies = codes " => "
connective_text implied = codes " <= "
connective_text equivalent = codes " <=> "
connective_text different = codes " <~> "
connective_text nor = codes " ~| "
connective_text nand = codes " ~& "

-- a quantifier with the bracket before its variables
abbrev pub quantifier_text : Quantifier → List ℕ
quantifier_text for_all = codes "! ["
quantifier_text exists_some = codes "? ["

-- the variables from the second on, each with the comma before it
abbrev pub more_variables_text : List (List ℕ) → List ℕ
more_variables_text [] = []
more_variables_text (x ∷ xs) = codes "," ++ x ++ more_variables_text xs

-- variables with a comma between two of them
abbrev pub variables_text : List (List ℕ) → List ℕ
variables_text [] = []
variables_text (x ∷ xs) = x ++ more_variables_text xs

-- the formula is made by a connective of two or more operands
abbrev pub is_joined : FormulaTree → Bool
is_joined truth = false
is_joined falsity = false
is_joined (predicate p ts) = false
is_joined (equation positive s t) = false
is_joined (negation f) = false
is_joined (conjunction fs) = true
is_joined (disjunction fs) = true
is_joined (connected c f g) = true
is_joined (quantified q xs f) = false

-- the formula stands after `~` without parentheses: an atom that is no equation, or a negation
abbrev pub is_bare : FormulaTree → Bool
is_bare truth = true
is_bare falsity = true
is_bare (predicate p ts) = true
is_bare (equation positive s t) = false
is_bare (negation f) = true
is_bare (conjunction fs) = false
is_bare (disjunction fs) = false
is_bare (connected c f g) = false
is_bare (quantified q xs f) = false

-- the text, in parentheses or not
abbrev pub in_parentheses : Bool → List ℕ → List ℕ
in_parentheses true text = codes "(" ++ text ++ codes ")"
in_parentheses false text = text

-- The printed formula. An operand of a connective and the body of a quantifier stand in parentheses where they are joined, a negated
-- formula where it isn't bare.
abbrev mutual
  pub formula_text : FormulaTree → List ℕ
  formula_text truth = codes "$true"
  formula_text falsity = codes "$false"
  formula_text (predicate p ts) = name_text p ++ arguments_text ts
  formula_text (equation positive s t) = term_text s ++ equals_text positive ++ term_text t
  formula_text (negation f) = codes "~" ++ in_parentheses (not (is_bare f)) (formula_text f)
  formula_text (conjunction fs) = operands_text (codes " & ") fs
  formula_text (disjunction fs) = operands_text (codes " | ") fs
  formula_text (connected c f g) =
      in_parentheses (is_joined f) (formula_text f) ++ connective_text c ++ in_parentheses (is_joined g) (formula_text g)
  formula_text (quantified q xs f) =
      quantifier_text q ++ variables_text xs ++ codes "] : " ++ in_parentheses (is_joined f) (formula_text f)

  -- operands with a sign between two of them
  pub operands_text : List ℕ → FormulaTrees → List ℕ
  operands_text sign no_formulas = []
  operands_text sign (formula_then f fs) = in_parentheses (is_joined f) (formula_text f) ++ more_operands_text sign fs

  pub more_operands_text : List ℕ → FormulaTrees → List ℕ
  more_operands_text sign no_formulas = []
  more_operands_text sign (formula_then f fs) =
      sign ++ in_parentheses (is_joined f) (formula_text f) ++ more_operands_text sign fs

-- an operand of a connective, or the body of a quantifier
abbrev pub operand_text : FormulaTree → List ℕ
operand_text f = in_parentheses (is_joined f) (formula_text f)

-- ---- names of formulas

-- a name of digits alone
abbrev pub is_number_name : List ℕ → Bool
is_number_name name = begins is_digit (list_all is_digit) name

-- the printed name of a formula: digits stand bare, every other name is printed as elsewhere
abbrev pub formula_name_text : List ℕ → List ℕ
formula_name_text name = if is_number_name name then name else name_text name
