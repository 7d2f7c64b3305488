-- What is written within so many levels is printed within twice as many.
use Rattle.std.proofs.Common.{◌≡◌, ℕ, suc, ◌*◌, ◌≤◌, Bool, true, false, not, List, [], ◌∷◌, refl, arith}
use Rattle.std.specs.Prelude.{max}
use Rattle.std.proofs.Math.Nat.{max-le, le-max_left, le-max_right}
use Rattle.tptp_tree.specs.Formula.{FormulaTree, negation, formula_then}
use Rattle.tptp_tree.specs.Printing.{is_joined, is_bare}
use Rattle.tptp_tree.specs.Spelling.{Atom, true_atom, false_atom, predicate_atom, equation_atom, atom_meant, UnitPhrase, negated, bound, in_brackets, atomic, UnitPhrases, no_units, unit_then, Phrase, alone, all_of, some_of, joined_by, unit_meant, units_meant, meant}
use Rattle.tptp_tree.specs.Entries.{atom_of, LiteralPhrase, positive_literal, negated_literal, negated_in_brackets, ClausePhrase, literals, clause_in_brackets, literal_meant, literals_meant, clause_meant, Body, formula_body, clause_body, body_meant}
use Rattle.tptp_tree.specs.Levels.{with_parentheses, formula_levels, operands_levels, atom_levels, unit_levels, units_levels, phrase_levels, literal_levels, literals_levels, clause_levels, body_levels}

-- ---- parentheses

-- with those that an operand of a connective has
abbrev pub operand_levels : FormulaTree → ℕ
operand_levels f = with_parentheses (is_joined f) (formula_levels f)

-- with those that a negated formula has
abbrev pub negated_levels : FormulaTree → ℕ
negated_levels f = with_parentheses (not (is_bare f)) (formula_levels f)

pub parentheses-one : (b : Bool) (n : ℕ) → with_parentheses b n ≤ suc n
parentheses-one true n = omega arith
parentheses-one false n = omega arith

pub parentheses-some : (b : Bool) (n : ℕ) → n ≤ with_parentheses b n
parentheses-some true n = omega arith
parentheses-some false n = omega arith

negated-one : (f : FormulaTree) → negated_levels f ≤ suc (operand_levels f)
negated-one f =
    omega (arith, parentheses-one (not (is_bare f)) (formula_levels f), parentheses-some (is_joined f) (formula_levels f))

-- ---- twice as many

double-max : (a b n m : ℕ) → a ≤ 2 * n → b ≤ 2 * m → max a b ≤ 2 * max n m
double-max a b n m h g =
    let first : a ≤ 2 * max n m = omega (arith, h, le-max_left n m) in
    let second : b ≤ 2 * max n m = omega (arith, g, le-max_right n m) in
    max-le first second

atom-bare : (a : Atom) → operand_levels (atom_meant a) ≡ atom_levels a
atom-bare true_atom = refl
atom-bare false_atom = refl
atom-bare (predicate_atom w ts) = refl
atom-bare (equation_atom positive s t) = refl

atom-twice : (a : Atom) → operand_levels (atom_meant a) ≤ 2 * atom_levels a
atom-twice a = omega (arith, atom-bare a)

-- a negation, of what stood so deep
negation-twice : (f : FormulaTree) (n : ℕ) → operand_levels f ≤ 2 * n → operand_levels (negation f) ≤ 2 * suc n
negation-twice f n h = let k : suc (negated_levels f) ≤ 2 * suc n = omega (arith, negated-one f, h) in k

-- without the outermost parentheses
bare-twice : (f : FormulaTree) (n : ℕ) → operand_levels f ≤ 2 * n → formula_levels f ≤ 2 * n
bare-twice f n h = omega (arith, parentheses-some (is_joined f) (formula_levels f), h)

mutual
  pub unit-twice : (u : UnitPhrase) → operand_levels (unit_meant u) ≤ 2 * unit_levels u
  unit-twice (negated u) = negation-twice (unit_meant u) (unit_levels u) (unit-twice u)
  unit-twice (bound q xs u) =
      let n : ℕ = operand_levels (unit_meant u) in
      let k : suc (max 1 n) ≤ 2 * suc (max 1 (unit_levels u)) =
      omega (arith, double-max 1 n 1 (unit_levels u) (omega arith) (unit-twice u)) in k
  unit-twice (in_brackets p) =
      let f : FormulaTree = meant p in
      let k : operand_levels f ≤ 2 * suc (phrase_levels p) =
      omega (arith, parentheses-one (is_joined f) (formula_levels f), phrase-twice p) in k
  unit-twice (atomic a) = atom-twice a

  pub units-twice : (us : UnitPhrases) → operands_levels (units_meant us) ≤ 2 * units_levels us
  units-twice no_units = omega arith
  units-twice (unit_then u us) =
      double-max (operand_levels (unit_meant u)) (operands_levels (units_meant us)) (unit_levels u) (units_levels us) (unit-twice u) (units-twice us)

  pub phrase-twice : (p : Phrase) → formula_levels (meant p) ≤ 2 * phrase_levels p
  phrase-twice (alone u) = bare-twice (unit_meant u) (unit_levels u) (unit-twice u)
  phrase-twice (all_of u v us) =
      double-max (operand_levels (unit_meant u)) (operands_levels (formula_then (unit_meant v) (units_meant us))) (unit_levels u) (max (unit_levels v) (units_levels us)) (unit-twice u)
      (double-max (operand_levels (unit_meant v)) (operands_levels (units_meant us)) (unit_levels v) (units_levels us) (unit-twice v) (units-twice us))
  phrase-twice (some_of u v us) =
      double-max (operand_levels (unit_meant u)) (operands_levels (formula_then (unit_meant v) (units_meant us))) (unit_levels u) (max (unit_levels v) (units_levels us)) (unit-twice u)
      (double-max (operand_levels (unit_meant v)) (operands_levels (units_meant us)) (unit_levels v) (units_levels us) (unit-twice v) (units-twice us))
  phrase-twice (joined_by c u v) =
      double-max (operand_levels (unit_meant u)) (operand_levels (unit_meant v)) (unit_levels u) (unit_levels v) (unit-twice u) (unit-twice v)

-- ---- clauses

literal-twice : (l : LiteralPhrase) → operand_levels (literal_meant l) ≤ 2 * literal_levels l
literal-twice (positive_literal a) = atom-twice a
literal-twice (negated_literal a) = negation-twice (atom_meant (atom_of a)) (atom_levels (atom_of a)) (atom-twice (atom_of a))
literal-twice (negated_in_brackets a) =
    negation-twice (atom_meant (atom_of a)) (suc (atom_levels (atom_of a))) (omega (arith, atom-twice (atom_of a)))

literals-twice : (ls : List LiteralPhrase) → operands_levels (literals_meant ls) ≤ 2 * literals_levels ls
literals-twice [] = omega arith
literals-twice (l ∷ ls) =
    double-max (operand_levels (literal_meant l)) (operands_levels (literals_meant ls)) (literal_levels l) (literals_levels ls) (literal-twice l)
    (literals-twice ls)

clause-twice : (c : ClausePhrase) → formula_levels (clause_meant c) ≤ 2 * clause_levels c
clause-twice (literals l []) =
    let n : ℕ = literal_levels l in
    let k : formula_levels (literal_meant l) ≤ 2 * max n 0 =
    omega (arith, bare-twice (literal_meant l) n (literal-twice l), le-max_left n 0) in k
clause-twice (literals l (m ∷ ls)) = literals-twice (l ∷ m ∷ ls)
clause-twice (clause_in_brackets c) =
    let k : formula_levels (clause_meant c) ≤ 2 * suc (clause_levels c) = omega (arith, clause-twice c) in k

pub body-twice : (b : Body) → formula_levels (body_meant b) ≤ 2 * body_levels b
body-twice (formula_body p) = phrase-twice p
body-twice (clause_body c) = clause-twice c
