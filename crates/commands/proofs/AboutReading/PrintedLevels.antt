-- A formula that was read within so many levels is printed within twice as many.
use Rattle.std.proofs.Common.{◌≡◌, ℕ, suc, ◌+◌, ◌-◌, ◌*◌, ◌<◌, ◌≤◌, Bool, true, false, not, List, [], ◌∷◌, Option, None, Some, refl, arith}
use Rattle.std.specs.Prelude.{nat_lt, max, if◌then◌else◌}
use Rattle.std.proofs.lemmas.Bool.{ltb-true}
use Rattle.std.proofs.Math.Nat.{max-le}
use Rattle.tptp_tree.specs.Formula.{FormulaTree, FormulaTrees, formula_then}
use Rattle.tptp_tree.specs.Printing.{is_joined, is_bare}
use Rattle.tptp_tree.specs.Spelling.{TermPhrase, variable_word, word_with, TermPhrases, no_phrases, phrase_then, term_meant, terms_meant, Atom, true_atom, false_atom, predicate_atom, equation_atom, atom_meant, UnitPhrase, negated, bound, in_brackets, atomic, UnitPhrases, no_units, unit_then, Phrase, alone, all_of, some_of, joined_by, unit_meant, units_meant, meant}
use Rattle.tptp_tree.specs.Entries.{atom_of, LiteralPhrase, positive_literal, negated_literal, negated_in_brackets, ClausePhrase, literals, clause_in_brackets, literal_meant, literals_meant, clause_meant, Body, formula_body, clause_body, body_meant}
use Rattle.tptp_tree.specs.Causes.{Refusal, too_deep, Surroundings, deeper, binding, begun, term_causes, arguments_causes, more_arguments_causes, atom_causes, more_variables_causes, unit_causes, units_causes, phrase_causes, literal_causes, more_literals_causes, clause_causes, outermost, body_causes}
use Rattle.tptp_reader.specs.Answers.{AreFaultless}
use Rattle.tstp_writer.proofs.ReadAgain.Parentheses.{parentheses-one, parentheses-some}
use Rattle.tptp_tree.specs.Levels.{term_levels, arguments_levels, terms_levels, with_parentheses, formula_levels, operands_levels}

-- ---- levels that are left

begun-below : (s : Surroundings) → begun s ≡ None → s.level < s.limit
begun-below s h = by (nat_lt s.level s.limit) refl h
  where
    by : (t : Bool) → nat_lt s.level s.limit ≡ t → (if t then None else Some too_deep) ≡ None → s.level < s.limit
    by true e k = ltb-true s.level s.limit e
    by false e k = absurd (cc)

-- of the surroundings, so many levels are left for terms
record Fits (s : Surroundings) (levels : ℕ) : Type 0 where
  fits : s.level + levels ≤ s.limit

-- and twice as many for what is printed
record FitsTwice (s : Surroundings) (levels : ℕ) : Type 0 where
  fits : 2 * s.level + levels ≤ 2 * s.limit

abbrev IsInside : Surroundings → Type 0
IsInside s = s.level ≤ s.limit

max-within : (n a b k : ℕ) → n + a ≤ k → n + b ≤ k → n + max a b ≤ k
max-within n a b k h g =
    let first : a ≤ k - n = omega (arith, h) in
    let second : b ≤ k - n = omega (arith, g) in
    omega (arith, h, max-le first second)

both-fit : (s : Surroundings) (a b : ℕ) → Fits s a → Fits s b → Fits s (max a b)
both-fit s a b h g = record { fits = max-within s.level a b s.limit h.fits g.fits }

both-twice : (s : Surroundings) (a b : ℕ) → FitsTwice s a → FitsTwice s b → FitsTwice s (max a b)
both-twice s a b h g = record { fits = max-within (2 * s.level) a b (2 * s.limit) h.fits g.fits }

nothing-fits : (s : Surroundings) → IsInside s → Fits s 0
nothing-fits s l = record { fits = omega (arith, l) }

nothing-twice : (s : Surroundings) → IsInside s → FitsTwice s 0
nothing-twice s l = record { fits = omega (arith, l) }

fits-outside : (s : Surroundings) (n : ℕ) → Fits (deeper s) n → Fits s (suc n)
fits-outside s n h = record { fits = omega (arith, h.fits) }

twice-outside : (s : Surroundings) (n m : ℕ) → m ≤ suc n → FitsTwice (deeper s) n → FitsTwice s (suc m)
twice-outside s n m l h = record { fits = omega (arith, l, h.fits) }

twice-less : (s : Surroundings) (n m : ℕ) → m ≤ n → FitsTwice s n → FitsTwice s m
twice-less s n m l h = record { fits = omega (arith, l, h.fits) }

fits-twice : (s : Surroundings) (n : ℕ) → Fits s n → IsInside s → FitsTwice s n
fits-twice s n h l = record { fits = omega (arith, h.fits, l) }

-- ---- terms: a bracket is a level

mutual
  term-fits :
      (s : Surroundings) (t : TermPhrase) (rest : List (Option Refusal)) → IsInside s
      → AreFaultless (term_causes s t rest) → Fits s (term_levels (term_meant t)) × AreFaultless rest
  term-fits s (variable_word x) rest l h = (nothing-fits s l, h.1)
  term-fits s (word_with w ts) rest l h = arguments-fit s ts rest l h.1

  arguments-fit :
      (s : Surroundings) (ts : TermPhrases) (rest : List (Option Refusal)) → IsInside s
      → AreFaultless (arguments_causes s ts rest) → Fits s (arguments_levels (terms_meant ts)) × AreFaultless rest
  arguments-fit s no_phrases rest l h = (nothing-fits s l, h)
  arguments-fit s (phrase_then t ts) rest l h =
      let below = begun-below s h.0 in
      let first = term-fits (deeper s) t (more_arguments_causes (deeper s) ts rest) below h.1 in
      let more = more-fit (deeper s) ts rest below first.1 in
      let n : ℕ = term_levels (term_meant t) in
      let m : ℕ = terms_levels (terms_meant ts) in
      (fits-outside s (max n m) (both-fit (deeper s) n m first.0 more.0), more.1)

  more-fit :
      (s : Surroundings) (ts : TermPhrases) (rest : List (Option Refusal)) → IsInside s
      → AreFaultless (more_arguments_causes s ts rest) → Fits s (terms_levels (terms_meant ts)) × AreFaultless rest
  more-fit s no_phrases rest l h = (nothing-fits s l, h.1)
  more-fit s (phrase_then t ts) rest l h =
      let first = term-fits s t (more_arguments_causes s ts rest) l h.1 in
      let more = more-fit s ts rest l first.1 in
      (both-fit s (term_levels (term_meant t)) (terms_levels (terms_meant ts)) first.0 more.0, more.1)

-- ---- parentheses

-- with those that an operand of a connective has
abbrev unit_levels : FormulaTree → ℕ
unit_levels f = with_parentheses (is_joined f) (formula_levels f)

-- with those that a negated formula has
abbrev negated_levels : FormulaTree → ℕ
negated_levels f = with_parentheses (not (is_bare f)) (formula_levels f)

negated-one : (f : FormulaTree) → negated_levels f ≤ suc (unit_levels f)
negated-one f =
    omega (arith, parentheses-one (not (is_bare f)) (formula_levels f), parentheses-some (is_joined f) (formula_levels f))

-- ---- formulas: what is printed in parentheses was written in brackets, or stands after `~`

atom-fits :
    (s : Surroundings) (a : Atom) (rest : List (Option Refusal)) → IsInside s
    → AreFaultless (atom_causes s a rest) → FitsTwice s (unit_levels (atom_meant a)) × AreFaultless rest
atom-fits s true_atom rest l h = (nothing-twice s l, h.1)
atom-fits s false_atom rest l h = (nothing-twice s l, h.1)
atom-fits s (predicate_atom w ts) rest l h =
    let inside = arguments-fit s ts rest l h.1 in (fits-twice s (arguments_levels (terms_meant ts)) inside.0 l, inside.1)
atom-fits s (equation_atom positive t u) rest l h =
    let left = term-fits s t (None ∷ term_causes s u rest) l h in
    let right = term-fits s u rest l left.1.1 in
    let n : ℕ = term_levels (term_meant t) in
    let m : ℕ = term_levels (term_meant u) in
    (fits-twice s (max n m) (both-fit s n m left.0 right.0) l, right.1)

variables-faultless : (xs : List (List ℕ)) (rest : List (Option Refusal)) → AreFaultless (more_variables_causes xs rest) → AreFaultless rest
variables-faultless [] rest h = h
variables-faultless (x ∷ xs) rest h = variables-faultless xs rest h.1.1

negated-fits : (s : Surroundings) (f : FormulaTree) → FitsTwice (deeper s) (unit_levels f) → FitsTwice s (suc (negated_levels f))
negated-fits s f h = twice-outside s (unit_levels f) (negated_levels f) (negated-one f) h

joined-fit :
    (s : Surroundings) (f g : FormulaTree) → FitsTwice s (unit_levels f) → FitsTwice s (unit_levels g)
    → FitsTwice s (max (unit_levels f) (unit_levels g))
joined-fit s f g h k = both-twice s (unit_levels f) (unit_levels g) h k

operands-fit :
    (s : Surroundings) (f g : FormulaTree) (fs : FormulaTrees) → FitsTwice s (unit_levels f) → FitsTwice s (unit_levels g)
    → FitsTwice s (operands_levels fs) → FitsTwice s (operands_levels (formula_then f (formula_then g fs)))
operands-fit s f g fs h k more =
    both-twice s (unit_levels f) (max (unit_levels g) (operands_levels fs)) h (both-twice s (unit_levels g) (operands_levels fs) k more)

mutual
  unit-fits :
      (s : Surroundings) (u : UnitPhrase) (rest : List (Option Refusal)) → IsInside s
      → AreFaultless (unit_causes s u rest) → FitsTwice s (unit_levels (unit_meant u)) × AreFaultless rest
  unit-fits s (negated u) rest l h =
      let inside = unit-fits (deeper s) u rest (begun-below s h.0) h.1 in (negated-fits s (unit_meant u) inside.0, inside.1)
  unit-fits s (bound q xs u) rest l h =
      let below : Surroundings = binding (xs.first ∷ xs.others) (deeper s) in
      let behind = variables-faultless xs.others (None ∷ None ∷ unit_causes below u rest) h.1.1.1 in
      let body = unit-fits below u rest (begun-below s h.0) behind.1.1 in
      let n : ℕ = unit_levels (unit_meant u) in
      let inside : FitsTwice (deeper s) (max 1 n) =
      both-twice (deeper s) 1 n (record { fits = omega (arith, begun-below (deeper s) h.1.0) }) (record { fits = body.0.fits }) in
      (twice-outside s (max 1 n) (max 1 n) (omega arith) inside, body.1)
  unit-fits s (in_brackets p) rest l h =
      let inside = phrase-fits (deeper s) p (None ∷ rest) (begun-below s h.0) h.1 in
      let n : ℕ = formula_levels (meant p) in (
        twice-less s (suc n) (unit_levels (meant p)) (parentheses-one (is_joined (meant p)) n)
            (twice-outside s n n (omega arith) inside.0),
        inside.1.1,
      )
  unit-fits s (atomic a) rest l h = atom-fits s a rest l h

  units-fit :
      (s : Surroundings) (us : UnitPhrases) (rest : List (Option Refusal)) → IsInside s
      → AreFaultless (units_causes s us rest) → FitsTwice s (operands_levels (units_meant us)) × AreFaultless rest
  units-fit s no_units rest l h = (nothing-twice s l, h)
  units-fit s (unit_then u us) rest l h =
      let first = unit-fits s u (units_causes s us rest) l h.1 in
      let more = units-fit s us rest l first.1 in
      (both-twice s (unit_levels (unit_meant u)) (operands_levels (units_meant us)) first.0 more.0, more.1)

  phrase-fits :
      (s : Surroundings) (p : Phrase) (rest : List (Option Refusal)) → IsInside s
      → AreFaultless (phrase_causes s p rest) → FitsTwice s (formula_levels (meant p)) × AreFaultless rest
  phrase-fits s (alone u) rest l h =
      let f : FormulaTree = unit_meant u in
      let unit = unit-fits s u rest l h in
      (twice-less s (unit_levels f) (formula_levels f) (parentheses-some (is_joined f) (formula_levels f)) unit.0, unit.1)
  phrase-fits s (all_of u v us) rest l h =
      let first = unit-fits s u (None ∷ unit_causes s v (units_causes s us rest)) l h in
      let second = unit-fits s v (units_causes s us rest) l first.1.1 in
      let more = units-fit s us rest l second.1 in
      (operands-fit s (unit_meant u) (unit_meant v) (units_meant us) first.0 second.0 more.0, more.1)
  phrase-fits s (some_of u v us) rest l h =
      let first = unit-fits s u (None ∷ unit_causes s v (units_causes s us rest)) l h in
      let second = unit-fits s v (units_causes s us rest) l first.1.1 in
      let more = units-fit s us rest l second.1 in
      (operands-fit s (unit_meant u) (unit_meant v) (units_meant us) first.0 second.0 more.0, more.1)
  phrase-fits s (joined_by c u v) rest l h =
      let first = unit-fits s u (None ∷ unit_causes s v rest) l h in
      let second = unit-fits s v rest l first.1.1 in
      (joined-fit s (unit_meant u) (unit_meant v) first.0 second.0, second.1)

-- ---- clauses

literal-fits :
    (s : Surroundings) (p : LiteralPhrase) (rest : List (Option Refusal)) → IsInside s
    → AreFaultless (literal_causes s p rest) → FitsTwice s (unit_levels (literal_meant p)) × AreFaultless rest
literal-fits s (positive_literal a) rest l h = atom-fits s a rest l h
literal-fits s (negated_literal a) rest l h =
    let inside = atom-fits (deeper s) (atom_of a) rest (begun-below s h.0) h.1 in (negated-fits s (atom_meant (atom_of a)) inside.0, inside.1)
literal-fits s (negated_in_brackets a) rest l h =
    let inside = atom-fits (deeper (deeper s)) (atom_of a) (None ∷ rest) (begun-below (deeper s) h.1.0) h.1.1 in
    let f : FormulaTree = atom_meant (atom_of a) in
    let around : FitsTwice (deeper s) (unit_levels f) =
    twice-less (deeper s) (suc (unit_levels f)) (unit_levels f) (omega arith)
    (twice-outside (deeper s) (unit_levels f) (unit_levels f) (omega arith) inside.0) in
    (negated-fits s f around, inside.1.1)

literals-fit :
    (s : Surroundings) (ps : List LiteralPhrase) (rest : List (Option Refusal)) → IsInside s
    → AreFaultless (more_literals_causes s ps rest) → FitsTwice s (operands_levels (literals_meant ps)) × AreFaultless rest
literals-fit s [] rest l h = (nothing-twice s l, h)
literals-fit s (p ∷ ps) rest l h =
    let first = literal-fits s p (more_literals_causes s ps rest) l h.1 in
    let more = literals-fit s ps rest l first.1 in
    (both-twice s (unit_levels (literal_meant p)) (operands_levels (literals_meant ps)) first.0 more.0, more.1)

clause-fits :
    (s : Surroundings) (c : ClausePhrase) (rest : List (Option Refusal)) → IsInside s
    → AreFaultless (clause_causes s c rest) → FitsTwice s (formula_levels (clause_meant c)) × AreFaultless rest
clause-fits s (literals p []) rest l h =
    let f : FormulaTree = literal_meant p in
    let literal = literal-fits s p rest l h in
    (twice-less s (unit_levels f) (formula_levels f) (parentheses-some (is_joined f) (formula_levels f)) literal.0, literal.1)
clause-fits s (literals p (r ∷ ps)) rest l h =
    let first = literal-fits s p (more_literals_causes s (r ∷ ps) rest) l h in
    let more = literals-fit s (r ∷ ps) rest l first.1 in
    (both-twice s (unit_levels (literal_meant p)) (operands_levels (literals_meant (r ∷ ps))) first.0 more.0, more.1)
clause-fits s (clause_in_brackets c) rest l h =
    let inside = clause-fits (deeper s) c (None ∷ rest) (begun-below s h.0) h.1 in
    let n : ℕ = formula_levels (clause_meant c) in
    (twice-less s (suc n) n (omega arith) (twice-outside s n n (omega arith) inside.0), inside.1.1)

-- ---- bodies

pub body-levels :
    (limit : ℕ) (b : Body) (rest : List (Option Refusal)) → AreFaultless (body_causes limit b rest) → formula_levels (body_meant b) ≤ 2 * limit
body-levels limit (formula_body p) rest h =
    let f = phrase-fits (outermost limit false) p rest (omega arith) h in omega (arith, f.0.fits)
body-levels limit (clause_body c) rest h =
    let f = clause-fits (outermost limit true) c rest (omega arith) h in omega (arith, f.0.fits)
