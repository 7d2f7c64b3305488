-- The formulas of a problem have few levels.
use Rattle.std.proofs.Common.{◌≡◌, ◌≤◌, ℕ, zero, suc, List, [], ◌∷◌, Option, refl, ap, sym, arith}
use Rattle.std.proofs.Math.Nat.{le-max_left}
use Rattle.std.specs.List.{AllByRecursion}
use Rattle.outside.specs.Library.{Holdings}
use Rattle.tptp_tree.specs.declared.limits.TheConstants.{MOST_NESTING, MOST_PRINTED_NESTING}
use Rattle.tptp_tree.specs.Formula.{FormulaTree, truth, falsity, predicate, equation, negation, conjunction, disjunction, connected, quantified}
use Rattle.tptp_tree.specs.Spelling.{Atom, true_atom, false_atom, predicate_atom, equation_atom, atom_meant, UnitPhrase, negated, bound, in_brackets, atomic, unit_meant, Phrase, alone, all_of, some_of, joined_by, meant}
use Rattle.tptp_tree.specs.Entries.{atom_of, LiteralPhrase, positive_literal, negated_literal, negated_in_brackets, literal_meant, ClausePhrase, literals, clause_in_brackets, clause_meant, Body, formula_body, clause_body, body_meant}
use Rattle.tptp_tree.specs.Levels.{unit_levels, phrase_levels, literal_levels, clause_levels, body_levels, IsWrittenWithin}
use Rattle.tptp_tree.proofs.AboutLevels.LimitLemmas.{faultless-within}
use Rattle.tptp_tree.proofs.AboutLevels.PrintedLevels.{written-doubles}
use Rattle.tptp_reader.specs.Annotating.{IsReading}
use Rattle.tptp_tree.specs.Shape.{entry_of}
use Rattle.tptp_reader.specs.declared.entry.Read.{Read}
use Rattle.tptp_reader.proofs.AboutTexts.PrintedLemmas.{reading-again}
use Rattle.tptp_problem.specs.Formulas.{Placed}
use Rattle.tptp_problem.specs.Levels.{HasFewLevels, negated_times, TooManyLevels, TooManyPrinted, PrintedWithin}
use Rattle.tptp_problem.specs.Problem.{LoadedFile, tokens_of, IsProblem}
use Rattle.tptp_problem.proofs.AboutReading.ConjectureLemmas.{all-hold}

reading-levels :
    (file : LoadedFile) (first : ℕ) (read : Read) → IsReading MOST_NESTING file.bytes (tokens_of file) first read
    → HasFewLevels (entry_of read.annotated).formula
reading-levels file first read h =
    let written : IsWrittenWithin MOST_NESTING (entry_of read.annotated).formula =
    (h.phrase.body, sym h.meant.formula, faultless-within MOST_NESTING h.phrase h.spelled.faultless) in
    record { written = written; printed = written-doubles MOST_NESTING _ written (reading-again MOST_NESTING file.bytes first read h).formula }

pub problem-levels :
    (told : Option Holdings) (file : List ℕ) (root : Option (List ℕ)) (fs : List Placed) → IsProblem told file root fs
    → AllByRecursion (λ (f : Placed). HasFewLevels f.tree.formula) fs
problem-levels told file root fs h =
    all-hold (λ (f : Placed). HasFewLevels f.tree.formula) told file root fs (record { by = λ file first read r. reading-levels file first read r }) h

-- ---- what is written has a level for each `~` at its head

abbrev negations : FormulaTree → ℕ
negations truth = 0
negations falsity = 0
negations (predicate p ts) = 0
negations (equation positive s t) = 0
negations (negation f) = suc (negations f)
negations (conjunction fs) = 0
negations (disjunction fs) = 0
negations (connected c f g) = 0
negations (quantified q xs f) = 0

negations-times : (n : ℕ) → negations (negated_times n) ≡ n
negations-times zero = refl
negations-times (suc n) = ap suc (negations-times n)

atom-negations : (a : Atom) → negations (atom_meant a) ≡ 0
atom-negations true_atom = refl
atom-negations false_atom = refl
atom-negations (predicate_atom w ts) = refl
atom-negations (equation_atom positive s t) = refl

mutual
  unit-negations : (u : UnitPhrase) → negations (unit_meant u) ≤ unit_levels u
  unit-negations (negated u) = let more = unit-negations u in omega (arith, more)
  unit-negations (bound q xs u) = omega arith
  unit-negations (in_brackets p) = let more = phrase-negations p in omega (arith, more)
  unit-negations (atomic a) = omega (arith, atom-negations a)

  phrase-negations : (p : Phrase) → negations (meant p) ≤ phrase_levels p
  phrase-negations (alone u) = unit-negations u
  phrase-negations (all_of u v us) = omega arith
  phrase-negations (some_of u v us) = omega arith
  phrase-negations (joined_by c u v) = omega arith

literal-negations : (l : LiteralPhrase) → negations (literal_meant l) ≤ literal_levels l
literal-negations (positive_literal a) = omega (arith, atom-negations a)
literal-negations (negated_literal a) = omega (arith, atom-negations (atom_of a))
literal-negations (negated_in_brackets a) = omega (arith, atom-negations (atom_of a))

clause-negations : (c : ClausePhrase) → negations (clause_meant c) ≤ clause_levels c
clause-negations (literals l []) = let more = literal-negations l in omega (arith, more, le-max_left (literal_levels l) 0)
clause-negations (literals l (m ∷ ls)) = omega arith
clause-negations (clause_in_brackets c) = let more = clause-negations c in omega (arith, more)

body-negations : (b : Body) → negations (body_meant b) ≤ body_levels b
body-negations (formula_body p) = phrase-negations p
body-negations (clause_body c) = clause-negations c

written-negations : (levels n : ℕ) → IsWrittenWithin levels (negated_times n) → n ≤ levels
written-negations levels n h = omega (arith, negations-times n, ap negations h.1, body-negations h.0, h.2)

pub too-many-levels : TooManyLevels
too-many-levels h =
    let over : suc MOST_NESTING ≤ MOST_NESTING = written-negations MOST_NESTING (suc MOST_NESTING) h.written in omega (arith, over)

pub printed-within : PrintedWithin
printed-within f h = h.printed

pub too-many-printed : TooManyPrinted
too-many-printed text h =
    let over : 1001 ≤ MOST_PRINTED_NESTING = omega (arith, negations-times 1001, ap negations h.2, phrase-negations h.0, h.3) in omega (arith, over)
