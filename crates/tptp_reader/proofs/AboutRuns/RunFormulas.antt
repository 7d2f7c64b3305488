-- The machine runs over the tokens of formulas and clauses.
use Rattle.std.proofs.Common.{◌≡◌, ℕ, true, false, Option, None, List, [], ◌∷◌, ◌++◌, codes, refl, ap, sym, ◌∙◌, append_assoc, append-nil}
use Rattle.tptp_token.specs.Lexemes.{Lexeme, lexeme, is_connective}
use Rattle.tptp_token.specs.declared.token.Kind.TheVariants.{Connective, Mark}
use Rattle.tptp_tree.specs.Formula.{BinaryConnective, implies, implied, equivalent, different, nor, nand, for_all, exists_some}
use Rattle.tptp_token.specs.Words.{bare, quoted}
use Rattle.tptp_tree.specs.Spelling.{variable_word, word_with, Atom, true_atom, false_atom, predicate_atom, equation_atom, atom_lexemes, Variables, UnitPhrase, negated, bound, in_brackets, atomic, UnitPhrases, no_units, unit_then, Phrase, alone, all_of, some_of, joined_by, connective_lexeme, more_variables_lexemes, variables_lexemes, unit_lexemes, units_lexemes, phrase_lexemes}
use Rattle.tptp_tree.specs.Entries.{PlainAtom, plain_true, plain_false, plain_predicate, plain_equation, atom_of, LiteralPhrase, positive_literal, negated_literal, negated_in_brackets, ClausePhrase, literals, clause_in_brackets, literal_lexemes, more_literals_lexemes, clause_lexemes}
use Rattle.tptp_tree.specs.Causes.{Refusal, Surroundings, deeper, binding, begun, more_variables_causes, unit_causes, units_causes, phrase_causes, literal_causes, more_literals_causes, clause_causes}
use Rattle.tptp_reader.specs.Machine.{Symbol, mark, an_atom, a_unit, maybe_connected, maybe_more_units, variables_bracket, more_variables, a_clause, a_literal, a_plain_literal, maybe_more_literals}
use Rattle.tptp_reader.proofs.AboutRuns.TraceLemmas.{Trace, marked, trace, marks}
use Rattle.tptp_reader.proofs.AboutRuns.FollowLemmas.{Follows, EndsAtom, EndsFormula, EndsClause, weaker, under, skipped, formula-atom, clause-atom, connected-pass, units-pass, literals-pass}
use Rattle.tptp_reader.proofs.AboutRuns.RunTerms.{MayBeAtom, atom-runs}

-- an atom that stands as a unit
atom-unit : (s : Surroundings) (a : Atom) (rest : List Lexeme) (below : List Symbol) → trace (atom_lexemes a rest) (a_unit s ∷ below) ≡ trace (atom_lexemes a rest) (an_atom true s ∷ below)
atom-unit s true_atom rest below = refl
atom-unit s false_atom rest below = refl
atom-unit s (predicate_atom (bare w) ts) rest below = refl
atom-unit s (predicate_atom (quoted w) ts) rest below = refl
atom-unit s (equation_atom positive (variable_word x) t) rest below = refl
atom-unit s (equation_atom positive (word_with (bare w) ts) t) rest below = refl
atom-unit s (equation_atom positive (word_with (quoted w) ts) t) rest below = refl

any-sign : (a : Atom) → MayBeAtom true a
any-sign true_atom = tt
any-sign false_atom = tt
any-sign (predicate_atom w ts) = tt
any-sign (equation_atom positive l r) = tt

-- ---- variables

-- behind a variable, where these were read before
more_variables-run :
    (s : Surroundings) (before xs : List (List ℕ)) (rest : List Lexeme) (below : List Symbol) (cs : List (Option Refusal)) (r : Trace)
    → trace rest (a_unit (binding (before ++ xs) s) ∷ below) ≡ marks cs r
    → trace (more_variables_lexemes xs (lexeme Mark (codes "]") ∷ lexeme Mark (codes ":") ∷ rest)) (more_variables before s ∷ below)
    ≡ marks (more_variables_causes xs (None ∷ None ∷ cs)) r
more_variables-run s before [] rest below cs r e =
    ap (λ u. marked None (marked None u)) (ap (λ ys. trace rest (a_unit (binding ys s) ∷ below)) (sym (append-nil before)) ∙ e)
more_variables-run s before (x ∷ xs) rest below cs r e =
    ap (λ u. marked None (marked None u))
    (more_variables-run s (before ++ x ∷ []) xs rest below cs r
    (ap (λ ys. trace rest (a_unit (binding ys s) ∷ below)) (append_assoc before (x ∷ []) xs) ∙ e))

-- from the quantifier's bracket on
variables-run :
    (s : Surroundings) (xs : Variables) (rest : List Lexeme) (below : List Symbol) (cs : List (Option Refusal)) (r : Trace)
    → trace rest (a_unit (binding (xs.first ∷ xs.others) s) ∷ below) ≡ marks cs r
    → trace (lexeme Mark (codes "[") ∷ variables_lexemes xs (lexeme Mark (codes "]") ∷ lexeme Mark (codes ":") ∷ rest)) (variables_bracket s ∷ below)
    ≡ marks (begun s ∷ None ∷ more_variables_causes xs.others (None ∷ None ∷ cs)) r
variables-run s xs rest below cs r e =
    ap (λ u. marked (begun s) (marked None u)) (more_variables-run s (xs.first ∷ []) xs.others rest below cs r e)

-- ---- operands

-- `&` or `|`
record IsJoint (sign : List ℕ) : Type 0 where
  ends : EndsAtom (lexeme Connective sign)
  no_sign : (t : Lexeme) → EndsFormula t → is_connective sign t ≡ false
  steps :
      (s : Surroundings) (ts : List Lexeme) (below : List Symbol)
      → trace (lexeme Connective sign ∷ ts) (maybe_more_units sign s ∷ below) ≡ marked None (trace ts (a_unit s ∷ maybe_more_units sign s ∷ below))

ands : IsJoint (codes "&")
ands = record { ends = record { flat = refl; alone_here = refl }; no_sign = λ t h. h.no_and; steps = λ s ts below. refl }

ors : IsJoint (codes "|")
ors = record { ends = record { flat = refl; alone_here = refl }; no_sign = λ t h. h.no_or; steps = λ s ts below. refl }

units-follow :
    (sign : List ℕ) (s : Surroundings) (us : UnitPhrases) (rest : List Lexeme) (below : List Symbol)
    → IsJoint sign → Follows EndsFormula rest below
    → Follows EndsAtom (units_lexemes (lexeme Connective sign) us rest) (maybe_more_units sign s ∷ below)
units-follow sign s no_units rest below j f = under EndsAtom rest (maybe_more_units sign s) below (weaker EndsFormula EndsAtom rest below formula-atom f)
units-follow sign s (unit_then u us) rest below j f = j.ends

connective-follows :
    (c : BinaryConnective) (ts : List Lexeme) (a : Symbol) (below : List Symbol) → Follows EndsAtom (connective_lexeme c ∷ ts) (a ∷ below)
connective-follows implies ts a below = record { flat = refl; alone_here = refl }
connective-follows implied ts a below = record { flat = refl; alone_here = refl }
connective-follows equivalent ts a below = record { flat = refl; alone_here = refl }
connective-follows different ts a below = record { flat = refl; alone_here = refl }
connective-follows nor ts a below = record { flat = refl; alone_here = refl }
connective-follows nand ts a below = record { flat = refl; alone_here = refl }

connective-step :
    (c : BinaryConnective) (s : Surroundings) (ts : List Lexeme) (below : List Symbol)
    → trace (connective_lexeme c ∷ ts) (maybe_connected s ∷ below) ≡ marked None (trace ts (a_unit s ∷ below))
connective-step implies s ts below = refl
connective-step implied s ts below = refl
connective-step equivalent s ts below = refl
connective-step different s ts below = refl
connective-step nor s ts below = refl
connective-step nand s ts below = refl

mutual
  unit-runs :
      (s : Surroundings) (u : UnitPhrase) (rest : List Lexeme) (below : List Symbol) (cs : List (Option Refusal)) (r : Trace)
      → Follows EndsAtom rest below → trace rest below ≡ marks cs r
      → trace (unit_lexemes u rest) (a_unit s ∷ below) ≡ marks (unit_causes s u cs) r
  unit-runs s (negated u) rest below cs r f e = ap (marked (begun s)) (unit-runs (deeper s) u rest below cs r f e)
  unit-runs s (bound for_all xs u) rest below cs r f e =
      let inside = binding (xs.first ∷ xs.others) (deeper s) in
      ap (marked (begun s)) (variables-run (deeper s) xs (unit_lexemes u rest) below (unit_causes inside u cs) r (unit-runs inside u rest below cs r f e))
  unit-runs s (bound exists_some xs u) rest below cs r f e =
      let inside = binding (xs.first ∷ xs.others) (deeper s) in
      ap (marked (begun s)) (variables-run (deeper s) xs (unit_lexemes u rest) below (unit_causes inside u cs) r (unit-runs inside u rest below cs r f e))
  unit-runs s (in_brackets p) rest below cs r f e =
      ap (marked (begun s))
      (phrase-runs (deeper s) p (lexeme Mark (codes ")") ∷ rest) (mark (codes ")") ∷ below) (None ∷ cs) r
      (record { atom = record { flat = refl; alone_here = refl }; no_and = refl; no_or = refl; no_binary = refl }) (ap (marked None) e))
  unit-runs s (atomic a) rest below cs r f e = atom-unit s a rest below ∙ atom-runs true s a rest below cs r (any-sign a) f e

  units-run :
      (sign : List ℕ) (s : Surroundings) (us : UnitPhrases) (rest : List Lexeme) (below : List Symbol) (cs : List (Option Refusal)) (r : Trace)
      → IsJoint sign → Follows EndsFormula rest below → trace rest below ≡ marks cs r
      → trace (units_lexemes (lexeme Connective sign) us rest) (maybe_more_units sign s ∷ below) ≡ marks (units_causes s us cs) r
  units-run sign s no_units rest below cs r j f e =
      skipped (maybe_more_units sign s) EndsFormula rest below (λ t h. units-pass sign s t (j.no_sign t h)) f ∙ e
  units-run sign s (unit_then u us) rest below cs r j f e =
      j.steps s (unit_lexemes u (units_lexemes (lexeme Connective sign) us rest)) below
      ∙ ap (marked None)
      (unit-runs s u (units_lexemes (lexeme Connective sign) us rest) (maybe_more_units sign s ∷ below) (units_causes s us cs) r
      (units-follow sign s us rest below j f) (units-run sign s us rest below cs r j f e))

  pub phrase-runs :
      (s : Surroundings) (p : Phrase) (rest : List Lexeme) (below : List Symbol) (cs : List (Option Refusal)) (r : Trace)
      → Follows EndsFormula rest below → trace rest below ≡ marks cs r
      → trace (phrase_lexemes p rest) (a_unit s ∷ maybe_connected s ∷ below) ≡ marks (phrase_causes s p cs) r
  phrase-runs s (alone u) rest below cs r f e =
      unit-runs s u rest (maybe_connected s ∷ below) cs r
      (under EndsAtom rest (maybe_connected s) below (weaker EndsFormula EndsAtom rest below formula-atom f))
      (skipped (maybe_connected s) EndsFormula rest below (connected-pass s) f ∙ e)
  phrase-runs s (all_of u v us) rest below cs r f e =
      let behind = units_lexemes (lexeme Connective (codes "&")) us rest in
      unit-runs s u (lexeme Connective (codes "&") ∷ unit_lexemes v behind) (maybe_connected s ∷ below) (None ∷ unit_causes s v (units_causes s us cs)) r ands.ends
      (ap (marked None)
      (unit-runs s v behind (maybe_more_units (codes "&") s ∷ below) (units_causes s us cs) r (units-follow (codes "&") s us rest below ands f)
      (units-run (codes "&") s us rest below cs r ands f e)))
  phrase-runs s (some_of u v us) rest below cs r f e =
      let behind = units_lexemes (lexeme Connective (codes "|")) us rest in
      unit-runs s u (lexeme Connective (codes "|") ∷ unit_lexemes v behind) (maybe_connected s ∷ below) (None ∷ unit_causes s v (units_causes s us cs)) r ors.ends
      (ap (marked None)
      (unit-runs s v behind (maybe_more_units (codes "|") s ∷ below) (units_causes s us cs) r (units-follow (codes "|") s us rest below ors f)
      (units-run (codes "|") s us rest below cs r ors f e)))
  phrase-runs s (joined_by c u v) rest below cs r f e =
      unit-runs s u (connective_lexeme c ∷ unit_lexemes v rest) (maybe_connected s ∷ below) (None ∷ unit_causes s v cs) r
      (connective-follows c (unit_lexemes v rest) (maybe_connected s) below)
      (connective-step c s (unit_lexemes v rest) below
      ∙ ap (marked None) (unit-runs s v rest below cs r (weaker EndsFormula EndsAtom rest below formula-atom f) e))

-- ---- clauses

plain-sign : (a : PlainAtom) → MayBeAtom false (atom_of a)
plain-sign plain_true = tt
plain-sign plain_false = tt
plain-sign (plain_predicate w ts) = tt
plain-sign (plain_equation l r) = tt

atom-literal : (s : Surroundings) (a : Atom) (rest : List Lexeme) (below : List Symbol) → trace (atom_lexemes a rest) (a_literal s ∷ below) ≡ trace (atom_lexemes a rest) (an_atom true s ∷ below)
atom-literal s true_atom rest below = refl
atom-literal s false_atom rest below = refl
atom-literal s (predicate_atom (bare w) ts) rest below = refl
atom-literal s (predicate_atom (quoted w) ts) rest below = refl
atom-literal s (equation_atom positive (variable_word x) t) rest below = refl
atom-literal s (equation_atom positive (word_with (bare w) ts) t) rest below = refl
atom-literal s (equation_atom positive (word_with (quoted w) ts) t) rest below = refl

plain-atom : (s : Surroundings) (a : Atom) (rest : List Lexeme) (below : List Symbol) → trace (atom_lexemes a rest) (a_plain_literal s ∷ below) ≡ trace (atom_lexemes a rest) (an_atom false s ∷ below)
plain-atom s true_atom rest below = refl
plain-atom s false_atom rest below = refl
plain-atom s (predicate_atom (bare w) ts) rest below = refl
plain-atom s (predicate_atom (quoted w) ts) rest below = refl
plain-atom s (equation_atom positive (variable_word x) t) rest below = refl
plain-atom s (equation_atom positive (word_with (bare w) ts) t) rest below = refl
plain-atom s (equation_atom positive (word_with (quoted w) ts) t) rest below = refl

literal-runs :
    (s : Surroundings) (l : LiteralPhrase) (rest : List Lexeme) (below : List Symbol) (cs : List (Option Refusal)) (r : Trace)
    → Follows EndsAtom rest below → trace rest below ≡ marks cs r
    → trace (literal_lexemes l rest) (a_literal s ∷ below) ≡ marks (literal_causes s l cs) r
literal-runs s (positive_literal a) rest below cs r f e = atom-literal s a rest below ∙ atom-runs true s a rest below cs r (any-sign a) f e
literal-runs s (negated_literal a) rest below cs r f e =
    ap (marked (begun s)) (plain-atom (deeper s) (atom_of a) rest below ∙ atom-runs false (deeper s) (atom_of a) rest below cs r (plain-sign a) f e)
literal-runs s (negated_in_brackets a) rest below cs r f e =
    ap (λ u. marked (begun s) (marked (begun (deeper s)) u))
    (atom-runs false (deeper (deeper s)) (atom_of a) (lexeme Mark (codes ")") ∷ rest) (mark (codes ")") ∷ below) (None ∷ cs) r (plain-sign a)
    (record { flat = refl; alone_here = refl }) (ap (marked None) e))

literals-follow :
    (s : Surroundings) (ls : List LiteralPhrase) (rest : List Lexeme) (below : List Symbol) → Follows EndsClause rest below
    → Follows EndsAtom (more_literals_lexemes ls rest) (maybe_more_literals s ∷ below)
literals-follow s [] rest below f = under EndsAtom rest (maybe_more_literals s) below (weaker EndsClause EndsAtom rest below clause-atom f)
literals-follow s (l ∷ ls) rest below f = record { flat = refl; alone_here = refl }

more_literals-run :
    (s : Surroundings) (ls : List LiteralPhrase) (rest : List Lexeme) (below : List Symbol) (cs : List (Option Refusal)) (r : Trace)
    → Follows EndsClause rest below → trace rest below ≡ marks cs r
    → trace (more_literals_lexemes ls rest) (maybe_more_literals s ∷ below) ≡ marks (more_literals_causes s ls cs) r
more_literals-run s [] rest below cs r f e = skipped (maybe_more_literals s) EndsClause rest below (literals-pass s) f ∙ e
more_literals-run s (l ∷ ls) rest below cs r f e =
    ap (marked None)
    (literal-runs s l (more_literals_lexemes ls rest) (maybe_more_literals s ∷ below) (more_literals_causes s ls cs) r
    (literals-follow s ls rest below f) (more_literals-run s ls rest below cs r f e))

-- a clause without brackets begins with its first literal
first-literal :
    (s : Surroundings) (l : LiteralPhrase) (rest : List Lexeme) (below : List Symbol)
    → trace (literal_lexemes l rest) (a_clause s ∷ below) ≡ trace (literal_lexemes l rest) (a_literal s ∷ maybe_more_literals s ∷ below)
first-literal s (positive_literal true_atom) rest below = refl
first-literal s (positive_literal false_atom) rest below = refl
first-literal s (positive_literal (predicate_atom (bare w) ts)) rest below = refl
first-literal s (positive_literal (predicate_atom (quoted w) ts)) rest below = refl
first-literal s (positive_literal (equation_atom positive (variable_word x) t)) rest below = refl
first-literal s (positive_literal (equation_atom positive (word_with (bare w) ts) t)) rest below = refl
first-literal s (positive_literal (equation_atom positive (word_with (quoted w) ts) t)) rest below = refl
first-literal s (negated_literal a) rest below = refl
first-literal s (negated_in_brackets a) rest below = refl

pub clause-runs :
    (s : Surroundings) (c : ClausePhrase) (rest : List Lexeme) (below : List Symbol) (cs : List (Option Refusal)) (r : Trace)
    → Follows EndsClause rest below → trace rest below ≡ marks cs r
    → trace (clause_lexemes c rest) (a_clause s ∷ below) ≡ marks (clause_causes s c cs) r
clause-runs s (literals l ls) rest below cs r f e =
    first-literal s l (more_literals_lexemes ls rest) below
    ∙ literal-runs s l (more_literals_lexemes ls rest) (maybe_more_literals s ∷ below) (more_literals_causes s ls cs) r
    (literals-follow s ls rest below f) (more_literals-run s ls rest below cs r f e)
clause-runs s (clause_in_brackets c) rest below cs r f e =
    ap (marked (begun s))
    (clause-runs (deeper s) c (lexeme Mark (codes ")") ∷ rest) (mark (codes ")") ∷ below) (None ∷ cs) r
    (record { atom = record { flat = refl; alone_here = refl }; no_or = refl }) (ap (marked None) e))
