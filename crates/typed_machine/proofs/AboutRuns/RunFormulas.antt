-- The machine runs over the tokens of typed formulas and of declarations.
use Rattle.std.proofs.Common.{◌≡◌, ℕ, true, false, Option, None, Some, List, [], ◌∷◌, ◌++◌, codes, refl, ap, sym, ◌∙◌, append_assoc, append-nil}
use Rattle.tptp_token.specs.Lexemes.{Lexeme, lexeme, is_connective}
use Rattle.tptp_token.specs.declared.token.Kind.TheVariants.{Dollar, Connective, Mark, Other}
use Rattle.tptp_tree.specs.Formula.{BinaryConnective, implies, implied, equivalent, different, nor, nand, for_all, exists_some}
use Rattle.tptp_token.specs.Words.{bare, quoted}
use Rattle.tptp_tree.specs.Spelling.{variable_word, word_with, Atom, true_atom, false_atom, predicate_atom, equation_atom, atom_lexemes, connective_lexeme}
use Rattle.tptp_tree.specs.Causes.{Refusal, Surroundings, deeper, binding, begun}
use Rattle.tptp_reader.proofs.AboutRuns.FollowLemmas.{EndsAtom, EndsFormula, formula-atom}
use Rattle.tptp_reader.proofs.AboutRuns.RunTerms.{MayBeAtom}
use Rattle.typed_tree.specs.TypedSpelling.{SortPhrase, dollar_sort, word_sort, sort_lexeme, VariablePhrase, sort_part_lexemes, variable_lexemes, VariablePhrases, more_variables_lexemes, UnitPhrase, negated, bound, in_brackets, atomic, UnitPhrases, no_units, unit_then, Phrase, alone, all_of, some_of, joined_by, unit_lexemes, units_lexemes, phrase_lexemes, ArgumentsPhrase, one_argument, arguments_in_brackets, more_sorts_lexemes, arguments_lexemes, TypePhrase, kind_of_sorts, constant_of, proposition, function_from, predicate_from, type_lexemes, DeclarationPhrase, declares, declaration_in_brackets, declaration_lexemes}
use Rattle.typed_tree.specs.TypedCauses.{after_variable, variable_begun, sort_part_causes, more_variables_causes, names_of, after_variables, inside_quantifier, unit_causes, units_causes, phrase_causes, more_sorts_causes, arguments_causes, type_causes, declaration_causes}
use Rattle.typed_machine.specs.TypedMachine.{TypedSymbol, a_unit, maybe_connected, maybe_more_units, variables_bracket, more_variables, maybe_sort, a_sort_word, a_declaration, a_type, maybe_result, an_arrow, a_result, more_sorts}
use Rattle.typed_machine.proofs.AboutRuns.PlainSymbols.{mark, an_atom}
use Rattle.typed_machine.proofs.AboutRuns.Traces.{Trace, marked, trace, marks}
use Rattle.typed_machine.proofs.AboutRuns.Follows.{Follows, NoColon, NoArrow, weaker, under, skipped, connected-pass, units-pass, sort-pass, result-pass}
use Rattle.typed_machine.proofs.AboutRuns.RunTerms.{atom-runs}

-- an atom that stands as a unit
atom-unit : (s : Surroundings) (a : Atom) (rest : List Lexeme) (below : List TypedSymbol) → trace (atom_lexemes a rest) (a_unit s ∷ below) ≡ trace (atom_lexemes a rest) (an_atom true s ∷ below)
atom-unit s true_atom rest below = refl
atom-unit s false_atom rest below = refl
atom-unit s (predicate_atom (bare w) ts) rest below = refl
atom-unit s (predicate_atom (quoted w) ts) rest below = refl
atom-unit s (equation_atom positive (variable_word x) t) rest below = refl
atom-unit s (equation_atom positive (word_with (bare w) ts) t) rest below = refl
atom-unit s (equation_atom positive (word_with (quoted w) ts) t) rest below = refl

any-sign : (a : Atom) → MayBeAtom true a
any-sign true_atom = tt
any-sign false_atom = tt
any-sign (predicate_atom w ts) = tt
any-sign (equation_atom positive l r) = tt

-- ---- sorts and variables

sort-token :
    (s : SortPhrase) (ts : List Lexeme) (below : List TypedSymbol) → trace (sort_lexeme s ∷ ts) (a_sort_word ∷ below) ≡ marked None (trace ts below)
sort-token dollar_sort ts below = refl
sort-token (word_sort (bare w)) ts below = refl
sort-token (word_sort (quoted w)) ts below = refl

sort_part-run :
    (o : Option SortPhrase) (rest : List Lexeme) (below : List TypedSymbol) (cs : List (Option Refusal)) (r : Trace)
    → Follows NoColon rest below → trace rest below ≡ marks cs r
    → trace (sort_part_lexemes o rest) (maybe_sort ∷ below) ≡ marks (sort_part_causes o cs) r
sort_part-run None rest below cs r f e = skipped maybe_sort NoColon rest below sort-pass f ∙ e
sort_part-run (Some s) rest below cs r f e = ap (marked None) (sort-token s rest below ∙ ap (marked None) e)

variables-follow :
    (before : List (List ℕ)) (s : Surroundings) (xs : List VariablePhrase) (rest : List Lexeme) (below : List TypedSymbol)
    → Follows NoColon (more_variables_lexemes xs (lexeme Mark (codes "]") ∷ rest)) (more_variables before s ∷ below)
variables-follow before s [] rest below = refl
variables-follow before s (x ∷ xs) rest below = refl

-- behind a variable and its sort, where these were read before
more_variables-run :
    (s : Surroundings) (before : List (List ℕ)) (xs : List VariablePhrase) (rest : List Lexeme) (below : List TypedSymbol)
    (cs : List (Option Refusal)) (r : Trace)
    → trace rest (a_unit (binding (before ++ names_of xs) (after_variables s xs)) ∷ below) ≡ marks cs r
    → trace (more_variables_lexemes xs (lexeme Mark (codes "]") ∷ lexeme Mark (codes ":") ∷ rest)) (more_variables before s ∷ below)
    ≡ marks (more_variables_causes (deeper s) xs (None ∷ None ∷ cs)) r
more_variables-run s before [] rest below cs r e =
    ap (λ u. marked None (marked None u)) (ap (λ ys. trace rest (a_unit (binding ys s) ∷ below)) (sym (append-nil before)) ∙ e)
more_variables-run s before (x ∷ xs) rest below cs r e =
    let behind = lexeme Mark (codes ":") ∷ rest in
    ap (λ u. marked None (marked (variable_begun (deeper s)) u))
    (sort_part-run x.sort (more_variables_lexemes xs (lexeme Mark (codes "]") ∷ behind))
    (more_variables (before ++ x.name ∷ []) (after_variable s) ∷ below) (more_variables_causes (deeper (after_variable s)) xs (None ∷ None ∷ cs)) r
    (variables-follow (before ++ x.name ∷ []) (after_variable s) xs behind below)
    (more_variables-run (after_variable s) (before ++ x.name ∷ []) xs rest below cs r
    (ap (λ ys. trace rest (a_unit (binding ys (after_variables (after_variable s) xs)) ∷ below)) (append_assoc before (x.name ∷ []) (names_of xs)) ∙ e)))

-- from the quantifier's bracket on
variables-run :
    (s : Surroundings) (xs : VariablePhrases) (rest : List Lexeme) (below : List TypedSymbol) (cs : List (Option Refusal)) (r : Trace)
    → trace rest (a_unit (inside_quantifier s xs) ∷ below) ≡ marks cs r
    → trace
    (lexeme Mark (codes "[") ∷ variable_lexemes xs.first (more_variables_lexemes xs.others (lexeme Mark (codes "]") ∷ lexeme Mark (codes ":") ∷ rest)))
    (variables_bracket s ∷ below)
    ≡ marks
    (begun s ∷ variable_begun (deeper s)
    ∷ sort_part_causes xs.first.sort (more_variables_causes (after_variable (deeper s)) xs.others (None ∷ None ∷ cs)))
    r
variables-run s xs rest below cs r e =
    let behind = lexeme Mark (codes ":") ∷ rest in
    ap (λ u. marked (begun s) (marked (variable_begun (deeper s)) u))
    (sort_part-run xs.first.sort (more_variables_lexemes xs.others (lexeme Mark (codes "]") ∷ behind))
    (more_variables (xs.first.name ∷ []) (after_variable s) ∷ below)
    (more_variables_causes (after_variable (deeper s)) xs.others (None ∷ None ∷ cs)) r
    (variables-follow (xs.first.name ∷ []) (after_variable s) xs.others behind below)
    (more_variables-run (after_variable s) (xs.first.name ∷ []) xs.others rest below cs r e))

-- ---- operands

-- `&` or `|`
record IsJoint (sign : List ℕ) : Type 0 where
  ends : EndsAtom (lexeme Connective sign)
  no_sign : (t : Lexeme) → EndsFormula t → is_connective sign t ≡ false
  steps :
      (s : Surroundings) (ts : List Lexeme) (below : List TypedSymbol)
      → trace (lexeme Connective sign ∷ ts) (maybe_more_units sign s ∷ below) ≡ marked None (trace ts (a_unit s ∷ maybe_more_units sign s ∷ below))

ands : IsJoint (codes "&")
ands = record { ends = record { flat = refl; alone_here = refl }; no_sign = λ t h. h.no_and; steps = λ s ts below. refl }

ors : IsJoint (codes "|")
ors = record { ends = record { flat = refl; alone_here = refl }; no_sign = λ t h. h.no_or; steps = λ s ts below. refl }

units-follow :
    (sign : List ℕ) (s : Surroundings) (us : UnitPhrases) (rest : List Lexeme) (below : List TypedSymbol)
    → IsJoint sign → Follows EndsFormula rest below
    → Follows EndsAtom (units_lexemes (lexeme Connective sign) us rest) (maybe_more_units sign s ∷ below)
units-follow sign s no_units rest below j f = under EndsAtom rest (maybe_more_units sign s) below (weaker EndsFormula EndsAtom rest below formula-atom f)
units-follow sign s (unit_then u us) rest below j f = j.ends

connective-follows :
    (c : BinaryConnective) (ts : List Lexeme) (a : TypedSymbol) (below : List TypedSymbol) → Follows EndsAtom (connective_lexeme c ∷ ts) (a ∷ below)
connective-follows implies ts a below = record { flat = refl; alone_here = refl }
connective-follows implied ts a below = record { flat = refl; alone_here = refl }
connective-follows equivalent ts a below = record { flat = refl; alone_here = refl }
connective-follows different ts a below = record { flat = refl; alone_here = refl }
connective-follows nor ts a below = record { flat = refl; alone_here = refl }
connective-follows nand ts a below = record { flat = refl; alone_here = refl }

connective-step :
    (c : BinaryConnective) (s : Surroundings) (ts : List Lexeme) (below : List TypedSymbol)
    → trace (connective_lexeme c ∷ ts) (maybe_connected s ∷ below) ≡ marked None (trace ts (a_unit s ∷ below))
connective-step implies s ts below = refl
connective-step implied s ts below = refl
connective-step equivalent s ts below = refl
connective-step different s ts below = refl
connective-step nor s ts below = refl
connective-step nand s ts below = refl

mutual
  unit-runs :
      (s : Surroundings) (u : UnitPhrase) (rest : List Lexeme) (below : List TypedSymbol) (cs : List (Option Refusal)) (r : Trace)
      → Follows EndsAtom rest below → trace rest below ≡ marks cs r
      → trace (unit_lexemes u rest) (a_unit s ∷ below) ≡ marks (unit_causes s u cs) r
  unit-runs s (negated u) rest below cs r f e = ap (marked (begun s)) (unit-runs (deeper s) u rest below cs r f e)
  unit-runs s (bound for_all xs u) rest below cs r f e =
      let inside = inside_quantifier s xs in
      ap (marked None) (variables-run s xs (unit_lexemes u rest) below (unit_causes inside u cs) r (unit-runs inside u rest below cs r f e))
  unit-runs s (bound exists_some xs u) rest below cs r f e =
      let inside = inside_quantifier s xs in
      ap (marked None) (variables-run s xs (unit_lexemes u rest) below (unit_causes inside u cs) r (unit-runs inside u rest below cs r f e))
  unit-runs s (in_brackets p) rest below cs r f e =
      ap (marked (begun s))
      (phrase-runs (deeper s) p (lexeme Mark (codes ")") ∷ rest) (mark (codes ")") ∷ below) (None ∷ cs) r
      (record { atom = record { flat = refl; alone_here = refl }; no_and = refl; no_or = refl; no_binary = refl }) (ap (marked None) e))
  unit-runs s (atomic a) rest below cs r f e = atom-unit s a rest below ∙ atom-runs true s a rest below cs r (any-sign a) f e

  units-run :
      (sign : List ℕ) (s : Surroundings) (us : UnitPhrases) (rest : List Lexeme) (below : List TypedSymbol) (cs : List (Option Refusal)) (r : Trace)
      → IsJoint sign → Follows EndsFormula rest below → trace rest below ≡ marks cs r
      → trace (units_lexemes (lexeme Connective sign) us rest) (maybe_more_units sign s ∷ below) ≡ marks (units_causes s us cs) r
  units-run sign s no_units rest below cs r j f e =
      skipped (maybe_more_units sign s) EndsFormula rest below (λ t h. units-pass sign s t (j.no_sign t h)) f ∙ e
  units-run sign s (unit_then u us) rest below cs r j f e =
      j.steps s (unit_lexemes u (units_lexemes (lexeme Connective sign) us rest)) below
      ∙ ap (marked None)
      (unit-runs s u (units_lexemes (lexeme Connective sign) us rest) (maybe_more_units sign s ∷ below) (units_causes s us cs) r
      (units-follow sign s us rest below j f) (units-run sign s us rest below cs r j f e))

  pub phrase-runs :
      (s : Surroundings) (p : Phrase) (rest : List Lexeme) (below : List TypedSymbol) (cs : List (Option Refusal)) (r : Trace)
      → Follows EndsFormula rest below → trace rest below ≡ marks cs r
      → trace (phrase_lexemes p rest) (a_unit s ∷ maybe_connected s ∷ below) ≡ marks (phrase_causes s p cs) r
  phrase-runs s (alone u) rest below cs r f e =
      unit-runs s u rest (maybe_connected s ∷ below) cs r
      (under EndsAtom rest (maybe_connected s) below (weaker EndsFormula EndsAtom rest below formula-atom f))
      (skipped (maybe_connected s) EndsFormula rest below (connected-pass s) f ∙ e)
  phrase-runs s (all_of u v us) rest below cs r f e =
      let behind = units_lexemes (lexeme Connective (codes "&")) us rest in
      unit-runs s u (lexeme Connective (codes "&") ∷ unit_lexemes v behind) (maybe_connected s ∷ below) (None ∷ unit_causes s v (units_causes s us cs)) r ands.ends
      (ap (marked None)
      (unit-runs s v behind (maybe_more_units (codes "&") s ∷ below) (units_causes s us cs) r (units-follow (codes "&") s us rest below ands f)
      (units-run (codes "&") s us rest below cs r ands f e)))
  phrase-runs s (some_of u v us) rest below cs r f e =
      let behind = units_lexemes (lexeme Connective (codes "|")) us rest in
      unit-runs s u (lexeme Connective (codes "|") ∷ unit_lexemes v behind) (maybe_connected s ∷ below) (None ∷ unit_causes s v (units_causes s us cs)) r ors.ends
      (ap (marked None)
      (unit-runs s v behind (maybe_more_units (codes "|") s ∷ below) (units_causes s us cs) r (units-follow (codes "|") s us rest below ors f)
      (units-run (codes "|") s us rest below cs r ors f e)))
  phrase-runs s (joined_by c u v) rest below cs r f e =
      unit-runs s u (connective_lexeme c ∷ unit_lexemes v rest) (maybe_connected s ∷ below) (None ∷ unit_causes s v cs) r
      (connective-follows c (unit_lexemes v rest) (maybe_connected s) below)
      (connective-step c s (unit_lexemes v rest) below
      ∙ ap (marked None) (unit-runs s v rest below cs r (weaker EndsFormula EndsAtom rest below formula-atom f) e))

-- ---- types

more_sorts-run :
    (ss : List SortPhrase) (rest : List Lexeme) (below : List TypedSymbol) (cs : List (Option Refusal)) (r : Trace) → trace rest below ≡ marks cs r
    → trace (more_sorts_lexemes ss (lexeme Mark (codes ")") ∷ rest)) (more_sorts ∷ below) ≡ marks (more_sorts_causes ss (None ∷ cs)) r
more_sorts-run [] rest below cs r e = ap (marked None) e
more_sorts-run (s ∷ ss) rest below cs r e =
    ap (marked None)
    (sort-token s (more_sorts_lexemes ss (lexeme Mark (codes ")") ∷ rest)) (more_sorts ∷ below)
    ∙ ap (marked None) (more_sorts-run ss rest below cs r e))

-- a sort that begins a type, and one that ends it
first-sort :
    (s : Surroundings) (a : SortPhrase) (ts : List Lexeme) (below : List TypedSymbol)
    → trace (sort_lexeme a ∷ ts) (a_type s ∷ below) ≡ marked None (trace ts (maybe_result ∷ below))
first-sort s dollar_sort ts below = refl
first-sort s (word_sort (bare w)) ts below = refl
first-sort s (word_sort (quoted w)) ts below = refl

last-sort :
    (a : SortPhrase) (ts : List Lexeme) (below : List TypedSymbol) → trace (sort_lexeme a ∷ ts) (a_result ∷ below) ≡ marked None (trace ts below)
last-sort dollar_sort ts below = refl
last-sort (word_sort (bare w)) ts below = refl
last-sort (word_sort (quoted w)) ts below = refl

-- arguments up to the `>` behind them
arguments-run :
    (s : Surroundings) (a : ArgumentsPhrase) (rest : List Lexeme) (below : List TypedSymbol) (cs : List (Option Refusal)) (r : Trace)
    → trace rest (a_result ∷ below) ≡ marks cs r
    → trace (arguments_lexemes a (lexeme Other (codes ">") ∷ rest)) (a_type s ∷ below) ≡ marks (arguments_causes s a (None ∷ cs)) r
arguments-run s (one_argument a) rest below cs r e =
    first-sort s a (lexeme Other (codes ">") ∷ rest) below ∙ ap (λ u. marked None (marked None u)) e
arguments-run s (arguments_in_brackets a bs) rest below cs r e =
    ap (marked (begun s))
    (sort-token a (more_sorts_lexemes bs (lexeme Mark (codes ")") ∷ lexeme Other (codes ">") ∷ rest)) (more_sorts ∷ an_arrow ∷ a_result ∷ below)
    ∙ ap (marked None)
    (more_sorts-run bs (lexeme Other (codes ">") ∷ rest) (an_arrow ∷ a_result ∷ below) (None ∷ cs) r (ap (marked None) e)))

type-runs :
    (s : Surroundings) (t : TypePhrase) (rest : List Lexeme) (below : List TypedSymbol) (cs : List (Option Refusal)) (r : Trace)
    → Follows NoArrow rest below → trace rest below ≡ marks cs r
    → trace (type_lexemes t rest) (a_type s ∷ below) ≡ marks (type_causes s t cs) r
type-runs s kind_of_sorts rest below cs r f e = ap (marked None) e
type-runs s (constant_of a) rest below cs r f e =
    first-sort s a rest below ∙ ap (marked None) (skipped maybe_result NoArrow rest below result-pass f ∙ e)
type-runs s proposition rest below cs r f e = ap (marked None) e
type-runs s (function_from a b) rest below cs r f e =
    arguments-run s a (sort_lexeme b ∷ rest) below (None ∷ cs) r (last-sort b rest below ∙ ap (marked None) e)
type-runs s (predicate_from a) rest below cs r f e =
    arguments-run s a (lexeme Dollar (codes "$o") ∷ rest) below (None ∷ cs) r (ap (marked None) e)

pub declaration-runs :
    (s : Surroundings) (d : DeclarationPhrase) (rest : List Lexeme) (below : List TypedSymbol) (cs : List (Option Refusal)) (r : Trace)
    → Follows NoArrow rest below → trace rest below ≡ marks cs r
    → trace (declaration_lexemes d rest) (a_declaration s ∷ below) ≡ marks (declaration_causes s d cs) r
declaration-runs s (declares (bare w) t) rest below cs r f e = ap (λ u. marked None (marked None u)) (type-runs s t rest below cs r f e)
declaration-runs s (declares (quoted w) t) rest below cs r f e = ap (λ u. marked None (marked None u)) (type-runs s t rest below cs r f e)
declaration-runs s (declaration_in_brackets d) rest below cs r f e =
    ap (marked (begun s))
    (declaration-runs (deeper s) d (lexeme Mark (codes ")") ∷ rest) (mark (codes ")") ∷ below) (None ∷ cs) r refl (ap (marked None) e))
