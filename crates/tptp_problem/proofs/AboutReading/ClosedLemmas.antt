-- No formula of a problem but a clause has a free variable.
use Rattle.std.proofs.Common.{◌≡◌, ℕ, Bool, true, false, None, Some, Option, List, [], ◌∷◌, ◌++◌, refl, ap, sym, ◌∙◌, subst}
use Rattle.std.specs.Prelude.{if◌then◌else◌}
use Rattle.std.specs.List.{AllByRecursion}
use Rattle.tptp_tree.specs.declared.limits.TheConstants.{MOST_NESTING}
use Rattle.tptp_token.specs.Spelling.{is_one_of}
use Rattle.outside.specs.Library.{Holdings}
use Rattle.tptp_tree.specs.Shape.{formula_of}
use Rattle.tptp_tree.specs.Spelling.{TermPhrase, variable_word, word_with, TermPhrases, no_phrases, phrase_then, term_meant, terms_meant, Atom, true_atom, false_atom, predicate_atom, equation_atom, atom_meant, UnitPhrase, negated, bound, in_brackets, atomic, UnitPhrases, no_units, unit_then, Phrase, alone, all_of, some_of, joined_by, unit_meant, units_meant, meant}
use Rattle.tptp_tree.specs.Entries.{Body, formula_body, clause_body, is_clause_body, body_meant}
use Rattle.tptp_tree.specs.Causes.{Refusal, free_variable, Scope, bound_ones, scope_with, Surroundings, deeper, binding, variable_cause, term_causes, arguments_causes, more_arguments_causes, atom_causes, more_variables_causes, unit_causes, units_causes, phrase_causes, outermost, body_causes}
use Rattle.tptp_reader.specs.Annotating.{IsReading}
use Rattle.tptp_reader.specs.Answers.{AreFaultless}
use Rattle.tptp_reader.specs.declared.entry.Read.{Read}
use Rattle.tptp_problem.specs.Closed.{term_within, terms_within, closed_within, all_closed_within}
use Rattle.tptp_problem.specs.Formulas.{Placed}
use Rattle.tptp_problem.specs.Problem.{LoadedFile, tokens_of, IsProblem}
use Rattle.tptp_problem.proofs.AboutReading.ConjectureLemmas.{all-hold}
use Rattle.list_lemmas.proofs.Bools.{both-true}

variable-bound : (scope : Scope) (xs : List (List ℕ)) (x : List ℕ) → scope ≡ bound_ones xs → variable_cause scope x ≡ None → is_one_of xs x ≡ true
variable-bound scope xs x e h = by (is_one_of xs x) (subst (λ (s : Scope). variable_cause s x ≡ None) e h)
  where
    by : (b : Bool) → (if b then None else Some free_variable) ≡ None → b ≡ true
    by true k = refl
    by false k = absurd (cc)

mutual
  term-bound :
      (s : Surroundings) (xs : List (List ℕ)) (t : TermPhrase) (rest : List (Option Refusal)) → s.scope ≡ bound_ones xs
      → AreFaultless (term_causes s t rest) → (term_within xs (term_meant t) ≡ true) × AreFaultless rest
  term-bound s xs (variable_word x) rest e h = (variable-bound s.scope xs x e h.0, h.1)
  term-bound s xs (word_with w ts) rest e h = arguments-bound s xs ts rest e h.1

  arguments-bound :
      (s : Surroundings) (xs : List (List ℕ)) (ts : TermPhrases) (rest : List (Option Refusal)) → s.scope ≡ bound_ones xs
      → AreFaultless (arguments_causes s ts rest) → (terms_within xs (terms_meant ts) ≡ true) × AreFaultless rest
  arguments-bound s xs no_phrases rest e h = (refl, h)
  arguments-bound s xs (phrase_then t ts) rest e h =
      let first = term-bound (deeper s) xs t (more_arguments_causes (deeper s) ts rest) e h.1 in
      let more = more-bound (deeper s) xs ts rest e first.1 in
      (both-true (term_within xs (term_meant t)) (terms_within xs (terms_meant ts)) first.0 more.0, more.1)

  more-bound :
      (s : Surroundings) (xs : List (List ℕ)) (ts : TermPhrases) (rest : List (Option Refusal)) → s.scope ≡ bound_ones xs
      → AreFaultless (more_arguments_causes s ts rest) → (terms_within xs (terms_meant ts) ≡ true) × AreFaultless rest
  more-bound s xs no_phrases rest e h = (refl, h.1)
  more-bound s xs (phrase_then t ts) rest e h =
      let first = term-bound s xs t (more_arguments_causes s ts rest) e h.1 in
      let more = more-bound s xs ts rest e first.1 in
      (both-true (term_within xs (term_meant t)) (terms_within xs (terms_meant ts)) first.0 more.0, more.1)

pub atom-bound :
    (s : Surroundings) (xs : List (List ℕ)) (a : Atom) (rest : List (Option Refusal)) → s.scope ≡ bound_ones xs
    → AreFaultless (atom_causes s a rest) → (closed_within xs (atom_meant a) ≡ true) × AreFaultless rest
atom-bound s xs true_atom rest e h = (refl, h.1)
atom-bound s xs false_atom rest e h = (refl, h.1)
atom-bound s xs (predicate_atom w ts) rest e h = arguments-bound s xs ts rest e h.1
atom-bound s xs (equation_atom positive l r) rest e h =
    let left = term-bound s xs l (None ∷ term_causes s r rest) e h in
    let right = term-bound s xs r rest e left.1.1 in
    (both-true (term_within xs (term_meant l)) (term_within xs (term_meant r)) left.0 right.0, right.1)

variables-faultless : (xs : List (List ℕ)) (rest : List (Option Refusal)) → AreFaultless (more_variables_causes xs rest) → AreFaultless rest
variables-faultless [] rest h = h
variables-faultless (x ∷ xs) rest h = variables-faultless xs rest h.1.1

mutual
  unit-bound :
      (s : Surroundings) (xs : List (List ℕ)) (u : UnitPhrase) (rest : List (Option Refusal)) → s.scope ≡ bound_ones xs
      → AreFaultless (unit_causes s u rest) → (closed_within xs (unit_meant u) ≡ true) × AreFaultless rest
  unit-bound s xs (negated u) rest e h = unit-bound (deeper s) xs u rest e h.1
  unit-bound s xs (bound q ys u) rest e h =
      let inside = binding (ys.first ∷ ys.others) (deeper s) in
      let behind = variables-faultless ys.others (None ∷ None ∷ unit_causes inside u rest) h.1.1.1 in
      unit-bound inside ((ys.first ∷ ys.others) ++ xs) u rest (ap (λ (c : Scope). scope_with c (ys.first ∷ ys.others)) e) behind.1.1
  unit-bound s xs (in_brackets p) rest e h = let inside = phrase-bound (deeper s) xs p (None ∷ rest) e h.1 in (inside.0, inside.1.1)
  unit-bound s xs (atomic a) rest e h = atom-bound s xs a rest e h

  units-bound :
      (s : Surroundings) (xs : List (List ℕ)) (us : UnitPhrases) (rest : List (Option Refusal)) → s.scope ≡ bound_ones xs
      → AreFaultless (units_causes s us rest) → (all_closed_within xs (units_meant us) ≡ true) × AreFaultless rest
  units-bound s xs no_units rest e h = (refl, h)
  units-bound s xs (unit_then u us) rest e h =
      let first = unit-bound s xs u (units_causes s us rest) e h.1 in
      let more = units-bound s xs us rest e first.1 in
      (both-true (closed_within xs (unit_meant u)) (all_closed_within xs (units_meant us)) first.0 more.0, more.1)

  phrase-bound :
      (s : Surroundings) (xs : List (List ℕ)) (p : Phrase) (rest : List (Option Refusal)) → s.scope ≡ bound_ones xs
      → AreFaultless (phrase_causes s p rest) → (closed_within xs (meant p) ≡ true) × AreFaultless rest
  phrase-bound s xs (alone u) rest e h = unit-bound s xs u rest e h
  phrase-bound s xs (all_of u v us) rest e h =
      let first = unit-bound s xs u (None ∷ unit_causes s v (units_causes s us rest)) e h in
      let second = unit-bound s xs v (units_causes s us rest) e first.1.1 in
      let more = units-bound s xs us rest e second.1 in
      (both-true (closed_within xs (unit_meant u)) _ first.0 (both-true (closed_within xs (unit_meant v)) _ second.0 more.0), more.1)
  phrase-bound s xs (some_of u v us) rest e h =
      let first = unit-bound s xs u (None ∷ unit_causes s v (units_causes s us rest)) e h in
      let second = unit-bound s xs v (units_causes s us rest) e first.1.1 in
      let more = units-bound s xs us rest e second.1 in
      (both-true (closed_within xs (unit_meant u)) _ first.0 (both-true (closed_within xs (unit_meant v)) _ second.0 more.0), more.1)
  phrase-bound s xs (joined_by c u v) rest e h =
      let first = unit-bound s xs u (None ∷ unit_causes s v rest) e h in
      let second = unit-bound s xs v rest e first.1.1 in
      (both-true (closed_within xs (unit_meant u)) (closed_within xs (unit_meant v)) first.0 second.0, second.1)

body-closed :
    (b : Body) (rest : List (Option Refusal)) → is_clause_body b ≡ false → AreFaultless (body_causes MOST_NESTING b rest) → closed_within [] (body_meant b) ≡ true
body-closed (formula_body p) rest e h = (phrase-bound (outermost MOST_NESTING false) [] p rest refl h).0
body-closed (clause_body c) rest e h = absurd (let t : true ≡ false = e in cc)

reading-closed :
    (file : LoadedFile) (first : ℕ) (read : Read) → IsReading MOST_NESTING file.bytes (tokens_of file) first read → read.annotated.clause ≡ false
    → closed_within [] (formula_of read.annotated.formula) ≡ true
reading-closed file first read h c =
    ap (closed_within []) h.meant.formula ∙ body-closed h.phrase.body _ (sym h.meant.is_clause ∙ c) h.spelled.faultless.1.1.1.1.1.1

pub problem-closed :
    (told : Option Holdings) (file : List ℕ) (root : Option (List ℕ)) (fs : List Placed) → IsProblem told file root fs
    → AllByRecursion (λ (f : Placed). f.tree.is_clause ≡ false → closed_within [] f.tree.formula ≡ true) fs
problem-closed told file root fs h =
    all-hold (λ (f : Placed). f.tree.is_clause ≡ false → closed_within [] f.tree.formula ≡ true) told file root fs
    (record { by = λ file first read r. reading-closed file first read r }) h
