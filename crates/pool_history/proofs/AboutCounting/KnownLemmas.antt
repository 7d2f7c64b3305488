-- The clauses that a right removal names are registered: its victim, and those that justify it.
use Rattle.std.proofs.Common.{◌≡◌, ℕ, zero, suc, ◌-◌, Bool, true, false, not, ◌==◌, List, [], ◌∷◌, ◌++◌, take, refl, ap, sym, ◌∙◌}
use Rattle.std.specs.Prelude.{Option, None, Some, cond, nat_lt, filter, flat_map, option_map, is_some, slice_get, if◌then◌else◌}
use Rattle.std.specs.List.{list_all, AllByRecursion, cons_option}
use Rattle.std.proofs.lemmas.Bool.{and_parts, and_from, true≢false}
use Rattle.std.proofs.lemmas.Option.{none-some, same_Some}
use Rattle.fol_base.specs.Clause.{TreeClause}
use Rattle.fol_base.specs.Literal.{clause_of}
use Rattle.fol_base.specs.Subsumption.{is_among}
use Rattle.fol_base.specs.Rules.{superposed, resolved, factored, merged}
use Rattle.kernel_steps.specs.Conclusion.{verdict, concludes}
use Rattle.kernel_steps.specs.Derivation.{continued, line_parents}
use Rattle.kernel_steps.specs.Lines.{AreLines, clause_parents, step_parents, is_on_literals, clauses_named}
use Rattle.kernel_steps.specs.Moves.{Move, AreMoves, IsMove, end_of_moves, units_of}
use Rattle.kernel_steps.specs.Parents.{Parent, Parents}
use Rattle.kernel_steps.specs.declared.step.TheConstants.{CLAUSE_NUMBERS}
use Rattle.kernel_steps.specs.declared.step.Step.{Step}
use Rattle.kernel_steps.specs.declared.step.Step.TheVariants.{Input, Negate, Clausify, Para, Refl, Factor, Merge, Component, Opposite, Split, Chain}
use Rattle.kernel_steps.specs.declared.step.Line.{Line}
use Rattle.kernel_steps.proofs.AboutCalls.VerdictParts.{by_one-parts, by_two-parts}
use Rattle.laws_calculus.specs.Lifting.{among}
use Rattle.pool_history.specs.Record.{GivenJob}
use Rattle.pool_history.specs.Reduction.{Lookup, clauses_used, IsRedundant, subsumers, same_numbers}
use Rattle.pool_history.specs.Batches.{is_told, is_told_beside, IsRightRemovalBy}
use Rattle.pool_history.specs.declared.options.Options.{Options}
use Rattle.pool_history.specs.declared.batch.Fate.{Fate}
use Rattle.pool_history.specs.declared.batch.Fate.TheVariants.{Kept, Dropped, Heavy}
use Rattle.pool_history.specs.declared.batch.Redundancy.{Redundancy}
use Rattle.pool_history.specs.declared.batch.Redundancy.TheVariants.{Tautology, Subsumed}
use Rattle.pool_history.proofs.AboutCounting.DeathLemmas.{among-pass}

true-at : {X : Type 0} (p : X → Bool) (xs : List X) (n : ℕ) (x : X) → list_all p xs ≡ true → slice_get xs n ≡ Some x → p x ≡ true
true-at p [] n x all there = absurd (none-some x there)
true-at p (y ∷ ys) zero x all there = ap p (sym (same_Some y x there)) ∙ (and_parts (p y) (list_all p ys) all).0
true-at p (y ∷ ys) (suc n) x all there = true-at p ys n x (and_parts (p y) (list_all p ys) all).1 there

-- ---- parents of lines

-- all parents of a step that concludes are there
step-parents-all :
    (P : ℕ → Type 0) (parents : Parents) (step : Step) (c : TreeClause)
    → ((n : ℕ) (p : Parent) → parents n ≡ Some p → P n) → is_on_literals step ≡ true → verdict step parents ≡ concludes c → AllByRecursion P (step_parents step)
step-parents-all P parents (Para first second from from_side into into_side place first_bind second_bind) c each kind gives =
    let parts = by_two-parts (parents first) first_bind (parents second) second_bind (λ ls ks. superposed ls from from_side ks into into_side place) c gives in
    (each first parts.source parts.first_there, (each second parts.target parts.second_there, tt))
step-parents-all P parents (Refl parent literal bind) c each kind gives =
    let parts = by_one-parts (parents parent) bind (λ ls. resolved ls literal) c gives in (each parent parts.source parts.there, tt)
step-parents-all P parents (Factor parent becomes becomes_side other other_side bind) c each kind gives =
    let parts = by_one-parts (parents parent) bind (λ ls. factored ls becomes becomes_side other other_side) c gives in (each parent parts.source parts.there, tt)
step-parents-all P parents (Merge parent stays goes bind) c each kind gives =
    let parts = by_one-parts (parents parent) bind (λ ls. merged ls stays goes) c gives in (each parent parts.source parts.there, tt)
step-parents-all P parents (Input place) c each kind gives = tt
step-parents-all P parents (Negate place) c each kind gives = tt
step-parents-all P parents (Clausify number) c each kind gives = tt
step-parents-all P parents (Component name) c each kind gives = tt
step-parents-all P parents (Opposite name) c each kind gives = tt
step-parents-all P parents (Split parent definitions parts) c each kind gives = absurd (true≢false (sym kind))
step-parents-all P parents (Chain numbers pivots) c each kind gives = absurd (true≢false (sym kind))

module _ (is_predicate : ℕ → Bool) (clauses : Lookup) (lines : List Line) (right : AreLines is_predicate CLAUSE_NUMBERS (clause_parents clauses) lines) where
  pub parents-all :
      (P : ℕ → Type 0) → ((k n : ℕ) (p : Parent) → continued CLAUSE_NUMBERS (clause_parents clauses) (take k lines) n ≡ Some p → P n)
      → (k : ℕ) (l : Line) → slice_get lines k ≡ Some l → AllByRecursion P (step_parents l.step)
  parents-all P each k l there =
      step-parents-all P (continued CLAUSE_NUMBERS (clause_parents clauses) (take k lines)) l.step (clause_of l.clause) (each k)
      (true-at (λ (l : Line). is_on_literals l.step) lines k l right.kinds there) (right.steps k l there)

  -- those that are clauses are there
  abbrev is_there : ℕ → Bool
  is_there n = is_some (clauses n)

  named-there : (ls : List Line) → ((k : ℕ) (l : Line) → slice_get ls k ≡ Some l → AllByRecursion (λ n. nat_lt n CLAUSE_NUMBERS ≡ true → is_there n ≡ true) (step_parents l.step))
      → list_all is_there (filter (λ n. nat_lt n CLAUSE_NUMBERS) (flat_map (λ (l : Line). step_parents l.step) ls)) ≡ true
  named-there [] each = refl
  named-there (l ∷ ls) each =
      some (step_parents l.step) (flat_map (λ (l : Line). step_parents l.step) ls) (each 0 l refl) (named-there ls (λ k m there. each (suc k) m there))
    where
      some :
          (ns ms : List ℕ) → AllByRecursion (λ n. nat_lt n CLAUSE_NUMBERS ≡ true → is_there n ≡ true) ns
          → list_all is_there (filter (λ n. nat_lt n CLAUSE_NUMBERS) ms) ≡ true → list_all is_there (filter (λ n. nat_lt n CLAUSE_NUMBERS) (ns ++ ms)) ≡ true
      some [] ms all rest = rest
      some (n ∷ ns) ms all rest = one (nat_lt n CLAUSE_NUMBERS) all.0 (some ns ms all.1 rest)
        where
          one :
              (b : Bool) → (b ≡ true → is_there n ≡ true) → list_all is_there (filter (λ n. nat_lt n CLAUSE_NUMBERS) (ns ++ ms)) ≡ true
              → list_all is_there (cond b (n ∷ filter (λ n. nat_lt n CLAUSE_NUMBERS) (ns ++ ms)) (filter (λ n. nat_lt n CLAUSE_NUMBERS) (ns ++ ms))) ≡ true
          one true here more = and_from (is_there n) _ (here refl) more
          one false here more = more

  pub clauses-there : list_all is_there (clauses_named lines) ≡ true
  clauses-there = named-there lines (parents-all (λ n. nat_lt n CLAUSE_NUMBERS ≡ true → is_there n ≡ true) (λ k n p there low.
      found (clauses n) p (sym (ap (λ b. if b then clause_parents clauses n else line_parents (take k lines) (n - CLAUSE_NUMBERS)) low) ∙ there)))
    where
      found : (o : Option TreeClause) (p : Parent) → option_map (λ (c : TreeClause). let q : Parent = record { clause = c; introduces = false } in q) o ≡ Some p → is_some o ≡ true
      found None p there = absurd (none-some p there)
      found (Some c) p there = refl

-- what is looked up among clauses is one of them
pub among-there : (clauses : Lookup) (p : ℕ → Bool) (n : ℕ) (c : TreeClause) → among p clauses n ≡ Some c → clauses n ≡ Some c
among-there clauses p n c there = by (p n) there
  where
    by : (b : Bool) → (if b then clauses n else None) ≡ Some c → clauses n ≡ Some c
    by true h = h
    by false h = absurd (none-some c h)

-- ---- justifiers

module _ (is_predicate : ℕ → Bool) (options : Options) (clauses : Lookup) (j : GivenJob) where
  abbrev known : ℕ → Bool
  known n = is_some (clauses n)

  known-from : (p : ℕ → Bool) (n : ℕ) (c : TreeClause) → among p clauses n ≡ Some c → known n ≡ true
  known-from p n c there = ap is_some (among-there clauses p n c there)

  units-known : (p : ℕ → Bool) (c : TreeClause) (ms : List Move) → AreMoves is_predicate (among p clauses) c ms → list_all known (units_of ms) ≡ true
  units-known p c [] moved = refl
  units-known p c (m ∷ ms) moved = by m.by moved.0.result moved.0.step (units-known p m.gives ms moved.1)
    where
      by :
          (o : Option ℕ) (d : TreeClause) → IsMove is_predicate (among p clauses) c o d → list_all known (units_of ms) ≡ true
          → list_all known (cons_option o (units_of ms)) ≡ true
      by None d move rest = rest
      by (Some n) d move rest = and_from (known n) (list_all known (units_of ms)) (known-from p n move.clause move.there) rest

  filtered : (p q : ℕ → Bool) (ns : List ℕ) → list_all q ns ≡ true → list_all q (filter p ns) ≡ true
  filtered p q [] all = refl
  filtered p q (n ∷ ns) all = by (p n) (and_parts (q n) (list_all q ns) all) (filtered p q ns (and_parts (q n) (list_all q ns) all).1)
    where
      by : (b : Bool) → ((q n ≡ true) × (list_all q ns ≡ true)) → list_all q (filter p ns) ≡ true → list_all q (cond b (n ∷ filter p ns) (filter p ns)) ≡ true
      by true parts rest = and_from (q n) (list_all q (filter p ns)) parts.0 rest
      by false parts rest = rest

  told-known : (ns : List ℕ) → list_all (λ n. is_some (among (is_told j) clauses n)) ns ≡ true → list_all known ns ≡ true
  told-known [] all = refl
  told-known (n ∷ ns) all =
      let parts = and_parts (is_some (among (is_told j) clauses n)) (list_all (λ n. is_some (among (is_told j) clauses n)) ns) all in
      and_from (known n) (list_all known ns) (by (is_told j n) parts.0) (told-known ns parts.1)
    where
      by : (b : Bool) → is_some (if b then clauses n else None) ≡ true → is_some (clauses n) ≡ true
      by true h = h
      by false h = absurd (true≢false (sym h))

  subsumers-known : (p : ℕ → Bool) (c : TreeClause) (redundancy : Redundancy) → IsRedundant is_predicate (among p clauses) c redundancy → list_all known (subsumers redundancy) ≡ true
  subsumers-known p c Tautology redundant = refl
  subsumers-known p c (Subsumed n) redundant = and_from (known n) true (known-from p n redundant.clause redundant.there) refl

  append-known : (ns ms : List ℕ) → list_all known ns ≡ true → list_all known ms ≡ true → list_all known (ns ++ ms) ≡ true
  append-known [] ms one other = other
  append-known (n ∷ ns) ms one other =
      let parts = and_parts (known n) (list_all known ns) one in and_from (known n) (list_all known (ns ++ ms)) parts.0 (append-known ns ms parts.1 other)

  same-known : (ns ms : List ℕ) → same_numbers ns ms ≡ true → list_all known ms ≡ true → list_all known ns ≡ true
  same-known ns ms same all = among-pass known ns ms (and_parts (is_among ns ms) (is_among ms ns) same).0 all

  -- the victim of a removal, and those by which it goes
  pub victim-known : (victim : ℕ) (justifiers : List ℕ) (fate : Fate) → IsRightRemovalBy is_predicate options clauses j victim justifiers fate → known victim ≡ true
  victim-known victim justifiers (Kept lines results) right = known-from (is_told j) victim right.clause right.there
  victim-known victim justifiers (Dropped redundancy) right = known-from (is_told j) victim right.clause right.there
  victim-known victim justifiers Heavy right = absurd right

  pub justifiers-known : (victim : ℕ) (justifiers : List ℕ) (fate : Fate) → IsRightRemovalBy is_predicate options clauses j victim justifiers fate → list_all known justifiers ≡ true
  justifiers-known victim justifiers (Kept lines results) right =
      same-known justifiers (units_of (right.move ∷ right.moves) ++ clauses_used victim lines) right.justified
      (append-known (units_of (right.move ∷ right.moves)) (clauses_used victim lines)
      (units-known (is_told_beside j victim) right.clause (right.move ∷ right.moves) right.reduced.moved)
      (filtered (λ n. not (n == victim)) known (clauses_named lines)
      (told-known (clauses_named lines) (clauses-there is_predicate (among (is_told j) clauses) lines right.are_lines.lines_right))))
  justifiers-known victim justifiers (Dropped redundancy) right =
      same-known justifiers (units_of right.moves ++ subsumers redundancy) right.justified
      (append-known (units_of right.moves) (subsumers redundancy)
      (units-known (is_told_beside j victim) right.clause right.moves right.moved)
      (subsumers-known (is_told_beside j victim) (end_of_moves right.clause right.moves) redundancy right.redundant))
  justifiers-known victim justifiers Heavy right = absurd right
