-- The fields after a clause was registered.
use Rattle.std.proofs.Common.{◌≡◌, ℕ, suc, ◌+◌, ◌<◌, ◌≤◌, Bool, true, false, not, ◌&&◌, List, [], ◌∷◌, ◌++◌, map, length, append-nil, refl, ap, ap₂, sym, ◌∙◌, subst, ⊎_elim, arith}
use Rattle.std.specs.Prelude.{Option, None, Some, cond, nat_lt, filter, slice_get, unwrap_or, option_map, if◌then◌else◌, All}
use Rattle.std.specs.List.{range_with_len}
use Rattle.std.specs.List.Sorted.{IsStrictlyIncreasing}
use Rattle.std.proofs.lemmas.Bool.{and_from, lt-ltb, not_from_false}
use Rattle.std.proofs.lemmas.List.{length-append, map-append}
use Rattle.std.proofs.lemmas.List.Elements.{All-push, All-weaker, All-map}
use Rattle.plain_types.specs.declared.sequence.NameLit.{NameLit}
use Rattle.plain_types.specs.Names.{negative_of}
use Rattle.fol_base.specs.Clause.{TreeClause, TreeLiteral, clause_size}
use Rattle.kernel_steps.specs.Conclusion.{empty_clause}
use Rattle.kernel_steps.specs.Split.{has_number}
use Rattle.sat_core.specs.Clause.{valuation_of}
use Rattle.clause_queue.specs.Pairs.{with_pair}
use Rattle.term_bank.specs.Literal.{AreLiteralsOf}
use Rattle.term_bank.specs.declared.bank.Bank.{Bank}
use Rattle.term_bank.specs.declared.table.Table.{Table}
use Rattle.bank_clause.specs.Clause.{IsKnown, clause_at}
use Rattle.bank_clause.specs.declared.clause.BankClause.{BankClause}
use Rattle.bank_clause.proofs.ClauseLemmas.{assertions-are}
use Rattle.pool_history.specs.Record.{PoolRecord, Registered, Death, GivenJob, clause_numbered, has_died, is_awake, is_awake_under, is_out, lives, waits}
use Rattle.pool_history.specs.Claiming.{ready, pair_of}
use Rattle.pool_history.specs.Registering.{has_none, registered_by}
use Rattle.pool_core.specs.Asserting.{asserted_by, assertions_from}
use Rattle.pool_core.specs.Splits.{HasTags, AreSplitsOf, split_view}
use Rattle.pool_core.specs.Started.{registered_at, IsOfTable}
use Rattle.pool_core.specs.State.{IsRegistration, IsProofStateOf, AreOfRegistered}
use Rattle.pool_core.specs.declared.pool.ProofState.{ProofState}
use Rattle.clause_register.specs.declared.register.Registration.{Registration}
use Rattle.pool_core.specs.declared.tag_index.Assertion.{Assertion}
use Rattle.pool_history.proofs.AboutRecords.EditLemmas.{get-end, filter-more}
use Rattle.pool_core.proofs.AboutReturns.ProofStateLemmas.{count-of, get-front, get-last, map-filter-within, no-death-of, no-position, not-active, not-dead, not-out, with_pair-above}
use Rattle.pool_core.proofs.AboutWaking.AssertionLemmas.{asserted-names, assertions-more}

module _ (r : PoolRecord) (line : ℕ) (c : TreeClause) (told : AreOfRegistered r) where
  abbrev now : PoolRecord
  now = registered_by line c r

  abbrev count : ℕ
  count = length r.registered

  longer : length now.registered ≡ suc count
  longer = let e : length now.registered ≡ count + 1 = length-append r.registered (record { clause = c; line = line } ∷ []) in omega (arith, e)

  clause-before : (k : ℕ) → k < count → clause_numbered now k ≡ clause_numbered r k
  clause-before k below =
      ap (λ (o : Option Registered). unwrap_or (option_map (λ (x : Registered). x.clause) o) empty_clause)
      (get-front r.registered (record { clause = c; line = line }) k below)

  clause-now : clause_numbered now count ≡ c
  clause-now =
      ap (λ (o : Option Registered). unwrap_or (option_map (λ (x : Registered). x.clause) o) empty_clause)
      (get-last r.registered (record { clause = c; line = line }))

  abbrev awake : Bool
  awake = is_awake_under (valuation_of r.model) r.parts c

  ready-before : (k : ℕ) → k < count → (waits now k && is_awake now k) ≡ (waits r k && is_awake r k)
  ready-before k below =
      ap₂ (λ (b d : Bool). ((b && not (has_died r.deaths k)) && (not (is_out r k) && not (has_number k r.active))) && d)
      (lt-ltb k (length now.registered) (omega (arith, below, longer)) ∙ sym (lt-ltb k count below))
      (ap (is_awake_under (valuation_of r.model) r.parts) (clause-before k below))

  ready-now : (waits now count && is_awake now count) ≡ awake
  ready-now =
      ap₂ (λ (b d : Bool). b && d)
      (and_from (lives now count) (not (is_out r count) && not (has_number count r.active))
      (and_from (nat_lt count (length now.registered)) (not (has_died r.deaths count)) (lt-ltb count (length now.registered) (omega (arith, longer)))
      (not_from_false (has_died r.deaths count) (not-dead r count told (omega arith))))
      (and_from (not (is_out r count)) (not (has_number count r.active))
      (not_from_false (is_out r count) (not-out r count told (omega arith)))
      (not_from_false (has_number count r.active) (not-active r count told (omega arith)))))
      (ap (is_awake_under (valuation_of r.model) r.parts) clause-now)

  -- the clauses that were ready are, and the new one where it is awake
  ready-all : map (pair_of now) (ready now) ≡ map (pair_of r) (ready r) ++ cond awake (pair_of now count ∷ []) []
  ready-all =
      ap (λ n. map (pair_of now) (filter (λ k. waits now k && is_awake now k) (range_with_len 0 n))) longer
      ∙ ap (map (pair_of now)) (filter-more (λ k. waits now k && is_awake now k) 0 count)
      ∙ map-append (pair_of now) (filter (λ k. waits now k && is_awake now k) (range_with_len 0 count)) (cond (waits now (0 + count) && is_awake now (0 + count)) ((0 + count) ∷ []) [])
      ∙ ap₂ (λ (ps qs : List (ℕ × ℕ)). ps ++ qs)
      (map-filter-within (λ k. waits now k && is_awake now k) (λ k. waits r k && is_awake r k) (pair_of now) (pair_of r) 0 count count (omega arith) ready-before
      (λ k below. ap (λ (d : TreeClause). let q : ℕ × ℕ = (k, clause_size d) in q) (clause-before k below)))
      (ap (λ n. map (pair_of now) (cond (waits now n && is_awake now n) (n ∷ []) [])) (let z : 0 + count ≡ count = omega arith in z)
      ∙ ap (λ b. map (pair_of now) (cond b (count ∷ []) [])) ready-now
      ∙ by awake)
    where
      by : (b : Bool) → map (pair_of now) (cond b (count ∷ []) []) ≡ cond b (pair_of now count ∷ []) []
      by true = refl
      by false = refl

  pub ready-registered :
      (if awake then with_pair (count, clause_size c) (map (pair_of r) (ready r)) else map (pair_of r) (ready r)) ≡ map (pair_of now) (ready now)
  ready-registered = by awake ∙ sym ready-all
    where
      by :
          (b : Bool)
          → (if b then with_pair (count, clause_size c) (map (pair_of r) (ready r)) else map (pair_of r) (ready r))
          ≡ map (pair_of r) (ready r) ++ cond b (pair_of now count ∷ []) []
      by true =
          with_pair-above count (clause_size c) (pair_of r) (λ k. waits r k && is_awake r k) 0 count (λ k. refl) (omega arith)
          ∙ ap (λ (d : TreeClause). map (pair_of r) (ready r) ++ (count, clause_size d) ∷ []) (sym clause-now)
      by false = sym (append-nil (map (pair_of r) (ready r)))

  pub told-registered : AreOfRegistered now
  told-registered = record {
    positions = All-weaker (λ n. n < count) (λ n. n < length now.registered) (λ n below. omega (arith, below, longer)) r.positions told.positions;
    active = All-weaker (λ n. n < count) (λ n. n < length now.registered) (λ n below. omega (arith, below, longer)) r.active told.active;
    given =
        All-weaker (λ (j : GivenJob). j.number < count) (λ (j : GivenJob). j.number < length now.registered) (λ j below. omega (arith, below, longer))
        r.given told.given;
    placed = told.placed;
    victims =
        All-weaker (λ (d : Death). d.victim < count) (λ (d : Death). d.victim < length now.registered) (λ d below. omega (arith, below, longer))
        r.deaths told.victims;
  }

pub registered-state :
    (bank : Bank) (table : Table) (s t : ProofState) (r : PoolRecord) (made : BankClause) (line : ℕ)
    → IsProofStateOf bank table s r → (r.ended ≡ None → has_none (clause_at made).literals ≡ false)
    → AreLiteralsOf bank made.literals → All (IsKnown table) made.literals
    → IsStrictlyIncreasing made.names → All (λ tag. tag < length s.splits.parts.parts) made.names
    → t ≡ record s { register = t.register; queue = t.queue; asserting = t.asserting }
    → t.register.clauses ≡ s.register.clauses ++ record { clause = made; line = line; position = None; death = None; is_active = false } ∷ []
    → t.queue.pairs
    ≡ (if is_awake_under (valuation_of s.splits.model) s.splits.parts.parts (clause_at made)
    then with_pair (length s.register.clauses, clause_size (clause_at made)) s.queue.pairs else s.queue.pairs)
    → t.asserting.entries ≡ s.asserting.entries ++ map (asserted_by (length s.register.clauses)) made.names
    → IsProofStateOf bank table t (registered_by line (clause_at made) r)
registered-state bank table s t r made line is some_literal of_bank known rise tags rest register queue asserting = record {
  registered =
      ap (map registered_at) register ∙ map-append registered_at ss (z ∷ [])
      ∙ ap (λ (xs : List Registered). xs ++ registered_at z ∷ []) is.registered;
  of_table = subst (All (IsOfTable bank table)) (sym register) (All-push (IsOfTable bank table) ss z is.of_table (record { of_bank = of_bank; known = known }));
  registrations = λ k y at. ⊎_elim
      (λ (before : slice_get ss k ≡ Some y).
      let was = is.registrations k y before in
      record { position = was.position; death = was.death; active = was.active })
      (λ (last : (k ≡ length ss) × (z ≡ y)).
      let past : length r.registered ≤ k = (let many = count-of bank table s r is in let here = last.0 in omega (arith, many, here)) in
      subst (IsRegistration (registered_by line c r) k) last.1
      (record {
        position = sym (no-position r k is.of_registered past);
        death = sym (no-death-of r k is.of_registered past);
        active = sym (not-active r k is.of_registered past);
      }))
      (get-end ss z y k (ap (λ xs. slice_get xs k) (sym register) ∙ at));
  queue =
      queue
      ∙ ap₂ (λ (truths : List Bool) (parts : List (List TreeLiteral)).
      if is_awake_under (valuation_of truths) parts c then with_pair (length ss, clause_size c) s.queue.pairs else s.queue.pairs)
      is.splits.model is.splits.parts
      ∙ ap₂ (λ (k : ℕ) (ps : List (ℕ × ℕ)). if is_awake_under (valuation_of r.model) r.parts c then with_pair (k, clause_size c) ps else ps)
      (sym (count-of bank table s r is)) is.queue
      ∙ ready-registered r line c is.of_registered;
  steps = ap (λ (u : ProofState). u.steps.items) rest ∙ is.steps;
  ended = ap (λ (u : ProofState). u.ended) rest ∙ is.ended;
  splits = subst (λ (u : ProofState). AreSplitsOf (split_view u.splits) r.parts r.lines r.propositional r.model r.modelled) (sym rest) is.splits;
  tags =
      All-push (HasTags (length r.parts)) r.registered (registered_at z) is.tags (
        assertions-are made.names rise,
        All-map (λ (n : NameLit). n.name < length r.parts) negative_of made.names
            (subst (λ (parts : List (List TreeLiteral)). All (λ tag. tag < length parts) made.names) is.splits.parts tags),
      );
  asserting =
      asserting
      ∙ ap₂ (λ (xs : List Assertion) (k : ℕ). xs ++ map (asserted_by k) made.names) is.asserting (sym (count-of bank table s r is))
      ∙ ap₂ (λ (ns : List ℕ) (k : ℕ). assertions_from 0 r.registered ++ map (asserted_by k) ns) (sym (asserted-names made.names))
      (let e : length r.registered ≡ 0 + length r.registered = omega arith in e)
      ∙ sym (assertions-more 0 r.registered (registered_at z));
  of_registered = told-registered r line c is.of_registered;
  no_empty = λ open_yet.
      All-push (λ (x : Registered). has_none x.clause.literals ≡ false) r.registered (registered_at z)
      (is.no_empty open_yet) (some_literal open_yet);
}
  where
    ss : List Registration
    ss = s.register.clauses

    c : TreeClause
    c = clause_at made

    z : Registration
    z = record { clause = made; line = line; position = None; death = None; is_active = false }
