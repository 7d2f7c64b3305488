use Rattle.std.proofs.Common.{◌≡◌, ℕ, ◌+◌, List, [], ◌∷◌, ◌++◌, map, length, refl, ap, ap₂, sym, ◌∙◌, subst, arith}
use Rattle.std.specs.List.{list_all}
use Rattle.std.specs.List.Sorted.{IsStrictlyIncreasing}
use Rattle.std.proofs.lemmas.Bool.{cond-true, cond-false}
use Rattle.std.proofs.lemmas.List.{length-append}
use Rattle.sat_core.specs.Clause.{literal_true, valuation_of}
use Rattle.clause_queue.specs.Pairs.{with_pair}
use Rattle.bank_clause.specs.Clause.{clause_at}
use Rattle.pool_history.specs.Record.{is_awake_under}
use Rattle.pool_history.specs.Tags.{name_of_tag}
use Rattle.pool_core.specs.Asserting.{asserted_by}
use Rattle.clause_register.specs.declared.register.Registration.{Registration}
use Rattle.pool_core.proofs.AboutReturns.ComingLemmas.{next-is-absent}
use Rattle.pool_core.proofs.AboutWaking.AssertionLemmas.{asserted-names}
use Rattle.pool_core.proofs.AboutWaking.RefreshLemmas.{node-for-new}
use Rattle.pool_core.proofs.AboutWaking.RegisteredLemmas.{registered-state}
use Rattle.pool_core.proofs.pool.ProofState.register_new.Goals as goal

longer : (ss : List Registration) (z : Registration) (zs : List Registration) → zs ≡ ss ++ z ∷ [] → length zs ≡ length ss + 1
longer ss z zs pushed = ap length pushed ∙ length-append ss (z ∷ [])

pub push-requires-then-is_awake-clause-absent : goal.push-requires-then-is_awake-clause-absent
push-requires-then-is_awake-clause-absent c = λ there.
    let told = c.requires.told in
    next-is-absent told.0 told.1 c.args.self.now told.2 c.len-number.result told.3 c.len-number.ensures.len there

pub push-requires-then-is_awake-clause-room : goal.push-requires-then-is_awake-clause-room
push-requires-then-is_awake-clause-room c =
    let told = c.requires.told in
    node-for-new told.0 told.1 c.args.self.now told.2 told.3 c.requires.room.queue

pub returns-then-is_awake-clause-registered : goal.returns-then-is_awake-clause-registered
returns-then-is_awake-clause-registered c = λ bank table r of_bank known some_literal is.
    registered-state bank table c.args.self.now _ r c.args.clause c.args.line is some_literal of_bank known
    (subst IsStrictlyIncreasing c.names.ensures.names c.names.ensures.rise) c.requires.tags refl c.push.ensures.pushed
    (c.push-then-is_awake.ensures.pairs
    ∙ ap₂ (λ (k w : ℕ). with_pair (k, w) c.args.self.now.queue.pairs) c.len-number.ensures.len c.size-size.ensures.size
    ∙ sym (cond-true
    (is_awake_under (valuation_of c.args.self.now.splits.model) c.args.self.now.splits.parts.parts (clause_at c.args.clause)) _ _
    (ap (list_all (λ tag. literal_true (valuation_of c.args.self.now.splits.model) (name_of_tag c.args.self.now.splits.parts.parts tag)))
    (asserted-names c.args.clause.names ∙ sym c.names.ensures.names)
    ∙ sym c.are_true-is_awake.ensures ∙ c.if-is_awake.true)))
    (c.add.ensures.added
    ∙ ap₂ (λ (k : ℕ) (ns : List ℕ). c.args.self.now.asserting.entries ++ map (asserted_by k) ns) c.len-number.ensures.len c.names-2.ensures.names)

pub returns-else-is_awake-clause-registered : goal.returns-else-is_awake-clause-registered
returns-else-is_awake-clause-registered c = λ bank table r of_bank known some_literal is.
    registered-state bank table c.args.self.now _ r c.args.clause c.args.line is some_literal of_bank known
    (subst IsStrictlyIncreasing c.names.ensures.names c.names.ensures.rise) c.requires.tags refl c.push.ensures.pushed
    (sym (cond-false
    (is_awake_under (valuation_of c.args.self.now.splits.model) c.args.self.now.splits.parts.parts (clause_at c.args.clause)) _ _
    (ap (list_all (λ tag. literal_true (valuation_of c.args.self.now.splits.model) (name_of_tag c.args.self.now.splits.parts.parts tag)))
    (asserted-names c.args.clause.names ∙ sym c.names.ensures.names)
    ∙ sym c.are_true-is_awake.ensures ∙ c.if-is_awake.false)))
    (c.add.ensures.added
    ∙ ap₂ (λ (k : ℕ) (ns : List ℕ). c.args.self.now.asserting.entries ++ map (asserted_by k) ns) c.len-number.ensures.len c.names-2.ensures.names)

pub returns-then-is_awake-clause-room : goal.returns-then-is_awake-clause-room
returns-then-is_awake-clause-room c = λ clauses assertions enough.
    let long = longer c.args.self.now.register.clauses _ c.push.new.self.clauses c.push.ensures.pushed in
    let names : length c.names-2.result.now ≡ length c.args.clause.names = ap length c.names-2.ensures.names in
    let register = enough.register in
    let queue = enough.queue in
    let index = enough.index in
    record {
      register = omega (arith, register, c.push.ensures.room);
      queue = omega (arith, queue, long, c.push-then-is_awake.ensures.nodes);
      index = c.add.ensures.room assertions (omega (arith, index, names));
    }

pub returns-else-is_awake-clause-room : goal.returns-else-is_awake-clause-room
returns-else-is_awake-clause-room c = λ clauses assertions enough.
    let long = longer c.args.self.now.register.clauses _ c.push.new.self.clauses c.push.ensures.pushed in
    let names : length c.names-2.result.now ≡ length c.args.clause.names = ap length c.names-2.ensures.names in
    let register = enough.register in
    let queue = enough.queue in
    let index = enough.index in
    record {
      register = omega (arith, register, c.push.ensures.room);
      queue = omega (arith, queue, long);
      index = c.add.ensures.room assertions (omega (arith, index, names));
    }
