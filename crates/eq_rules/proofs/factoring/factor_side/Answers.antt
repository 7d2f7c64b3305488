use Rattle.std.proofs.Common.{◌≡◌, ℕ, ◌+◌, ◌*◌, List, length, arith, ap, sym, ◌∙◌, subst, inl, inr}
use Rattle.std.proofs.lemmas.List.{length-map}
use Rattle.term_bank.specs.Literal.{literal_at}
use Rattle.term_bank.specs.declared.literal.BankLit.{BankLit}
use Rattle.bank_clause.specs.Clause.{clause_at}
use Rattle.eq_rules.specs.Factoring.{AreFactoringsBefore, factors_before, number_of}
use Rattle.eq_rules.specs.Inferences.{AreInferences, alone, is_enough}
use Rattle.eq_rules.proofs.AboutFactoring.FactoringLists.{factorings-skip, factorings-row}
use Rattle.eq_rules.proofs.AboutFactoring.FactorRefused.{side_unfactored}
use Rattle.eq_rules.proofs.AboutConclusions.MadeLemmas.{alone_there}
use Rattle.eq_rules.proofs.factoring.factor_side.Goals as goal

pub returns-then-not-may_become : goal.returns-then-not-may_become
returns-then-not-may_become c mode none before =
    inl (λ usage used.
    let p = usage.is_predicate in
    let m = c.args.given.now in
    let side = c.side_at-becomes.result in
    let es = c.args.found.now.items in
    subst (λ (k : ℕ). AreInferences p mode (alone m) (factors_before (k + 1) 0) es) c.side_at-becomes.ensures
    (factorings-skip p mode m side es
    (λ j z e it.
    side_unfactored p mode (alone m) m.number (clause_at m.clause) (alone_there m) side.literal side.side j z none (sym c.if-not-may_become.ensures) e it)
    (subst (λ (k : ℕ). AreInferences p mode (alone m) (factors_before k 0) es) (sym c.side_at-becomes.ensures) (before usage used))))

pub loop-other-preserved : goal.loop-other-preserved
loop-other-preserved c mode none before =
    let m = c.args.given.now in
    let becomes = c.side_at-becomes.result in
    let other = c.side_at.result in
    let es = c.loop-other.found.items in
    let now : AreFactoringsBefore mode m (number_of becomes) (number_of other) es =
    subst (λ (k : ℕ). AreFactoringsBefore mode m (number_of becomes) k es) (sym c.side_at.ensures)
    (subst (λ (k : ℕ). AreFactoringsBefore mode m k c.loop-other.other es) (sym c.side_at-becomes.ensures) (c.loop-other.invariant mode none before)) in
    subst (λ (k : ℕ). AreFactoringsBefore mode m c.args.number (k + 1) c.factor_place.new.found.items) c.side_at.ensures
    (subst (λ (k : ℕ). AreFactoringsBefore mode m k (number_of other + 1) c.factor_place.new.found.items) c.side_at-becomes.ensures
    (c.in_ok-factor_place.ensures mode none now))

-- those up to this pair are enough
pub returns-then-is_enough : goal.returns-then-is_enough
returns-then-is_enough c mode none before =
    let m = c.args.given.now in
    let becomes = c.side_at-becomes.result in
    let other = c.side_at.result in
    let es = c.loop-other.found.items in
    let now : AreFactoringsBefore mode m (number_of becomes) (number_of other) es =
    subst (λ (k : ℕ). AreFactoringsBefore mode m (number_of becomes) k es) (sym c.side_at.ensures)
    (subst (λ (k : ℕ). AreFactoringsBefore mode m k c.loop-other.other es) (sym c.side_at-becomes.ensures) (c.loop-other.invariant mode none before)) in
    inr (
      number_of other + 1,
      ap (is_enough c.args.most) (sym (c.len.ensures ∙ c.factor_place.new.found.ok.0)) ∙ sym c.is_enough.ensures ∙ c.if-is_enough.true,
      subst (λ (k : ℕ). AreFactoringsBefore mode m k (number_of other + 1) c.factor_place.new.found.items) c.side_at-becomes.ensures
          (c.in_ok-factor_place.ensures mode none now),
    )

pub returns : goal.returns
returns c mode none before =
    inl (λ usage used.
    let m = c.args.given.now in
    let read : length c.literals.result.now ≡ length m.clause.literals = ap (λ (ls : List BankLit). length ls) c.literals.ensures.literals in
    let many : c.loop-other.other ≡ 2 * length (clause_at m.clause).literals =
    omega (arith, read, length-map m.clause.literals literal_at, c.loop-other-test.false, c.loop-other.auto.other-end) in
    factorings-row usage.is_predicate mode m c.args.number c.loop-other.other c.loop-other.found.items many (c.loop-other.invariant mode none before usage used))
