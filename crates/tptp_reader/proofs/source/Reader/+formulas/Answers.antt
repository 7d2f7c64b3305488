use Rattle.std.proofs.Common.{refl, sym, ap, take, subst, ◌∙◌}
use Rattle.tptp_tree.specs.Formula.{connected}
use Rattle.tptp_tree.specs.Shape.{formula_of}
use Rattle.tptp_reader.specs.Machine.{a_unit, maybe_more_units}
use Rattle.tptp_reader.specs.Telling.{ReadsUnits, binary_of}
use Rattle.tptp_reader.proofs.AboutRuns.LoopLemmas.{passed, first-halts, kept-reads, kept-halts}
use Rattle.tptp_reader.proofs.AboutSteps.FormulaSteps.{quantifier-is}
use Rattle.tptp_reader.proofs.AboutReads.FormulaReads.{negation-read, negation-halted, negation-too_deep, quantifier-read, quantifier-halted, quantifier-too_deep, brackets-too_deep, brackets-halted, brackets-open, brackets-read, atom_unit-read, atom_unit-halted, units-first, units-more, units-read, units-cut_off, units-halted, unit_first-halted, formula-cut_off, alone-read, conjunction-read, conjunction-halted, disjunction-read, disjunction-halted, connected-read, connected-halted}
use Rattle.tptp_reader.proofs.AboutReads.VariableReads.{bound-read, colon-halted, bound_unit-halted, cut_back}
use Rattle.tptp_reader.proofs.source.Reader.+formulas.Goals as goal

-- ---- formula

pub formula-returns-in_err-after-clause-halted : goal.formula-returns-in_err-after-clause-halted
formula-returns-in_err-after-clause-halted t c =
    passed _ _ _ c.from_residual.ensures.1 (unit_first-halted _ _ _ _ _ c.in_err-after.ensures.halted)

-- ---- after_unit

pub after_unit-returns-in_err-sign-clause-halted : goal.after_unit-returns-in_err-sign-clause-halted
after_unit-returns-in_err-sign-clause-halted t c =
    passed _ _ _ c.from_residual.ensures.1
    (formula-cut_off _ _ _ _ _ _ _ c.requires c.in_err-sign.ensures.ended)

pub after_unit-returns-in_err-all-clause-halted : goal.after_unit-returns-in_err-all-clause-halted
after_unit-returns-in_err-all-clause-halted t c =
    passed _ _ _ c.from_residual-in_err-all.ensures.1
    (conjunction-halted _ _ _ _ _ _ _ _ c.requires c.in_ok-sign.ensures.found
    (sym c.is_connective.ensures ∙ c.if-is_connective.true)
    c.in_err-all.ensures.halted)

pub after_unit-returns-then-is_connective-clause-read : goal.after_unit-returns-then-is_connective-clause-read
after_unit-returns-then-is_connective-clause-read t c =
    conjunction-read _ _ _ _ _ _ _ _ _ _ c.requires c.in_ok-sign.ensures.found
    (sym c.is_connective.ensures ∙ c.if-is_connective.true)
    c.in_ok-all.ensures.read c.conjoin.ensures

pub after_unit-returns-in_err-some-clause-halted : goal.after_unit-returns-in_err-some-clause-halted
after_unit-returns-in_err-some-clause-halted t c =
    passed _ _ _ c.from_residual-in_err-some.ensures.1
    (disjunction-halted _ _ _ _ _ _ _ _ c.requires c.in_ok-sign.ensures.found
    (sym c.is_connective-2.ensures ∙ c.if-is_connective-2.true)
    c.in_err-some.ensures.halted)

pub after_unit-returns-then-is_connective-2-clause-read : goal.after_unit-returns-then-is_connective-2-clause-read
after_unit-returns-then-is_connective-2-clause-read t c =
    disjunction-read _ _ _ _ _ _ _ _ _ _ c.requires c.in_ok-sign.ensures.found
    (sym c.is_connective-2.ensures ∙ c.if-is_connective-2.true)
    c.in_ok-some.ensures.read c.disjoin.ensures

pub after_unit-returns-in-None-clause-read : goal.after_unit-returns-in-None-clause-read
after_unit-returns-in-None-clause-read t c =
    alone-read _ _ _ _ _ _ _ c.requires c.in_ok-sign.ensures.found
    (sym c.is_connective.ensures ∙ c.if-is_connective.false) (sym c.is_connective-2.ensures ∙ c.if-is_connective-2.false)
    c.in-None.ensures.none

pub after_unit-returns-in_err-end-in-Some-clause-halted : goal.after_unit-returns-in_err-end-in-Some-clause-halted
after_unit-returns-in_err-end-in-Some-clause-halted t c =
    passed _ _ _ c.from_residual-in_err-end-in-Some.ensures.1
    (connected-halted _ _ _ _ _ _ _ _ _ c.requires c.in_ok-sign.ensures.found c.in-Some.ensures.found
    c.in_err-end-in-Some.ensures.halted)

pub after_unit-returns-in_ok-connect-in-Some-clause-read : goal.after_unit-returns-in_ok-connect-in-Some-clause-read
after_unit-returns-in_ok-connect-in-Some-clause-read t c =
    connected-read _ _ _ _ _ _ _ _ _ _ _ c.requires c.in_ok-sign.ensures.found c.in-Some.ensures.found
    c.in_ok-end-in-Some.ensures.read
    (c.in_ok-connect-in-Some.ensures ∙ ap (λ left. connected (binary_of c.in-Some.connective) left (formula_of c.unit.new.read)) c.in_ok-left-in-Some.ensures)

-- ---- operands

pub operands-returns-in_err-next-clause-halted : goal.operands-returns-in_err-next-clause-halted
operands-returns-in_err-next-clause-halted t c =
    passed _ _ _ c.from_residual-in_err-next.ensures.1
    (first-halts _ a_unit (maybe_more_units c.args.sign.now) _ _ _ _ c.in_err-next.ensures.halted)

pub operands-loop-operands-init : goal.operands-loop-operands-init
operands-loop-operands-init t c =
    record {
      read =
          units-first _ _ _ _ _ _ _ _ _ _ _ c.in_ok-next.ensures.read c.new-operands.ensures c.in_ok-push_read.ensures
          c.in_ok-push_read-2.ensures;
      kept = c.in_ok-next.ensures.kept;
    }

pub operands-returns-in_err-token-clause-halted : goal.operands-returns-in_err-token-clause-halted
operands-returns-in_err-token-clause-halted t c =
    passed _ _ _ c.from_residual-in_err-token.ensures.1
    (units-cut_off _ _ _ _ _ _ _ _ _ c.loop-operands.invariant.read c.in_err-token.ensures.ended)

pub operands-returns-then-not-is_connective-clause-read : goal.operands-returns-then-not-is_connective-clause-read
operands-returns-then-not-is_connective-clause-read t c =
    subst
    (λ fs. ReadsUnits c.args.sign.now (formula_of c.args.read.now) c.args.self.now c.args.bound.now c.args.level c.args.at c.loop-operands.next fs)
    (sym c.fitted_formulas.ensures)
    (units-read _ _ _ _ _ _ _ _ _ c.loop-operands.invariant.read c.in_ok-token.ensures.found
    (sym c.is_connective.ensures ∙ c.if-not-is_connective.true))

pub operands-returns-in_err-after-clause-halted : goal.operands-returns-in_err-after-clause-halted
operands-returns-in_err-after-clause-halted t c =
    passed _ _ _ c.from_residual-in_err-after.ensures.1
    (units-halted _ _ _ _ _ _ _ _ _ _ c.loop-operands.invariant.read c.in_ok-token.ensures.found
    (sym c.is_connective.ensures ∙ c.if-not-is_connective.false)
    (kept-halts _ _ _ _ _ _ _ c.loop-operands.invariant.kept c.in_err-after.ensures.halted))

pub operands-loop-operands-preserved : goal.operands-loop-operands-preserved
operands-loop-operands-preserved t c =
    record {
      read =
          units-more _ _ _ _ _ _ _ _ _ _ _ _ c.loop-operands.invariant.read c.in_ok-token.ensures.found
          (sym c.is_connective.ensures ∙ c.if-not-is_connective.false)
          (kept-reads _ _ _ _ _ _ _ _ _ _ c.loop-operands.invariant.kept c.in_ok-after.ensures.read) c.in_ok-push_read-3.ensures;
      kept = c.in_ok-after.ensures.kept ∙ c.loop-operands.invariant.kept;
    }

-- ---- unit

pub unit-returns-in_err-scope-clause-halted : goal.unit-returns-in_err-scope-clause-halted
unit-returns-in_err-scope-clause-halted t c =
    passed _ _ _ c.from_residual-in_err-scope.ensures.1
    (quantifier-too_deep _ _ _ _ _ _ _ c.in_ok-token.ensures.found
    (quantifier-is _ _ (sym c.is_quantifier.ensures ∙ c.if-is_quantifier.true) refl)
    c.in_err-scope.ensures.refused.0 c.in_err-scope.ensures.refused.1)

pub unit-returns-in_err-end-clause-halted : goal.unit-returns-in_err-end-clause-halted
unit-returns-in_err-end-clause-halted t c =
    passed _ _ _ c.from_residual-in_err-end.ensures.1
    (quantifier-halted _ _ _ _ _ _ _ _ c.in_ok-token.ensures.found
    (quantifier-is _ _ (sym c.is_quantifier.ensures ∙ c.if-is_quantifier.true) c.is_connective-for_all.ensures)
    c.in_ok-scope.ensures.ok.0 c.in_ok-scope.ensures.ok.1 c.in_err-end.ensures.halted)

pub unit-returns-then-is_quantifier-clause-read : goal.unit-returns-then-is_quantifier-clause-read
unit-returns-then-is_quantifier-clause-read t c =
    quantifier-read _ _ _ _ _ _ _ _ _ c.in_ok-token.ensures.found
    (quantifier-is _ _ (sym c.is_quantifier.ensures ∙ c.if-is_quantifier.true) c.is_connective-for_all.ensures)
    c.in_ok-scope.ensures.ok.0 c.in_ok-scope.ensures.ok.1 c.in_ok-end.ensures.read

pub unit-returns-in_err-last-clause-halted : goal.unit-returns-in_err-last-clause-halted
unit-returns-in_err-last-clause-halted t c =
    passed _ _ _ c.from_residual-in_err-last.ensures.1
    (atom_unit-halted _ _ _ _ _ _ c.in_ok-token.ensures.found (sym c.is_connective.ensures ∙ c.if-is_connective.false)
    (sym c.is_quantifier.ensures ∙ c.if-is_quantifier.false) (sym c.is_mark.ensures ∙ c.if-is_mark.false)
    c.in_err-last.ensures.halted)

pub unit-returns-clause-read : goal.unit-returns-clause-read
unit-returns-clause-read t c =
    atom_unit-read _ _ _ _ _ _ _ c.in_ok-token.ensures.found (sym c.is_connective.ensures ∙ c.if-is_connective.false)
    (sym c.is_quantifier.ensures ∙ c.if-is_quantifier.false) (sym c.is_mark.ensures ∙ c.if-is_mark.false)
    c.in_ok-last.ensures.read

-- ---- negated

pub negated-returns-in_err-under-clause-halted : goal.negated-returns-in_err-under-clause-halted
negated-returns-in_err-under-clause-halted t c =
    passed _ _ _ c.from_residual.ensures.1
    (negation-too_deep _ _ _ _ _ _ c.requires refl
    c.in_err-under.ensures.refused.0 c.in_err-under.ensures.refused.1)

pub negated-returns-in_err-next-clause-halted : goal.negated-returns-in_err-next-clause-halted
negated-returns-in_err-next-clause-halted t c =
    passed _ _ _ c.from_residual-in_err-next.ensures.1
    (negation-halted _ _ _ _ _ _ _ c.requires refl
    c.in_ok-under.ensures.ok.0 c.in_ok-under.ensures.ok.1 c.in_err-next.ensures.halted)

pub negated-returns-clause-read : goal.negated-returns-clause-read
negated-returns-clause-read t c =
    negation-read _ _ _ _ _ _ _ _ _ c.requires refl
    c.in_ok-under.ensures.ok.0 c.in_ok-under.ensures.ok.1 c.in_ok-next.ensures.read c.in_ok-negate.ensures

-- ---- in_brackets

pub in_brackets-returns-in_err-inside-clause-halted : goal.in_brackets-returns-in_err-inside-clause-halted
in_brackets-returns-in_err-inside-clause-halted t c =
    passed _ _ _ c.from_residual.ensures.1
    (brackets-too_deep _ _ _ _ _ _ c.requires refl
    c.in_err-inside.ensures.refused.0 c.in_err-inside.ensures.refused.1)

pub in_brackets-returns-in_err-close-clause-halted : goal.in_brackets-returns-in_err-close-clause-halted
in_brackets-returns-in_err-close-clause-halted t c =
    passed _ _ _ c.from_residual-in_err-close.ensures.1
    (brackets-halted _ _ _ _ _ _ _ c.requires refl
    c.in_ok-inside.ensures.ok.0 c.in_ok-inside.ensures.ok.1 c.in_err-close.ensures.halted)

pub in_brackets-returns-in_err-behind-clause-halted : goal.in_brackets-returns-in_err-behind-clause-halted
in_brackets-returns-in_err-behind-clause-halted t c =
    passed _ _ _ c.from_residual-in_err-behind.ensures.1
    (brackets-open _ _ _ _ _ _ _ _ _ c.requires refl
    c.in_ok-inside.ensures.ok.0 c.in_ok-inside.ensures.ok.1 c.in_ok-close.ensures.read c.in_err-behind.ensures.ends)

pub in_brackets-returns-clause-read : goal.in_brackets-returns-clause-read
in_brackets-returns-clause-read t c =
    brackets-read _ _ _ _ _ _ _ _ _ c.requires refl
    c.in_ok-inside.ensures.ok.0 c.in_ok-inside.ensures.ok.1 c.in_ok-close.ensures.read
    c.in_ok-behind.ensures.found.0 c.in_ok-behind.ensures.found.1 c.in_ok-behind.ensures.leads

-- ---- quantified

pub quantified-returns-in_err-colon-clause-halted : goal.quantified-returns-in_err-colon-clause-halted
quantified-returns-in_err-colon-clause-halted t c =
    passed _ _ _ c.from_residual-in_err-colon.ensures.1
    (colon-halted _ _ _ _ _ _ _ c.in_ok-variables.ensures.read c.in_err-colon.ensures.ends)

pub quantified-returns-in_err-end-clause-halted : goal.quantified-returns-in_err-end-clause-halted
quantified-returns-in_err-end-clause-halted t c =
    passed _ _ _ c.from_residual-in_err-end.ensures.1
    (bound_unit-halted _ _ _ _ _ _ _ _ _ c.in_ok-variables.ensures.read c.in_ok-variables.ensures.binds
    c.in_ok-colon.ensures.leads c.in_err-end.ensures.halted)

pub quantified-returns-clause-read : goal.quantified-returns-clause-read
quantified-returns-clause-read t c =
    bound-read _ _ _ _ _ _ _ _ _ _ _ _ _ c.in_ok-variables.ensures.read c.in_ok-variables.ensures.binds
    c.in_ok-colon.ensures.found.0 c.in_ok-colon.ensures.found.1 c.in_ok-colon.ensures.leads c.in_ok-end.ensures.read
    refl c.in_ok-quantify.ensures

pub quantified-returns-clause-kept : goal.quantified-returns-clause-kept
quantified-returns-clause-kept t c =
    c.truncate.ensures
    ∙ ap (λ n. take n c.unit.new.bound) c.len-outer.ensures
    ∙ cut_back _ _ _ _ c.in_ok-variables.ensures.binds c.in_ok-end.ensures.kept
