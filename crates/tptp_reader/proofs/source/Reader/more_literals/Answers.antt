use Rattle.std.proofs.Common.{sym, subst, ◌∙◌}
use Rattle.tptp_tree.specs.Shape.{formula_of}
use Rattle.tptp_reader.specs.Machine.{a_literal, maybe_more_literals}
use Rattle.tptp_reader.specs.Telling.{ReadsLiterals}
use Rattle.tptp_reader.proofs.AboutRuns.LoopLemmas.{passed, first-halts}
use Rattle.tptp_reader.proofs.AboutReads.ClauseReads.{literals-first, literals-more, literals-read, literals-cut_off, literals-halted}
use Rattle.tptp_reader.proofs.source.Reader.more_literals.Goals as goal

pub returns-in_err-second-clause-halted : goal.returns-in_err-second-clause-halted
returns-in_err-second-clause-halted c =
    passed _ _ _ c.from_residual-in_err-second.ensures.1 (first-halts _ a_literal maybe_more_literals _ _ _ _ c.in_err-second.ensures.halted)

pub loop-literals-init : goal.loop-literals-init
loop-literals-init c =
    literals-first _ _ _ _ _ _ _ _ _ _ c.in_ok-second.ensures.read c.new-literals.ensures c.in_ok-push.ensures.ok c.in_ok-push-2.ensures.ok

pub returns-in_err-token-clause-halted : goal.returns-in_err-token-clause-halted
returns-in_err-token-clause-halted c =
    passed _ _ _ c.from_residual-in_err-token.ensures.1
    (literals-cut_off _ _ _ _ _ _ _ _ c.loop-literals.invariant c.in_err-token.ensures.ended)

pub returns-then-not-is_connective-clause-read : goal.returns-then-not-is_connective-clause-read
returns-then-not-is_connective-clause-read c =
    subst (λ fs. ReadsLiterals (formula_of c.args.first) c.args.self.now c.args.bound.now c.args.level c.args.at c.loop-literals.next fs)
    (sym c.fitted_formulas.ensures)
    (literals-read _ _ _ _ _ _ _ _ c.loop-literals.invariant c.in_ok-token.ensures.found
    (sym c.is_connective.ensures ∙ c.if-not-is_connective.true))

pub returns-in_err-literal-clause-halted : goal.returns-in_err-literal-clause-halted
returns-in_err-literal-clause-halted c =
    passed _ _ _ c.from_residual-in_err-literal.ensures.1
    (literals-halted _ _ _ _ _ _ _ _ _ c.loop-literals.invariant c.in_ok-token.ensures.found
    (sym c.is_connective.ensures ∙ c.if-not-is_connective.false) c.in_err-literal.ensures.halted)

pub loop-literals-preserved : goal.loop-literals-preserved
loop-literals-preserved c =
    literals-more _ _ _ _ _ _ _ _ _ _ _ c.loop-literals.invariant c.in_ok-token.ensures.found
    (sym c.is_connective.ensures ∙ c.if-not-is_connective.false) c.in_ok-literal.ensures.read c.in_ok-push-3.ensures.ok
