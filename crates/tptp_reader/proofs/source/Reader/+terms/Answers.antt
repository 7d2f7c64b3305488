use Rattle.std.proofs.Common.{◌+◌, sym, ◌∙◌, subst}
use Rattle.tptp_reader.specs.Machine.{a_term, more_arguments}
use Rattle.tptp_reader.specs.Telling.{one, Halts, ReadsBracketed}
use Rattle.tptp_reader.specs.declared.cause.Halt.TheVariants.{At}
use Rattle.tptp_reader.specs.declared.cause.Refusal.{Refusal as ToldRefusal}
use Rattle.tptp_reader.proofs.AboutReads.TermReads.{no_arguments-read, arguments-read, arguments-halted, arguments-too_deep, terms-first, terms-more, terms-closed, terms-refused, terms-cut_off, terms-halted, word-read, word-halted, variable-read, variable-halted, other-halted}
use Rattle.tptp_reader.proofs.AboutRuns.LoopLemmas.{passed, first-halts}
use Rattle.list_lemmas.proofs.Results.{ok-then, err-then}
use Rattle.tptp_reader.proofs.source.Reader.+terms.Goals as goal

pub arguments-returns-then-not-is_mark-clause-read : goal.arguments-returns-then-not-is_mark-clause-read
arguments-returns-then-not-is_mark-clause-read t c =
    no_arguments-read _ _ _ _ _ _ c.in_ok-token.ensures.found (sym c.is_mark.ensures ∙ c.if-not-is_mark.true) c.new.ensures

pub arguments-returns-in_err-level-clause-halted : goal.arguments-returns-in_err-level-clause-halted
arguments-returns-in_err-level-clause-halted t c =
    passed _ _ _ c.from_residual-in_err-level.ensures.1
    (arguments-too_deep _ _ _ _ _ _ c.in_ok-token.ensures.found (sym c.is_mark.ensures ∙ c.if-not-is_mark.false)
    c.in_err-level.ensures.refused.0 c.in_err-level.ensures.refused.1)

pub arguments-returns-clause-read : goal.arguments-returns-clause-read
arguments-returns-clause-read t c =
    ok-then _ _ _
    (λ read h. arguments-read _ _ _ _ _ _ _ _ c.in_ok-token.ensures.found (sym c.is_mark.ensures ∙ c.if-not-is_mark.false)
    c.in_ok-level.ensures.ok.0 c.in_ok-level.ensures.ok.1 h)
    c.bracketed.ensures.read

pub arguments-returns-clause-halted : goal.arguments-returns-clause-halted
arguments-returns-clause-halted t c =
    err-then _ _ _
    (λ halt h. arguments-halted _ _ _ _ _ _ _ c.in_ok-token.ensures.found (sym c.is_mark.ensures ∙ c.if-not-is_mark.false)
    c.in_ok-level.ensures.ok.0 c.in_ok-level.ensures.ok.1 h)
    c.bracketed.ensures.halted

pub bracketed-returns-in_err-first-clause-halted : goal.bracketed-returns-in_err-first-clause-halted
bracketed-returns-in_err-first-clause-halted t c =
    passed _ _ _ c.from_residual.ensures.1 (first-halts _ a_term more_arguments _ _ _ _ c.in_err-first.ensures.halted)

pub bracketed-loop-terms-init : goal.bracketed-loop-terms-init
bracketed-loop-terms-init t c = terms-first _ _ _ _ _ _ _ _ c.in_ok-first.ensures.read c.new-terms.ensures c.in_ok-push.ensures.ok

pub bracketed-returns-in_err-token-clause-halted : goal.bracketed-returns-in_err-token-clause-halted
bracketed-returns-in_err-token-clause-halted t c =
    passed _ _ _ c.from_residual-in_err-token.ensures.1
    (terms-cut_off _ _ _ _ _ _ _ c.loop-terms.invariant c.in_err-token.ensures.ended)

pub bracketed-returns-then-is_mark-clause-read : goal.bracketed-returns-then-is_mark-clause-read
bracketed-returns-then-is_mark-clause-read t c =
    subst (λ ts. ReadsBracketed c.args.self.now c.args.bound.now c.args.level c.args.at (c.loop-terms.next + 1) ts) (sym c.fitted_terms.ensures)
    (terms-closed _ _ _ _ _ _ _ c.loop-terms.invariant c.in_ok-token.ensures.found (sym c.is_mark.ensures ∙ c.if-is_mark.true))

pub bracketed-returns-then-not-is_mark-clause-halted : goal.bracketed-returns-then-not-is_mark-clause-halted
bracketed-returns-then-not-is_mark-clause-halted t c =
    terms-refused _ _ _ _ _ _ _ c.loop-terms.invariant c.in_ok-token.ensures.found (sym c.is_mark.ensures ∙ c.if-is_mark.false)
    (sym c.is_mark-in-loop-terms.ensures ∙ c.if-not-is_mark.true)

pub bracketed-returns-in_err-term-clause-halted : goal.bracketed-returns-in_err-term-clause-halted
bracketed-returns-in_err-term-clause-halted t c =
    passed _ _ _ c.from_residual-in_err-term.ensures.1
    (terms-halted _ _ _ _ _ _ _ _ c.loop-terms.invariant c.in_ok-token.ensures.found
    (sym c.is_mark-in-loop-terms.ensures ∙ c.if-not-is_mark.false) c.in_err-term.ensures.halted)

pub bracketed-loop-terms-preserved : goal.bracketed-loop-terms-preserved
bracketed-loop-terms-preserved t c =
    terms-more _ _ _ _ _ _ _ _ _ _ c.loop-terms.invariant c.in_ok-token.ensures.found
    (sym c.is_mark-in-loop-terms.ensures ∙ c.if-not-is_mark.false) c.in_ok-term.ensures.read c.in_ok-push-2.ensures.ok

pub term-returns-in_err-arguments-clause-halted : goal.term-returns-in_err-arguments-clause-halted
term-returns-in_err-arguments-clause-halted t c =
    passed _ _ _ c.from_residual-in_err-arguments.ensures.1
    (word-halted _ _ _ _ _ _ c.in_ok-token.ensures.found (sym c.is_word.ensures ∙ c.if-is_word.true) c.in_err-arguments.ensures.halted)

pub term-returns-then-is_word-clause-read : goal.term-returns-then-is_word-clause-read
term-returns-then-is_word-clause-read t c =
    word-read _ _ _ _ _ _ _ _ c.in_ok-token.ensures.found (sym c.is_word.ensures ∙ c.if-is_word.true) c.in_ok-name.ensures
    c.in_ok-arguments.ensures.read

pub term-returns-then-not-is_variable-clause-halted : goal.term-returns-then-not-is_variable-clause-halted
term-returns-then-not-is_variable-clause-halted t c =
    subst (λ (f : ToldRefusal). Halts c.args.self.now (one a_term) c.args.bound.now c.args.level c.args.at (At f c.args.at))
    (sym c.refusal_as_term.ensures)
    (other-halted _ _ _ _ _ c.in_ok-token.ensures.found (sym c.is_word.ensures ∙ c.if-is_word.false)
    (sym c.is_variable.ensures ∙ c.if-not-is_variable.true))

pub term-returns-then-is_free-clause-halted : goal.term-returns-then-is_free-clause-halted
term-returns-then-is_free-clause-halted t c =
    variable-halted _ _ _ _ _ c.in_ok-token.ensures.found (sym c.is_variable.ensures ∙ c.if-not-is_variable.false)
    (sym c.is_free.ensures ∙ c.if-is_free.true)

pub term-returns-clause-read : goal.term-returns-clause-read
term-returns-clause-read t c =
    variable-read _ _ _ _ _ _ c.in_ok-token.ensures.found (sym c.is_variable.ensures ∙ c.if-not-is_variable.false)
    (sym c.is_free.ensures ∙ c.if-is_free.false) c.in_ok-from_slice.ensures
