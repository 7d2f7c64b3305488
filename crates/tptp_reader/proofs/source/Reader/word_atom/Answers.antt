use Rattle.std.proofs.Common.{sym, ◌∙◌}
use Rattle.tptp_reader.proofs.AboutReads.AtomReads.{applied-halted, applied-cut_off, predicate-read, word_equation-read, word_equation-halted}
use Rattle.tptp_reader.proofs.AboutRuns.LoopLemmas.{passed}
use Rattle.tptp_reader.proofs.source.Reader.word_atom.Goals as goal

pub returns-in_err-arguments-clause-halted : goal.returns-in_err-arguments-clause-halted
returns-in_err-arguments-clause-halted c =
    passed _ _ _ c.from_residual-in_err-arguments.ensures.1
    (applied-halted _ _ _ _ _ _ _ c.requires.here c.requires.word c.in_err-arguments.ensures.halted)

pub returns-in_err-sign-clause-halted : goal.returns-in_err-sign-clause-halted
returns-in_err-sign-clause-halted c =
    passed _ _ _ c.from_residual-in_err-sign.ensures.1
    (applied-cut_off _ _ _ _ _ _ _ _ _ c.requires.here c.requires.word c.in_ok-arguments.ensures.read c.in_err-sign.ensures.ended)

pub returns-then-not-is_sign_of_equation-clause-read : goal.returns-then-not-is_sign_of_equation-clause-read
returns-then-not-is_sign_of_equation-clause-read c =
    predicate-read _ _ _ _ _ _ _ _ _ _ c.requires.here c.requires.word c.in_ok-name.ensures c.in_ok-arguments.ensures.read
    c.in_ok-sign.ensures.found (sym c.is_sign_of_equation.ensures ∙ c.if-not-is_sign_of_equation.true)

pub returns-in_err-right-clause-halted : goal.returns-in_err-right-clause-halted
returns-in_err-right-clause-halted c =
    passed _ _ _ c.from_residual-in_err-right.ensures.1
    (word_equation-halted _ _ _ _ _ _ _ _ _ _ c.requires.here c.requires.word c.in_ok-arguments.ensures.read
    c.in_ok-sign.ensures.found (sym c.is_sign_of_equation.ensures ∙ c.if-not-is_sign_of_equation.false) c.in_err-right.ensures.halted)

pub returns-clause-read : goal.returns-clause-read
returns-clause-read c =
    word_equation-read _ _ _ _ _ _ _ _ _ _ _ _ _ _ c.requires.here c.requires.word c.in_ok-name.ensures c.in_ok-arguments.ensures.read
    c.in_ok-sign.ensures.found (sym c.is_sign_of_equation.ensures ∙ c.if-not-is_sign_of_equation.false) (sym c.is_connective.ensures)
    c.in_ok-right.ensures.read c.equation.ensures
