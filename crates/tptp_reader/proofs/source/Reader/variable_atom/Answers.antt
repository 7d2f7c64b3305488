use Rattle.std.proofs.Common.{sym, ◌∙◌}
use Rattle.tptp_reader.proofs.AboutReads.AtomReads.{variable_free-halted, variable_cut-halted, variable_alone-halted, variable_equation-read, variable_equation-halted}
use Rattle.tptp_reader.proofs.AboutRuns.LoopLemmas.{passed}
use Rattle.tptp_reader.proofs.source.Reader.variable_atom.Goals as goal

pub returns-then-is_free-clause-halted : goal.returns-then-is_free-clause-halted
returns-then-is_free-clause-halted c =
    variable_free-halted _ _ _ _ _ _ c.requires.here c.requires.variable (sym c.is_free.ensures ∙ c.if-is_free.true)

pub returns-in_err-sign-clause-halted : goal.returns-in_err-sign-clause-halted
returns-in_err-sign-clause-halted c =
    passed _ _ _ c.from_residual-in_err-sign.ensures.1
    (variable_cut-halted _ _ _ _ _ _ _ c.requires.here c.requires.variable (sym c.is_free.ensures ∙ c.if-is_free.false)
    c.in_err-sign.ensures.ended)

pub returns-then-not-is_sign_of_equation-clause-halted : goal.returns-then-not-is_sign_of_equation-clause-halted
returns-then-not-is_sign_of_equation-clause-halted c =
    variable_alone-halted _ _ _ _ _ _ _ c.requires.here c.requires.variable (sym c.is_free.ensures ∙ c.if-is_free.false)
    c.in_ok-sign.ensures.found (sym c.is_sign_of_equation.ensures ∙ c.if-not-is_sign_of_equation.true)

pub returns-in_err-right-clause-halted : goal.returns-in_err-right-clause-halted
returns-in_err-right-clause-halted c =
    passed _ _ _ c.from_residual-in_err-right.ensures.1
    (variable_equation-halted _ _ _ _ _ _ _ _ c.requires.here c.requires.variable (sym c.is_free.ensures ∙ c.if-is_free.false)
    c.in_ok-sign.ensures.found (sym c.is_sign_of_equation.ensures ∙ c.if-not-is_sign_of_equation.false) c.in_err-right.ensures.halted)

pub returns-clause-read : goal.returns-clause-read
returns-clause-read c =
    variable_equation-read _ _ _ _ _ _ _ _ _ _ _ _ c.requires.here c.requires.variable (sym c.is_free.ensures ∙ c.if-is_free.false)
    c.in_ok-from_slice.ensures
    c.in_ok-sign.ensures.found (sym c.is_sign_of_equation.ensures ∙ c.if-not-is_sign_of_equation.false) (sym c.is_connective.ensures)
    c.in_ok-right.ensures.read c.equation.ensures
