use Rattle.std.proofs.Common.{refl}
use Rattle.tptp_reader.proofs.AboutRuns.LoopLemmas.{passed}
use Rattle.tptp_reader.proofs.AboutReads.EntryReads.{formula_body-read, formula_body-halted, clause_body-read, clause_body-halted}
use Rattle.tptp_reader.proofs.source.Reader.body.Goals as goal

pub returns-in_err-plain-clause-halted : goal.returns-in_err-plain-clause-halted
returns-in_err-plain-clause-halted c =
    passed _ _ _ c.from_residual.ensures.1
    (clause_body-halted _ _ _ _ _ _ refl refl refl c.if-clause.true c.in_err-plain.ensures.halted)

pub returns-then-clause-clause-read : goal.returns-then-clause-clause-read
returns-then-clause-clause-read c =
    clause_body-read _ _ _ _ _ _ _ refl refl refl c.if-clause.true c.in_ok-plain.ensures.read

pub returns-in_err-next-clause-halted : goal.returns-in_err-next-clause-halted
returns-in_err-next-clause-halted c =
    passed _ _ _ c.from_residual-in_err-next.ensures.1
    (formula_body-halted _ _ _ _ _ _ refl refl refl c.if-clause.false c.new-bound.ensures c.in_err-next.ensures.halted)

pub returns-clause-read : goal.returns-clause-read
returns-clause-read c =
    formula_body-read _ _ _ _ _ _ _ refl refl refl c.if-clause.false c.new-bound.ensures c.in_ok-next.ensures.read
