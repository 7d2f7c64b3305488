use Rattle.std.proofs.Common.{sym, ◌∙◌, subst}
use Rattle.tptp_reader.specs.Machine.{an_atom}
use Rattle.tptp_reader.specs.Telling.{one, Halts}
use Rattle.tptp_reader.specs.declared.cause.Halt.TheVariants.{At}
use Rattle.tptp_reader.specs.declared.cause.Refusal.{Refusal as ToldRefusal}
use Rattle.tptp_reader.proofs.AboutReads.AtomReads.{true-read, false-read, no_atom-halted}
use Rattle.tptp_reader.proofs.source.Reader.atom.Goals as goal

pub returns-then-is_exactly-clause-read : goal.returns-then-is_exactly-clause-read
returns-then-is_exactly-clause-read c = true-read _ _ _ _ _ _ c.in_ok-token.ensures.found (sym c.is_exactly.ensures ∙ c.if-is_exactly.true)

pub returns-then-is_exactly-2-clause-read : goal.returns-then-is_exactly-2-clause-read
returns-then-is_exactly-2-clause-read c = false-read _ _ _ _ _ _ c.in_ok-token.ensures.found (sym c.is_exactly-2.ensures ∙ c.if-is_exactly-2.true)

pub returns-clause-halted : goal.returns-clause-halted
returns-clause-halted c =
    subst (λ (f : ToldRefusal). Halts c.args.self.now (one (an_atom c.args.may_differ)) c.args.bound.now c.args.level c.args.at (At f c.args.at))
    (sym c.refusal_as_term.ensures)
    (no_atom-halted _ _ _ _ _ _ c.in_ok-token.ensures.found (sym c.is_word.ensures ∙ c.if-is_word.false)
    (sym c.is_variable.ensures ∙ c.if-is_variable.false) (sym c.is_exactly.ensures ∙ c.if-is_exactly.false)
    (sym c.is_exactly-2.ensures ∙ c.if-is_exactly-2.false))
