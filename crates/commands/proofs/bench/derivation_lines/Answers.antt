use Rattle.std.proofs.Common.{List, ℕ, sym, subst}
use Rattle.clausal_form.specs.DerivationTexts.{IsAcceptedDerivation}
use Rattle.tstp_checker.specs.Checking.{IsCheckFault}
use Rattle.commands.proofs.AboutPages.OneAnswer.{refused-not-accepted}
use Rattle.commands.proofs.bench.derivation_lines.Goals as goal

pub derivation_text-requires-clause-numbered : goal.derivation_text-requires-clause-numbered
derivation_text-requires-clause-numbered c = c.requires.inputs

pub unreachable-requires : goal.unreachable-requires
unreachable-requires c =
    refused-not-accepted c.texts_have_one_answer.ensures.at_most_one c.args.formed.now.problem.formulas c.as_slice-text.result.now
    c.in-Err-Refused.field-0-0 c.in-Err-Refused.field-0-1
    (subst (IsCheckFault c.args.formed.now.problem.formulas c.as_slice-text.result.now) c.in-Err-Refused.field-0-is c.in-Err-Refused.ensures.refused)
    c.in_ok-text.ensures.accepted.0
    (subst (λ (x : List ℕ). IsAcceptedDerivation c.args.formed.now.problem.formulas x c.in_ok-text.ensures.accepted.0) (sym c.as_slice-text.ensures)
    c.in_ok-text.ensures.accepted.1)

pub returns-in-Ok : goal.returns-in-Ok
returns-in-Ok c = record {
  text = c.in_ok-text.text;
  written = c.in_ok-text.ensures.written;
  accepted =
      subst (λ (x : List ℕ). IsAcceptedDerivation c.args.formed.now.problem.formulas x c.in-Ok.field-0.lines) c.as_slice-text.ensures
      c.in-Ok.ensures.accepted;
}
