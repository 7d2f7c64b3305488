use Rattle.std.proofs.Common.{ℕ, ◌<◌, List, length, sym, ap, subst, ◌∙◌}
use Rattle.std.specs.List.{AllByRecursion}
use Rattle.tptp_token.specs.Spelling.{is_lower_word}
use Rattle.clausal_form.specs.Form.{form_of}
use Rattle.kernel_steps.specs.declared.step.Line.{Line}
use Rattle.tstp_writer.specs.Cone.{IsCone}
use Rattle.tstp_writer.specs.ReadableLines.{LinesFit}
use Rattle.tstp_writer.specs.Written.{IsWritten}
use Rattle.tstp_writer.proofs.AboutPrinted.AcceptedTexts.{text-accepted}
use Rattle.tstp_writer.proofs.AboutPrinted.ScriptLemmas.{prefix-lower, script_with, script-is, written, numbered}
use Rattle.tstp_writer.proofs.write.write_numbered.Goals as goal

pub lay_out-requires : goal.lay_out-requires
lay_out-requires c =
    subst (λ (ls : List Line). AllByRecursion (λ n. n < length ls) c.args.numbers) (sym c.as_slice-6.ensures) c.requires.below

pub push_lines-requires-clause-lower : goal.push_lines-requires-clause-lower
push_lines-requires-clause-lower c =
    ap is_lower_word (c.as_slice-4.ensures ∙ c.in_ok-prefix.ensures) ∙ prefix-lower c.args.form.now.signature

pub returns : goal.returns
returns c =
    let text : (last : ℕ) → IsCone c.args.lines.now last c.args.numbers
    → IsWritten c.args.file.now c.args.problem.now.formulas c.args.lines.now last c.into_text.result =
    λ last cone.
    written c.args.file.now c.args.problem.now.formulas c.args.lines.now last c.args.numbers
    c.into_text.result c.push_lines.new.page c.new-page.result
    (script_with c.args.file.now c.as_slice.result.now c.as_slice-2.result.now c.as_slice-3.result.now c.as_slice-4.result.now)
    c.in_ok-layout.layout c.as_slice-6.result.now c.as_slice-7.result.now
    cone
    (script-is c.args.file.now c.args.problem.now.formulas c.as_slice.result.now (form_of c.args.form.now)
    c.as_slice-2.result.now c.as_slice-3.result.now c.as_slice-4.result.now
    c.requires.form c.as_slice.ensures c.as_slice-2.ensures c.as_slice-3.ensures (c.as_slice-4.ensures ∙ c.in_ok-prefix.ensures))
    c.as_slice-6.ensures c.as_slice-7.ensures c.in_ok-layout.ensures.layout c.in_ok-layout.ensures.counted
    c.new-page.ensures c.in_ok-push_lines.ensures c.into_text.ensures in
    record {
      written = text;
      accepted =
          λ last cone.
          text-accepted c.args.file.now c.args.problem.now.formulas c.args.lines.now last c.into_text.result
          (numbered c.args.problem.now.formulas c.args.form.now c.requires.form c.prove_counts.ensures.symbols c.prove_counts.ensures.clauses)
          (subst LinesFit c.as_slice-5.ensures c.prove_lines_fit.ensures) (text last cone);
    }
