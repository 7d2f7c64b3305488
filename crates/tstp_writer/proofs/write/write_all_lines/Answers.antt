use Rattle.std.proofs.Common.{◌<◌, ◌-◌, List, ℕ, length, sym, subst, ap, ◌∙◌}
use Rattle.std.specs.List.{AllByRecursion}
use Rattle.std.proofs.lemmas.Result.{IfOk-weaker}
use Rattle.fol_base.specs.Canonical.{numbers_from}
use Rattle.tstp_writer.specs.Cone.{IsCone}
use Rattle.tstp_writer.specs.Written.{IsWritten, IsAcceptedWhereReadable}
use Rattle.tstp_writer.proofs.AboutPrinted.LayoutLemmas.{all-below_length, all-cone}
use Rattle.tstp_writer.proofs.write.write_all_lines.Goals as goal

pub write_numbered-requires-clause-below : goal.write_numbered-requires-clause-below
write_numbered-requires-clause-below c =
    subst (λ (ns : List ℕ). AllByRecursion (λ n. n < length c.args.lines.now) ns)
    (sym (c.in_ok-numbers.ensures ∙ ap (numbers_from 0) c.len.ensures))
    (all-below_length c.args.lines.now)

pub returns : goal.returns
returns c =
    let last : ℕ = length c.args.lines.now - 1 in
    let cone : IsCone c.args.lines.now last c.in_ok-numbers.numbers =
    subst (λ (ns : List ℕ). IsCone c.args.lines.now last ns) (sym (c.in_ok-numbers.ensures ∙ ap (numbers_from 0) c.len.ensures))
    (all-cone c.args.lines.now c.requires.needed) in
    record {
      written =
          IfOk-weaker c.write_numbered.result
          (λ text. (last : ℕ) → IsCone c.args.lines.now last c.in_ok-numbers.numbers
          → IsWritten c.args.file.now c.args.problem.now.formulas c.args.lines.now last text)
          (IsWritten c.args.file.now c.args.problem.now.formulas c.args.lines.now last)
          (λ text is. is last cone) c.write_numbered.ensures.written;
      accepted =
          IfOk-weaker c.write_numbered.result
          (λ text. (last : ℕ) → IsCone c.args.lines.now last c.in_ok-numbers.numbers
          → IsAcceptedWhereReadable c.args.file.now c.args.problem.now.formulas c.args.lines.now last text)
          (IsAcceptedWhereReadable c.args.file.now c.args.problem.now.formulas c.args.lines.now last)
          (λ text is. is last cone) c.write_numbered.ensures.accepted;
    }
