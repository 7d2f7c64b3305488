use Rattle.std.proofs.Common.{List, ℕ, Option, ap, sym, ◌∙◌, subst}
use Rattle.std.specs.Option.{option_copied}
use Rattle.signature.specs.Form.{ClausalForm}
use Rattle.tstp_writer.specs.Printable.{IsShown}
use Rattle.command_reports.specs.Parts.{AreNumbered}
use Rattle.commands.proofs.AboutPages.TextLemmas.{file-shown}
use Rattle.commands.proofs.derivation.derivation_text.Goals as goal

pub write_refutation-requires-clause-inputs : goal.write_refutation-requires-clause-inputs
write_refutation-requires-clause-inputs c =
    ap (λ (f : ClausalForm). f.clauses) c.requires.form
    ∙ sym
    (subst (λ (ns : Option (List ℕ)). AreNumbered c.args.formed.now.problem.formulas c.args.pool.now.origin.inputs ns)
    (ap option_copied c.in-None.is) c.requires.numbered)

pub write_refutation-requires-clause-file : goal.write_refutation-requires-clause-file
write_refutation-requires-clause-file c =
    subst IsShown (sym (c.as_slice-name.ensures ∙ c.in_ok-name.ensures)) (file-shown c.args.file.now c.requires.filled)

pub part_derivation_text-requires-clause-numbered : goal.part_derivation_text-requires-clause-numbered
part_derivation_text-requires-clause-numbered c =
    subst (λ (ns : Option (List ℕ)). AreNumbered c.args.formed.now.problem.formulas c.args.pool.now.origin.inputs ns)
    (ap option_copied c.in-Some.is) c.requires.numbered

pub part_derivation_text-requires-clause-shown : goal.part_derivation_text-requires-clause-shown
part_derivation_text-requires-clause-shown c =
    subst IsShown (sym (c.as_slice-name.ensures ∙ c.in_ok-name.ensures)) (file-shown c.args.file.now c.requires.filled)
