use Rattle.std.proofs.Common.{refl, sym, ◌∙◌, subst}
use Rattle.tptp_reader.specs.Annotating.{IsFaultOf}
use Rattle.tptp_reader.specs.declared.cause.ReadFault.{ReadFault}
use Rattle.tptp_tree.specs.declared.limits.TheConstants.{MOST_NESTING}
use Rattle.tptp_problem.specs.Formulas.{annotated_formulas}
use Rattle.tptp_problem.proofs.AboutReading.AnnotatedLemmas.{formula-read, fault-there, fault-no-load}
use Rattle.tptp_problem.proofs.AboutReading.FaultLemmas.{file-fault-then}
use Rattle.tptp_problem.proofs.AboutReading.OnwardLemmas.{reading-onward}
use Rattle.tptp_problem.proofs.annotated.AnnotatedEntry.read.Goals as goal

pub returns-clause-read : goal.returns-clause-read
returns-clause-read c =
    formula-read c.args.file.now c.args.bytes.now c.args.lexed.now c.args.first c.in-Ok.read _ c.requires.lexed c.in-Ok.ensures.read refl
    c.in_ok-formula-in-Ok.ensures refl

pub returns-clause-onward : goal.returns-clause-onward
returns-clause-onward c = reading-onward _ _ _ _ _ c.in-Ok.ensures.read

pub returns-in-Err-At-clause-fault : goal.returns-in-Err-At-clause-fault
returns-in-Err-At-clause-fault c =
    let told =
    subst (λ (x : ReadFault). IsFaultOf MOST_NESTING c.args.bytes.now c.args.lexed.now c.args.first x) c.in-Err-At.field-0-is c.in-Err-At.ensures.fault in
    file-fault-then annotated_formulas _ _ c.at.result
    (λ k f p h.
    (h.1 ∙ c.as_slice.ensures, fault-there c.args.bytes.now c.args.lexed.now c.args.first c.in-Err-At.cause k c.in-Err-At.place p c.requires.lexed told.1 h.0 h.2))
    c.at.ensures

pub returns-in-Err-At-clause-no_load : goal.returns-in-Err-At-clause-no_load
returns-in-Err-At-clause-no_load c =
    let told =
    subst (λ (x : ReadFault). IsFaultOf MOST_NESTING c.args.bytes.now c.args.lexed.now c.args.first x) c.in-Err-At.field-0-is c.in-Err-At.ensures.fault in
    file-fault-then annotated_formulas _ _ c.at.result
    (λ k f p h e. fault-no-load c.args.bytes.now c.args.lexed.now c.args.first c.in-Err-At.cause c.in-Err-At.place told.1 (sym h.0 ∙ e))
    c.at.ensures
