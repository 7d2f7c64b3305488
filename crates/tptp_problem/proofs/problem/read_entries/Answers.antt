use Rattle.std.proofs.Common.{◌∙◌, map}
use Rattle.std.specs.Option.{option_copied}
use Rattle.tptp_problem.proofs.AboutReading.FaultLemmas.{file-fault-then}
use Rattle.tptp_problem.proofs.AboutFiles.FileLemmas.{whole-fault, whole-read}
use Rattle.list_lemmas.proofs.Results.{ok-then, err-then}
use Rattle.tptp_problem.proofs.problem.read_entries.Goals as goal

pub returns-clause-read : goal.returns-clause-read
returns-clause-read g c =
    ok-then c.file.result _ _
    (λ entries h.
    whole-read g.E.Entry.language (g.L.Library.told c.args.library.now) c.as_str.result.now c.args.file.now (option_copied c.args.root)
    (map g.E.Entry.placed entries.items) _ (c.as_str.ensures.value ∙ c.in_ok-base.ensures) h)
    c.file.ensures.read

pub returns-clause-fault : goal.returns-clause-fault
returns-clause-fault g c =
    err-then c.file.result _ _
    (λ fault h.
    file-fault-then g.E.Entry.language _ _ fault
    (whole-fault g.E.Entry.language (g.L.Library.told c.args.library.now) _ c.as_str.result.now c.args.file.now (option_copied c.args.root)
    (c.as_str.ensures.value ∙ c.in_ok-base.ensures))
    h)
    c.file.ensures.fault
