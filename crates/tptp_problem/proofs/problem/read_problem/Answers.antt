use Rattle.std.proofs.Common.{sym, subst}
use Rattle.std.specs.Option.{option_copied}
use Rattle.tptp_problem.proofs.AboutReading.FaultLemmas.{read-fault-where}
use Rattle.tptp_problem.proofs.AboutFiles.SizeLemmas.{size-limited}
use Rattle.tptp_tree.specs.ProblemSize.{HasProblemSize}
use Rattle.tptp_problem.proofs.problem.read_problem.Goals as goal

pub returns-in-Err-clause-fault : goal.returns-in-Err-clause-fault
returns-in-Err-clause-fault g c = read-fault-where _ _ _ c.in-Err.ensures.fault c.read_fault.ensures

pub returns-in-Err-clause-load : goal.returns-in-Err-clause-load
returns-in-Err-clause-load g c = read-fault-where _ _ _ c.in-Err.ensures.load c.read_fault.ensures

pub returns-in-Ok-clause-size : goal.returns-in-Ok-clause-size
returns-in-Ok-clause-size g c =
    subst HasProblemSize (sym c.from_vec.ensures)
    (size-limited (g.L.Library.told c.args.library.now) c.args.file.now (option_copied c.args.root) c.in-Ok.formulas.items c.in-Ok.ensures.read)
