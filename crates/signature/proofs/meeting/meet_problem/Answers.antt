use Rattle.std.proofs.Common.{ap, arith}
use Rattle.tptp_tree.specs.ProblemSize.{total_occurrences}
use Rattle.signature.proofs.OccurrenceLemmas.{annotated-item}
use Rattle.signature.proofs.SignatureLemmas.{signature-met}
use Rattle.signature.proofs.meeting.meet_problem.Goals as goal

pub returns-clause-signature : goal.returns-clause-signature
returns-clause-signature c =
    signature-met _ _ _ _ c.as_slice-annotated-items.ensures c.loop-annotated-test.false c.loop-annotated.invariant c.requires

pub meet_formula-requires : goal.meet_formula-requires
meet_formula-requires c =
    omega (
      arith,
      annotated-item _ _ _ c.loop-annotated-test.true c.annotated-item.is,
      ap total_occurrences c.as_slice-annotated-items.ensures,
      c.requires,
    )
