use Rattle.std.proofs.Common.{List, None, Some, sym, subst, arith}
use Rattle.plain_types.specs.declared.sequence.NameLit.{NameLit}
use Rattle.fol_base.specs.Lent.{lent_of}
use Rattle.fol_base.specs.Literal.{clause_of}
use Rattle.unit_cutting.specs.Indexed.{HasCandidates}
use Rattle.unit_cutting.specs.Subsuming.{IsCoveringOrNone}
use Rattle.unit_cutting.proofs.SubsumerLemmas.{no-subsumer, one-more-uncovered, subsumer-at}
use Rattle.unit_cutting.proofs.index.UnitIndex.subsumer.Goals as goal

pub loop-index-preserved : goal.loop-index-preserved
loop-index-preserved c =
    let units = c.args.self.now in
    let out = c.args.left_out in
    let here = lent_of c.literal-literal.result in
    let numbers = c.as_slice-numbers.result.now in
    one-more-uncovered units out (clause_of c.args.clause.now) c.loop-index.index here numbers c.literal-literal.ensures
    (subst (HasCandidates units here) (sym c.as_slice-numbers.ensures) c.in_ok-candidates.ensures)
    (subst (λ (names : List NameLit). IsCoveringOrNone units out names here numbers None) c.as_slice-names.ensures (rw c.in_default.is at c.in_ok-found.ensures))
    c.loop-index.invariant

pub returns-in-Some : goal.returns-in-Some
returns-in-Some c =
    let units = c.args.self.now in
    let out = c.args.left_out in
    let here = lent_of c.literal-literal.result in
    let numbers = c.as_slice-numbers.result.now in
    subsumer-at units out (clause_of c.args.clause.now) c.loop-index.index here c.in-Some.number c.literal-literal.ensures
    (subst (λ (names : List NameLit). IsCoveringOrNone units out names here numbers (Some c.in-Some.number)) c.as_slice-names.ensures
    (rw c.in-Some.is at c.in_ok-found.ensures))

pub returns : goal.returns
returns c =
    no-subsumer c.args.self.now c.args.left_out (clause_of c.args.clause.now) c.loop-index.index (omega (arith, c.count-index-end.ensures))
    c.each_has_one_literal.ensures c.loop-index.invariant
