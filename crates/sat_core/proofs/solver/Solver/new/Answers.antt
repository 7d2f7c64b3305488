use Rattle.std.proofs.Common.{length, sym, ◌∙◌, subst, arith}
use Rattle.std.proofs.lemmas.List.{take_all}
use Rattle.sat_core.specs.Clause.{PropClause}
use Rattle.sat_core.specs.Search.{HaveLists}
use Rattle.sat_core.proofs.AboutConflicts.MarkLemmas.{left_of_marks}
use Rattle.sat_core.proofs.AboutTrails.CopyLemmas.{same_clauses_then, same_clauses_of, copies_next}
use Rattle.sat_core.proofs.AboutAnswers.SolverLemmas.{lists_of, begun_known, begun_clauses, begun_sound}
use Rattle.sat_core.proofs.solver.Solver.new.Goals as goal

pub add_input-requires : goal.add_input-requires
add_input-requires c =
    subst (λ (x : PropClause). HaveLists (length c.loop-number.watches.lists.items) x) (sym c.get.ensures)
    (lists_of c.args.names _ c.args.inputs.now c.loop-number.number c.requires c.loop-number.invariant.lists)

pub loop-number-preserved : goal.loop-number-preserved
loop-number-preserved c = record {
  lists = c.in_ok-add_input.ensures.lists ∙ c.loop-number.invariant.lists;
  copies =
      copies_next _ _ c.args.inputs.now c.loop-number.number _ (omega (arith, c.loop-number-test.true, c.len-number-end.ensures.length)) c.get.ensures
      c.loop-number.invariant.copies c.in_ok-add_input.ensures.copies;
}

pub returns : goal.returns
returns c = record {
  state = record {
    derived = begun_known c.new-2.result c.new-2.ensures.learned c.new-2.ensures.starts c.new-2.ensures.links;
    sound = begun_sound c.args.names _ c.new-2.result _ _ c.requires c.new-2.ensures.inputs c.new-2.ensures.learned c.in_ok-new.ensures;
    marks = left_of_marks _ _ c.in_ok-new-2.ensures.marks;
    marked_names = c.in_ok-new-2.ensures.names ∙ sym c.in_ok-new.ensures.length;
    lists = omega (arith, c.loop-number.invariant.lists, c.in_ok-new.ensures.length);
    copies =
        same_clauses_then _ _ _ c.loop-number.invariant.copies
        (same_clauses_of _ _
        (take_all c.loop-number.number c.args.inputs.now (omega (arith, c.loop-number-test.false, c.len-number-end.ensures.length))
        ∙ sym (begun_clauses _ c.new-2.result c.new-2.ensures.inputs c.new-2.ensures.learned)));
  };
  inputs_are = c.new-2.ensures.inputs;
  names_are = c.in_ok-new.ensures.length;
}
