use Rattle.std.proofs.Common.{List, ap, sym, ◌∙◌}
use Rattle.plain_types.specs.declared.sequence.NameLit.{NameLit}
use Rattle.fol_base.specs.Literal.{clause_of}
use Rattle.fol_base.specs.Subsumption.{assertions}
use Rattle.demodulate.specs.Normal.{kept, IsRewritten, IsLeft}
use Rattle.demodulate.proofs.AboutSteps.NormalLemmas.{begins, goes_on, ranks_lower, ends, held, refused}
use Rattle.demodulate.proofs.normal.normal_form.Goals as goal

pub steps-init : goal.steps-init
steps-init c = record {
  lasts =
      begins c.args.units.now c.args.left_out (clause_of c.args.clause.now) c.in_ok-made.made c.requires.canonical c.in_ok-made.ensures.reduced
      c.in_ok-made.ensures.same;
  remembers = c.new-normal.ensures _;
}

pub rewrite_once-requires-clause-asserted : goal.rewrite_once-requires-clause-asserted
rewrite_once-requires-clause-asserted c =
    c.as_slice-2.ensures.value ∙ c.in_ok-asserted.ensures
    ∙ ap (λ (ns : List NameLit). assertions ns) (c.as_slice.ensures ∙ sym c.steps.invariant.lasts.names)

pub returns-then-not-stepped : goal.returns-then-not-stepped
returns-then-not-stepped c =
    let clauses = kept c.args.units.now c.args.left_out in
    let old = c.steps.made in
    let new = c.rewrite_once.new.reduced in
    ends c.args.units.now c.args.left_out (clause_of c.args.clause.now) old new c.steps.invariant.lasts
    (refused (IsRewritten clauses old new) (IsLeft clauses old new) c.in_ok-stepped.stepped c.in_ok-stepped.ensures.ok c.if-not-stepped.true)

pub steps-smaller : goal.steps-smaller
steps-smaller c =
    let clauses = kept c.args.units.now c.args.left_out in
    let old = c.steps.made in
    let new = c.rewrite_once.new.reduced in
    ranks_lower c.args.units.now c.args.left_out (clause_of c.args.clause.now) old new c.steps.invariant.lasts
    (held (IsRewritten clauses old new) (IsLeft clauses old new) c.in_ok-stepped.stepped c.in_ok-stepped.ensures.ok c.if-not-stepped.false)

pub steps-preserved : goal.steps-preserved
steps-preserved c =
    let clauses = kept c.args.units.now c.args.left_out in
    let old = c.steps.made in
    let new = c.rewrite_once.new.reduced in
    record {
      lasts =
          goes_on c.moves_extend_reductions.ensures.goes_on c.args.units.now c.args.left_out (clause_of c.args.clause.now) old new c.steps.invariant.lasts
          (held (IsRewritten clauses old new) (IsLeft clauses old new) c.in_ok-stepped.stepped c.in_ok-stepped.ensures.ok c.if-not-stepped.false);
      remembers = c.rewrite_once.ensures.remembers;
    }
