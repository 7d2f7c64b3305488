use Rattle.std.proofs.Common.{Some, map, ap, refl, sym, ◌∙◌}
use Rattle.std.specs.Option.{option_map}
use Rattle.fol_base.specs.Literal.{clause_of, literal_of}
use Rattle.fol_base.specs.Rules.{merged}
use Rattle.unit_cutting.proofs.AboutLeaving.RemovalLemmas.{removal-applies, removal-numbered, merged-removes}
use Rattle.unit_cutting.proofs.removing.equal_line.Goals as goal

pub unreachable-requires : goal.unreachable-requires
unreachable-requires c =
    removal-applies (λ ls. merged ls c.args.stays c.args.goes) c.args.goes (merged-removes c.args.stays c.args.goes) (clause_of c.args.clause.now) c.in_ok-bind.bind c.in_ok-bind.ensures c.requires.applies
    (sym (ap (option_map (map literal_of)) c.in-None.is) ∙ c.in_ok-merge.ensures)

pub returns : goal.returns
returns c = record {
  bind = c.in_ok-bind.bind;
  of_step = refl;
  gives =
      removal-numbered (λ ls. merged ls c.args.stays c.args.goes) c.args.goes (merged-removes c.args.stays c.args.goes) (clause_of c.args.clause.now) c.in_ok-bind.bind c.in_ok-bind.ensures c.requires.applies
      (clause_of c.in_ok-clause-in-Some.clause)
      (ap (λ ls. Some (map literal_of ls)) c.in_ok-clause-in-Some.ensures.literals
      ∙ sym (ap (option_map (map literal_of)) c.in-Some.is) ∙ c.in_ok-merge.ensures)
      c.in_ok-clause-in-Some.ensures.names;
}
