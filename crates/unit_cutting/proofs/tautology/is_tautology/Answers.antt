use Rattle.std.proofs.Common.{List, map, ap, sym, ◌∙◌}
use Rattle.std.specs.List.{list_any}
use Rattle.fol_base.specs.Literal.{literal_of}
use Rattle.fol_base.specs.declared.clause.Literal.{Literal}
use Rattle.fol_base.proofs.WorkedExamples.TestLemmas.{list_any-map}
use Rattle.kernel_steps.specs.Inference.{makes_tautology}
use Rattle.unit_cutting.proofs.tautology.is_tautology.Goals as goal

pub returns : goal.returns
returns c =
    c.any_makes_tautology.ensures
    ∙ ap (λ (ls : List Literal). list_any (λ (l : Literal). makes_tautology (map literal_of ls) (literal_of l)) ls) c.as_slice.ensures
    ∙ sym (list_any-map (makes_tautology (map literal_of c.args.clause.now.literals)) literal_of c.args.clause.now.literals)
