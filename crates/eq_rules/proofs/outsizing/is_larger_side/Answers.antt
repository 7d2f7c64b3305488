use Rattle.std.proofs.Common.{ap, ◌∙◌}
use Rattle.std.proofs.lemmas.Bool.{ltb-true}
use Rattle.plain_types.specs.Capped.{capped}
use Rattle.fol_base.specs.Instance.{instance}
use Rattle.fol_base.specs.Lent.{lent_of}
use Rattle.fol_base.specs.Tree.{Tree, tree_size}
use Rattle.unifier.specs.SolvedForm.{substitution_of}
use Rattle.eq_rules.proofs.AboutConclusions.OutsizeLemmas.{larger-side}
use Rattle.eq_rules.proofs.outsizing.is_larger_side.Goals as goal

pub returns : goal.returns
returns c yes_ =
    let σ = substitution_of c.args.unifier.now c.args.of in
    larger-side σ c.args.side (lent_of c.args.literal) c.in_ok-size.size c.in_ok-other_size.other_size
    (c.in_ok-size.ensures ∙ ap (λ (u : Tree). capped (tree_size (instance σ u))) c.side.ensures)
    (c.in_ok-other_size.ensures ∙ ap (λ (u : Tree). capped (tree_size (instance σ u))) c.other_side.ensures)
    (ltb-true c.in_ok-other_size.other_size c.in_ok-size.size yes_)
