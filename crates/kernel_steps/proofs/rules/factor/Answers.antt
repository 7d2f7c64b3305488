use Rattle.std.proofs.Common.{map, ap, sym, ◌∙◌}
use Rattle.fol_base.specs.Instance.{instance}
use Rattle.fol_base.specs.Literal.{literal_of}
use Rattle.fol_base.specs.Lent.{lent_of}
use Rattle.kernel_steps.proofs.AboutCalls.CallLemmas.{factored-called}
use Rattle.kernel_steps.proofs.rules.factor.Goals as goal

pub returns : goal.returns
returns g c =
    let σ = g.S.LendsTerms.meaning c.args.parent.now.bind.now in
    factored-called σ (g.L.LendsLiterals.meaning c.args.parent.now.literals.now) c.args.becomes c.args.becomes_side c.args.other
    c.args.other_side (lent_of c.literal-first.result) (lent_of c.literal-second.result) _ _ (map literal_of c.from_vec.result)
    c.if-becomes-other.false c.literal-first.ensures c.literal-second.ensures (sym c.can_factor.ensures ∙ c.if-not-can_factor.false)
    (c.in_ok-instance.ensures ∙ ap (instance σ) c.other_side.ensures)
    (c.in_ok-instance-2.ensures ∙ ap (instance σ) c.other_side-2.ensures)
    (ap (map literal_of) c.from_vec.ensures ∙ c.in_ok-made.ensures)
