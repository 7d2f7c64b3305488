use Rattle.std.proofs.Common.{map, sym, ◌∙◌}
use Rattle.std.proofs.lemmas.List.{length-map}
use Rattle.fol_base.specs.Clause.{literal_instance}
use Rattle.kernel_steps.specs.Split.{renamed}
use Rattle.fol_base.specs.Literal.{literal_of}
use Rattle.fol_base.specs.Lent.{lent_of}
use Rattle.fol_base.proofs.AboutTerms.EqualityLemmas.{literals_eq-lengths}
use Rattle.kernel_steps.proofs.split.are_renamed.Goals as goal

pub returns-then-part-targets : goal.returns-then-part-targets
returns-then-part-targets c =
    let ls = map lent_of c.args.part.now in
    let σ = renamed c.args.places.now in
    literals_eq-lengths (map (literal_instance σ) ls) (map literal_of c.args.targets.now)
    (λ e. c.if-part-targets.true
    (sym (length-map c.args.part.now lent_of) ∙ sym (length-map ls (literal_instance σ)) ∙ e ∙ length-map c.args.targets.now literal_of))
