use Rattle.std.proofs.Common.{ℕ, List, ◌&&◌, map, ap, ap₂, sym, ◌∙◌}
use Rattle.std.specs.Prelude.{flat_map}
use Rattle.fol_base.specs.Instance.{Substitution}
use Rattle.fol_base.specs.Clause.{literals_eq, literal_instance, literal_variables}
use Rattle.fol_base.specs.Canonical.{distinct, place_of, renaming}
use Rattle.fol_base.specs.Literal.{literal_of}
use Rattle.fol_base.specs.Lent.{lent_of}
use Rattle.fol_base.specs.declared.clause.Literal.{Literal}
use Rattle.kernel_steps.proofs.AboutSplits.SplitTables.{renamed-places}
use Rattle.kernel_steps.proofs.split.defines.Goals as goal

pub returns : goal.returns
returns c =
    let ls = map lent_of c.args.part.now in
    let vs = flat_map literal_variables ls in
    c.are_renamed.ensures
    ∙ ap₂ (λ (σ : Substitution) (ks : List Literal). literals_eq (map (literal_instance σ) ls) (map literal_of ks))
    (renamed-places vs c.in_ok-places.places
    (λ n.
    c.in_ok-places.ensures n
    ∙ ap (λ (ns : List ℕ). place_of n (distinct ns)) (c.as_slice.ensures.value ∙ c.in_ok-variables.ensures)))
    c.as_slice-2.ensures
    ∙ ap (λ b. b && literals_eq (map (literal_instance (renaming (distinct vs))) ls) (map literal_of c.args.definition.clause.now.literals))
    (sym c.if-not-definition.false)
