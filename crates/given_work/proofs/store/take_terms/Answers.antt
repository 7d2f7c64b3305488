use Rattle.std.proofs.Common.{sym, ap, ◌∙◌, subst}
use Rattle.std.specs.Prelude.{option_map}
use Rattle.fol_base.proofs.WorkedExamples.TestLemmas.{option_map-some}
use Rattle.bank_clause.specs.Clause.{IsMemberOf}
use Rattle.bank_clause.specs.declared.member.Member.{Member}
use Rattle.superpose.specs.declared.sites.Premise.{Premise}
use Rattle.partners.specs.Partners.{Placed, placed_numbered}
use Rattle.given_work.proofs.store.take_terms.Goals as goal

pub lend-requires : goal.lend-requires
lend-requires c =
    option_map-some (λ (p : Placed). p.member) (placed_numbered c.args.number c.args.partners.now.members) c.in-Some.premise.member.now
    (sym c.premise.ensures.member ∙ ap (option_map (λ (p : Premise). p.member.now)) c.in-Some.is)
    λ p found is. subst (λ (m : Member). IsMemberOf c.args.bank.now m) is (c.requires c.args.number p found)
