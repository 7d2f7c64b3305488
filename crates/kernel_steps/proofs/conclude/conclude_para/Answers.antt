use Rattle.std.proofs.Common.{List, ◌++◌, map, ap, ap₂, sym, ◌∙◌}
use Rattle.std.specs.Prelude.{option_map}
use Rattle.plain_types.specs.declared.sequence.NameLit.{NameLit}
use Rattle.fol_base.specs.Tree.{Tree}
use Rattle.fol_base.specs.Instance.{substitution}
use Rattle.fol_base.specs.Clause.{TreeLiteral}
use Rattle.fol_base.specs.Ground.{literals_instance}
use Rattle.fol_base.specs.Literal.{literal_of}
use Rattle.fol_base.specs.Rules.{superposed}
use Rattle.fol_base.specs.declared.clause.Literal.{Literal}
use Rattle.kernel_steps.specs.Names.{sorted_names}
use Rattle.kernel_steps.specs.Parents.{parent_of}
use Rattle.kernel_steps.specs.Conclusion.{verdict_of, concludes, clause_with}
use Rattle.kernel_steps.proofs.AboutCalls.CallLemmas.{by_two-there}
use Rattle.kernel_steps.proofs.conclude.conclude_para.Goals as goal

pub returns-in-None : goal.returns-in-None
returns-in-None c =
    let rule = λ (ls ks : List TreeLiteral). superposed ls c.args.from c.args.from_side ks c.args.into c.args.into_side c.args.place.now in
    let given = λ (ls : List Literal) (b : List Tree) (ks : List Literal) (d : List Tree).
    rule (literals_instance (substitution b) (map literal_of ls)) (literals_instance (substitution d) (map literal_of ks)) in
    let p = parent_of c.in-Some.first in
    let q = parent_of c.in-Some-second.second in
    by_two-there (option_map parent_of c.args.first) (option_map parent_of c.args.second) c.args.first_bind.now c.args.second_bind.now rule p q
    (ap (option_map parent_of) c.in-Some.is) (ap (option_map parent_of) c.in-Some-second.is)
    (sym c.binds_parent.ensures ∙ c.if-not-binds_parent.false)
    (sym c.binds_parent-else-not-binds_parent.ensures ∙ c.if-not-binds_parent-2.false)
    ∙ ap (λ o. verdict_of (option_map (clause_with (p.clause.names ++ q.clause.names)) o))
    (sym
    (ap (option_map (map literal_of)) (sym c.in-None.is)
    ∙ c.in_ok-made.ensures
    ∙ ap₂ (λ ls b. given ls b c.bound-2.result.literals.now c.bound-2.result.bind.now) c.bound.ensures.literals c.bound.ensures.bind
    ∙ ap₂ (λ ks d. given c.in-Some.first.clause.now.literals c.args.first_bind.now ks d) c.bound-2.ensures.literals c.bound-2.ensures.bind))

pub returns-in_ok-names-in-Some-made : goal.returns-in_ok-names-in-Some-made
returns-in_ok-names-in-Some-made c =
    let rule = λ (ls ks : List TreeLiteral). superposed ls c.args.from c.args.from_side ks c.args.into c.args.into_side c.args.place.now in
    let given = λ (ls : List Literal) (b : List Tree) (ks : List Literal) (d : List Tree).
    rule (literals_instance (substitution b) (map literal_of ls)) (literals_instance (substitution d) (map literal_of ks)) in
    let p = parent_of c.in-Some.first in
    let q = parent_of c.in-Some-second.second in
    by_two-there (option_map parent_of c.args.first) (option_map parent_of c.args.second) c.args.first_bind.now c.args.second_bind.now rule p q
    (ap (option_map parent_of) c.in-Some.is) (ap (option_map parent_of) c.in-Some-second.is)
    (sym c.binds_parent.ensures ∙ c.if-not-binds_parent.false)
    (sym c.binds_parent-else-not-binds_parent.ensures ∙ c.if-not-binds_parent-2.false)
    ∙ ap (λ o. verdict_of (option_map (clause_with (p.clause.names ++ q.clause.names)) o))
    (sym
    (ap (option_map (map literal_of)) (sym c.in-Some-made.is)
    ∙ c.in_ok-made.ensures
    ∙ ap₂ (λ ls b. given ls b c.bound-2.result.literals.now c.bound-2.result.bind.now) c.bound.ensures.literals c.bound.ensures.bind
    ∙ ap₂ (λ ks d. given c.in-Some.first.clause.now.literals c.args.first_bind.now ks d) c.bound-2.ensures.literals c.bound-2.ensures.bind))
    ∙ ap₂ (λ (ls : List TreeLiteral) (ns : List NameLit). concludes (record { literals = ls; names = ns }))
    (ap (map literal_of) (sym c.with_names.ensures.literals))
    (ap₂ (λ (ns ms : List NameLit). sorted_names (ns ++ ms)) (sym c.as_slice.ensures) (sym c.as_slice-in-Some-made.ensures)
    ∙ sym c.in_ok-names-in-Some-made.ensures
    ∙ sym c.with_names.ensures.names)
