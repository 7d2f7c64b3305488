use Rattle.std.proofs.Common.{◌≡◌, ◌≤◌, true, false, List, length, arith, ap, sym, ◌∙◌, subst}
use Rattle.std.specs.Prelude.{slice_get, IfSome}
use Rattle.std.proofs.lemmas.Option.{slice_get_within}
use Rattle.fol_base.specs.Clause.{TreeLiteral, clause_variables}
use Rattle.fol_base.specs.Canonical.{bound_of}
use Rattle.fol_base.specs.Lent.{lent_of}
use Rattle.fol_base.specs.declared.clause.Side.TheVariants.{Left, Right}
use Rattle.fol_base.specs.declared.limits.TheConstants.{SIZE_LIMIT}
use Rattle.bank_clause.specs.Clause.{clause_at}
use Rattle.unifier.specs.SolvedForm.{substitution_of}
use Rattle.unifier.proofs.AboutLayouts.BoundLemmas.{fits-above}
use Rattle.eq_rules.proofs.AboutConclusions.OutsizeLemmas.{literal-few}
use Rattle.superpose.specs.Settled.{AreSettled, IsInOrder}
use Rattle.superpose.specs.Superposing.{others_coincide, starts_under}
use Rattle.superpose.proofs.AboutSites.SettledLemmas.{in-order-allows}
use Rattle.superpose.proofs.overweight.allowed_by_sizes.Goals as goal

pub others_coincide_by_sizes-requires-clause-fits : goal.others_coincide_by_sizes-requires-clause-fits
others_coincide_by_sizes-requires-clause-fits c =
    let first_bound = bound_of (clause_variables (clause_at c.args.first.now.member.now.clause)) in
    let second_bound = bound_of (clause_variables (clause_at c.args.second.now.member.now.clause)) in
    let few : first_bound ≤ SIZE_LIMIT = omega (arith, c.variable_bound.ensures.variables, c.variable_bound.ensures.limit) in
    let second_few : second_bound ≤ SIZE_LIMIT = omega (arith, c.variable_bound-2.ensures.variables, c.variable_bound-2.ensures.limit) in
    fits-above c.args.unifier.now first_bound second_bound SIZE_LIMIT SIZE_LIMIT few second_few c.requires.unified.counted

pub others_coincide_by_sizes-requires-clause-from_below : goal.others_coincide_by_sizes-requires-clause-from_below
others_coincide_by_sizes-requires-clause-from_below c =
    let d = clause_at c.args.first.now.member.now.clause in
    literal-few d SIZE_LIMIT c.args.from.literal (lent_of c.literal-equation.result)
    (ap (λ (ls : List TreeLiteral). slice_get ls c.args.from.literal) (sym c.lend-first_literals.ensures) ∙ c.literal-equation.ensures)
    (omega (arith, c.variable_bound.ensures.variables, c.variable_bound.ensures.limit))

pub others_coincide_by_sizes-requires-clause-into_below : goal.others_coincide_by_sizes-requires-clause-into_below
others_coincide_by_sizes-requires-clause-into_below c =
    let d = clause_at c.args.second.now.member.now.clause in
    literal-few d SIZE_LIMIT c.args.into.now.at.literal (lent_of c.literal-target.result)
    (ap (λ (ls : List TreeLiteral). slice_get ls c.args.into.now.at.literal) (sym c.lend-second_literals.ensures) ∙ c.literal-target.ensures)
    (omega (arith, c.variable_bound-2.ensures.variables, c.variable_bound-2.ensures.limit))

pub starts_by_sizes-requires-clause-settled : goal.starts_by_sizes-requires-clause-settled
starts_by_sizes-requires-clause-settled c =
    let sites = c.args.first.now.sites.now in
    subst (λ (ls : List TreeLiteral). AreSettled ls sites.choice sites.settled.items) (sym c.lend-first_literals.ensures) c.requires.first_settled

pub starts_by_sizes-requires-clause-inside : goal.starts_by_sizes-requires-clause-inside
starts_by_sizes-requires-clause-inside c =
    let r = c.requires.unified in
    omega (
      arith,
      ap (λ (ls : List TreeLiteral). length ls) c.lend-first_literals.ensures,
      slice_get_within _ c.args.from.literal r.starts.literal r.starts.there,
    )

pub enters_by_sizes-requires-clause-settled : goal.enters_by_sizes-requires-clause-settled
enters_by_sizes-requires-clause-settled c =
    let sites = c.args.second.now.sites.now in
    subst (λ (ls : List TreeLiteral). AreSettled ls sites.choice sites.settled.items) (sym c.lend-second_literals.ensures) c.requires.second_settled

pub enters_by_sizes-requires-clause-inside : goal.enters_by_sizes-requires-clause-inside
enters_by_sizes-requires-clause-inside c =
    let r = c.requires.unified in
    omega (
      arith,
      ap (λ (ls : List TreeLiteral). length ls) c.lend-second_literals.ensures,
      slice_get_within _ c.args.into.now.at.literal r.enters.literal r.enters.there,
    )

pub returns-then-enters : goal.returns-then-enters
returns-then-enters c =
    let first = (clause_at c.args.first.now.member.now.clause).literals in
    let second = (clause_at c.args.second.now.member.now.clause).literals in
    let s = c.args.from in
    let t = c.args.into.now in
    let σ = substitution_of c.args.unifier.now Left in
    let τ = substitution_of c.args.unifier.now Right in
    let l = lent_of c.literal-equation.result in
    let m = lent_of c.literal-target.result in
    let differ : others_coincide s t σ τ l m ≡ false =
    subst (λ o. IfSome o (λ coincide. others_coincide s t σ τ l m ≡ coincide)) c.in-Some-false.is c.in_ok-others_coincide_by_sizes.ensures
    ∙ c.in-Some-false.field-0-test in
    let choice = c.args.second.now.sites.now.choice in
    in-order-allows first s second t choice l m
    (ap (λ (ls : List TreeLiteral). slice_get ls s.literal) (sym c.lend-first_literals.ensures) ∙ c.literal-equation.ensures)
    (ap (λ (ls : List TreeLiteral). slice_get ls t.at.literal) (sym c.lend-second_literals.ensures) ∙ c.literal-target.ensures)
    σ τ
    (subst (λ (ls : List TreeLiteral). starts_under ls s σ ≡ true) c.lend-first_literals.ensures (c.in_ok-starts-in-Some-false.ensures c.if-not-starts.false))
    (subst (λ (ls : List TreeLiteral). IsInOrder ls choice τ t.at) c.lend-second_literals.ensures (c.in_ok-enters-in-Some-false.ensures c.if-enters.true))
    differ
