use Rattle.std.proofs.Common.{◌≡◌, ◌&&◌, refl, ◌≤◌, List, length, arith, ap, ap₂, sym, ◌∙◌}
use Rattle.std.specs.Prelude.{sum_by}
use Rattle.std.specs.Option.{is_some}
use Rattle.std.proofs.lemmas.Option.{slice_get_within}
use Rattle.fol_base.specs.Instance.{substitution}
use Rattle.fol_base.specs.Clause.{TreeLiteral, literal_size, clause_variables}
use Rattle.fol_base.specs.Ground.{literals_instance}
use Rattle.fol_base.specs.Canonical.{bound_of, terms_from}
use Rattle.fol_base.specs.declared.clause.Side.TheVariants.{Right}
use Rattle.fol_base.specs.declared.limits.TheConstants.{SIZE_LIMIT}
use Rattle.bank_clause.specs.Clause.{clause_at}
use Rattle.unifier.specs.Renaming.{AreNamedTerms}
use Rattle.unifier.proofs.AboutLayouts.BoundLemmas.{fits-above}
use Rattle.unifier.specs.SolvedForm.{substitution_of}
use Rattle.superpose.specs.Superposing.{starts_under, enters_under}
use Rattle.superpose.proofs.AboutSteps.TermsLemmas.{own_both, left-many, right-many, superposition_gives}
use Rattle.superpose.proofs.AboutSteps.SizeLemmas.{left_sum, right_sum, allowed_none, heavy_by_size, concluded_by_step}
use Rattle.superpose.proofs.superposing.ordered_superposition.Goals as goal

pub terms-requires-clause-fits : goal.terms-requires-clause-fits
terms-requires-clause-fits c =
    let b = c.args.unifier.now in
    let r = c.requires.unified in
    let first = clause_at c.args.first.now.member.now.clause in
    let second = clause_at c.args.second.now.member.now.clause in
    let first_bound = bound_of (clause_variables first) in
    let second_bound = bound_of (clause_variables second) in
    let few : first_bound ≤ SIZE_LIMIT = omega (arith, c.variable_bound-left_bound.ensures.variables, c.variable_bound-left_bound.ensures.limit) in
    let second_few : second_bound ≤ SIZE_LIMIT = omega (arith, c.variable_bound-right_bound.ensures.variables, c.variable_bound-right_bound.ensures.limit) in
    fits-above b first_bound second_bound SIZE_LIMIT SIZE_LIMIT few second_few r.counted

pub terms-requires-2-clause-fits : goal.terms-requires-2-clause-fits
terms-requires-2-clause-fits c =
    let b = c.args.unifier.now in
    let r = c.requires.unified in
    let first = clause_at c.args.first.now.member.now.clause in
    let second = clause_at c.args.second.now.member.now.clause in
    let first_bound = bound_of (clause_variables first) in
    let second_bound = bound_of (clause_variables second) in
    let few : first_bound ≤ SIZE_LIMIT = omega (arith, c.variable_bound-left_bound.ensures.variables, c.variable_bound-left_bound.ensures.limit) in
    let second_few : second_bound ≤ SIZE_LIMIT = omega (arith, c.variable_bound-right_bound.ensures.variables, c.variable_bound-right_bound.ensures.limit) in
    fits-above b first_bound second_bound SIZE_LIMIT SIZE_LIMIT few second_few r.counted

pub starts_under-requires-clause-inside : goal.starts_under-requires-clause-inside
starts_under-requires-clause-inside c =
    let r = c.requires.unified in
    omega (arith, ap (λ (ls : List TreeLiteral). length ls) c.lend-left_literals.ensures, slice_get_within _ c.args.from.literal r.starts.literal r.starts.there)

pub starts_under-requires-clause-size : goal.starts_under-requires-clause-size
starts_under-requires-clause-size c =
    let m = c.args.first.now.member.now in
    let n = c.args.second.now.member.now in
    let first = clause_at m.clause in
    let second = clause_at n.clause in
    let s = c.args.from in
    let t = c.args.into.now in
    let b = c.args.unifier.now in
    let r = c.requires.unified in
    let first_bound = bound_of (clause_variables first) in
    let second_bound = bound_of (clause_variables second) in
    let left = c.in_ok-left_terms.left_terms in
    let right = terms_from 0 second_bound (substitution_of b Right) in
    let h : AreNamedTerms b first_bound second_bound left right =
    own_both b first_bound second_bound c.variable_bound-left_bound.result second_bound left right c.variable_bound-left_bound.ensures.variables refl c.in_ok-left_terms.ensures refl in
    let lent : sum_by literal_size (literals_instance (substitution left) c.lend-left_literals.result)
    ≡ sum_by literal_size (literals_instance (substitution left) first.literals) =
    ap (λ ls. sum_by literal_size (literals_instance (substitution left) ls)) c.lend-left_literals.ensures in
    omega (arith, lent, left_sum m n s t b r left right h, c.requires.left_small)

pub returns-then-not-starts_under : goal.returns-then-not-starts_under
returns-then-not-starts_under c mode sites =
    let m = c.args.first.now.member.now in
    let n = c.args.second.now.member.now in
    let first = clause_at m.clause in
    let second = clause_at n.clause in
    let s = c.args.from in
    let t = c.args.into.now in
    let b = c.args.unifier.now in
    let r = c.requires.unified in
    let first_bound = bound_of (clause_variables first) in
    let second_bound = bound_of (clause_variables second) in
    let left = c.in_ok-left_terms.left_terms in
    let right = terms_from 0 second_bound (substitution_of b Right) in
    let h : AreNamedTerms b first_bound second_bound left right =
    own_both b first_bound second_bound c.variable_bound-left_bound.result second_bound left right c.variable_bound-left_bound.ensures.variables refl c.in_ok-left_terms.ensures refl in
    let starts =
    ap (λ (ls : List TreeLiteral). starts_under ls s (substitution left)) (sym c.lend-left_literals.ensures) ∙ sym c.if-not-starts_under.ensures in
    allowed_none m n s t b r left right h mode c.args.second.now.sites.now.choice sites
    (ap (λ x. x && enters_under first.literals s second.literals t c.args.second.now.sites.now.choice (substitution left) (substitution right)) starts)

pub enters_under-requires-clause-from_inside : goal.enters_under-requires-clause-from_inside
enters_under-requires-clause-from_inside c =
    let r = c.requires.unified in
    omega (arith, ap (λ (ls : List TreeLiteral). length ls) c.lend-left_literals.ensures, slice_get_within _ c.args.from.literal r.starts.literal r.starts.there)

pub enters_under-requires-clause-into_inside : goal.enters_under-requires-clause-into_inside
enters_under-requires-clause-into_inside c =
    let r = c.requires.unified in
    omega (arith, ap (λ (ls : List TreeLiteral). length ls) c.lend-right_literals.ensures, slice_get_within _ c.args.into.now.at.literal r.enters.literal r.enters.there)

pub enters_under-requires-clause-size : goal.enters_under-requires-clause-size
enters_under-requires-clause-size c =
    let m = c.args.first.now.member.now in
    let n = c.args.second.now.member.now in
    let first = clause_at m.clause in
    let second = clause_at n.clause in
    let s = c.args.from in
    let t = c.args.into.now in
    let b = c.args.unifier.now in
    let r = c.requires.unified in
    let first_bound = bound_of (clause_variables first) in
    let second_bound = bound_of (clause_variables second) in
    let left = c.in_ok-left_terms.left_terms in
    let right = c.in_ok-right_terms.right_terms in
    let h : AreNamedTerms b first_bound second_bound left right =
    own_both b first_bound second_bound c.variable_bound-left_bound.result c.variable_bound-right_bound.result left right
    c.variable_bound-left_bound.ensures.variables c.variable_bound-right_bound.ensures.variables c.in_ok-left_terms.ensures c.in_ok-right_terms.ensures in
    let lent : sum_by literal_size (literals_instance (substitution right) c.lend-right_literals.result)
    ≡ sum_by literal_size (literals_instance (substitution right) second.literals) =
    ap (λ ls. sum_by literal_size (literals_instance (substitution right) ls)) c.lend-right_literals.ensures in
    omega (arith, lent, right_sum m n s t b r left right h, c.requires.right_small)

pub returns-then-not-enters_under : goal.returns-then-not-enters_under
returns-then-not-enters_under c mode sites =
    let m = c.args.first.now.member.now in
    let n = c.args.second.now.member.now in
    let first = clause_at m.clause in
    let second = clause_at n.clause in
    let s = c.args.from in
    let t = c.args.into.now in
    let b = c.args.unifier.now in
    let r = c.requires.unified in
    let first_bound = bound_of (clause_variables first) in
    let second_bound = bound_of (clause_variables second) in
    let left = c.in_ok-left_terms.left_terms in
    let right = c.in_ok-right_terms.right_terms in
    let h : AreNamedTerms b first_bound second_bound left right =
    own_both b first_bound second_bound c.variable_bound-left_bound.result c.variable_bound-right_bound.result left right
    c.variable_bound-left_bound.ensures.variables c.variable_bound-right_bound.ensures.variables c.in_ok-left_terms.ensures c.in_ok-right_terms.ensures in
    let starts =
    ap (λ (ls : List TreeLiteral). starts_under ls s (substitution left)) (sym c.lend-left_literals.ensures) ∙ sym c.if-not-starts_under.ensures in
    let enters =
    ap₂ (λ (ls ks : List TreeLiteral). enters_under ls s ks t c.args.second.now.sites.now.choice (substitution left) (substitution right))
    (sym c.lend-left_literals.ensures) (sym c.lend-right_literals.ensures)
    ∙ sym c.if-not-enters_under.ensures in
    let allowed = ap₂ (λ x y. x && y) starts enters in
    allowed_none m n s t b r left right h mode c.args.second.now.sites.now.choice sites allowed

pub returns-then-heavy : goal.returns-then-heavy
returns-then-heavy c mode sites =
    let m = c.args.first.now.member.now in
    let n = c.args.second.now.member.now in
    let first = clause_at m.clause in
    let second = clause_at n.clause in
    let s = c.args.from in
    let t = c.args.into.now in
    let b = c.args.unifier.now in
    let r = c.requires.unified in
    let first_bound = bound_of (clause_variables first) in
    let second_bound = bound_of (clause_variables second) in
    let left = c.in_ok-left_terms.left_terms in
    let right = c.in_ok-right_terms.right_terms in
    let h : AreNamedTerms b first_bound second_bound left right =
    own_both b first_bound second_bound c.variable_bound-left_bound.result c.variable_bound-right_bound.result left right
    c.variable_bound-left_bound.ensures.variables c.variable_bound-right_bound.ensures.variables c.in_ok-left_terms.ensures c.in_ok-right_terms.ensures in
    let starts =
    ap (λ (ls : List TreeLiteral). starts_under ls s (substitution left)) (sym c.lend-left_literals.ensures) ∙ sym c.if-not-starts_under.ensures in
    let enters =
    ap₂ (λ (ls ks : List TreeLiteral). enters_under ls s ks t c.args.second.now.sites.now.choice (substitution left) (substitution right))
    (sym c.lend-left_literals.ensures) (sym c.lend-right_literals.ensures)
    ∙ sym c.if-not-enters_under.ensures in
    let allowed = ap₂ (λ x y. x && y) starts enters in
    heavy_by_size m n s t b r left right h mode c.args.second.now.sites.now.choice sites allowed
    (sym (c.requires.heavy r.starts.literal r.starts.there) ∙ c.if-heavy.true)

pub conclude_superposition-requires-clause-from_inside : goal.conclude_superposition-requires-clause-from_inside
conclude_superposition-requires-clause-from_inside c =
    let r = c.requires.unified in slice_get_within _ c.args.from.literal r.starts.literal r.starts.there

pub conclude_superposition-requires-clause-first_covers : goal.conclude_superposition-requires-clause-first_covers
conclude_superposition-requires-clause-first_covers c =
    let m = c.args.first.now.member.now in
    let n = c.args.second.now.member.now in
    let first = clause_at m.clause in
    let second = clause_at n.clause in
    let s = c.args.from in
    let t = c.args.into.now in
    let b = c.args.unifier.now in
    let r = c.requires.unified in
    let first_bound = bound_of (clause_variables first) in
    let second_bound = bound_of (clause_variables second) in
    let left = c.in_ok-left_terms.left_terms in
    let right = c.in_ok-right_terms.right_terms in
    let h : AreNamedTerms b first_bound second_bound left right =
    own_both b first_bound second_bound c.variable_bound-left_bound.result c.variable_bound-right_bound.result left right
    c.variable_bound-left_bound.ensures.variables c.variable_bound-right_bound.ensures.variables c.in_ok-left_terms.ensures c.in_ok-right_terms.ensures in
    left-many first s second t b r left right h

pub conclude_superposition-requires-clause-second_covers : goal.conclude_superposition-requires-clause-second_covers
conclude_superposition-requires-clause-second_covers c =
    let m = c.args.first.now.member.now in
    let n = c.args.second.now.member.now in
    let first = clause_at m.clause in
    let second = clause_at n.clause in
    let s = c.args.from in
    let t = c.args.into.now in
    let b = c.args.unifier.now in
    let r = c.requires.unified in
    let first_bound = bound_of (clause_variables first) in
    let second_bound = bound_of (clause_variables second) in
    let left = c.in_ok-left_terms.left_terms in
    let right = c.in_ok-right_terms.right_terms in
    let h : AreNamedTerms b first_bound second_bound left right =
    own_both b first_bound second_bound c.variable_bound-left_bound.result c.variable_bound-right_bound.result left right
    c.variable_bound-left_bound.ensures.variables c.variable_bound-right_bound.ensures.variables c.in_ok-left_terms.ensures c.in_ok-right_terms.ensures in
    right-many first s second t b r left right h

pub conclude_superposition-requires-clause-applies : goal.conclude_superposition-requires-clause-applies
conclude_superposition-requires-clause-applies c =
    let m = c.args.first.now.member.now in
    let n = c.args.second.now.member.now in
    let first = clause_at m.clause in
    let second = clause_at n.clause in
    let s = c.args.from in
    let t = c.args.into.now in
    let b = c.args.unifier.now in
    let r = c.requires.unified in
    let first_bound = bound_of (clause_variables first) in
    let second_bound = bound_of (clause_variables second) in
    let left = c.in_ok-left_terms.left_terms in
    let right = c.in_ok-right_terms.right_terms in
    let h : AreNamedTerms b first_bound second_bound left right =
    own_both b first_bound second_bound c.variable_bound-left_bound.result c.variable_bound-right_bound.result left right
    c.variable_bound-left_bound.ensures.variables c.variable_bound-right_bound.ensures.variables c.in_ok-left_terms.ensures c.in_ok-right_terms.ensures in
    ap is_some (superposition_gives first s second t b r left right h)

pub returns : goal.returns
returns c mode sites =
    let m = c.args.first.now.member.now in
    let n = c.args.second.now.member.now in
    let first = clause_at m.clause in
    let second = clause_at n.clause in
    let s = c.args.from in
    let t = c.args.into.now in
    let b = c.args.unifier.now in
    let r = c.requires.unified in
    let first_bound = bound_of (clause_variables first) in
    let second_bound = bound_of (clause_variables second) in
    let left = c.in_ok-left_terms.left_terms in
    let right = c.in_ok-right_terms.right_terms in
    let h : AreNamedTerms b first_bound second_bound left right =
    own_both b first_bound second_bound c.variable_bound-left_bound.result c.variable_bound-right_bound.result left right
    c.variable_bound-left_bound.ensures.variables c.variable_bound-right_bound.ensures.variables c.in_ok-left_terms.ensures c.in_ok-right_terms.ensures in
    let starts =
    ap (λ (ls : List TreeLiteral). starts_under ls s (substitution left)) (sym c.lend-left_literals.ensures) ∙ sym c.if-not-starts_under.ensures in
    let enters =
    ap₂ (λ (ls ks : List TreeLiteral). enters_under ls s ks t c.args.second.now.sites.now.choice (substitution left) (substitution right))
    (sym c.lend-left_literals.ensures) (sym c.lend-right_literals.ensures)
    ∙ sym c.if-not-enters_under.ensures in
    let allowed = ap₂ (λ x y. x && y) starts enters in
    concluded_by_step m n s t b r left right h mode c.args.second.now.sites.now.choice sites allowed
    c.in_ok-made.made (sym (c.requires.heavy r.starts.literal r.starts.there) ∙ c.if-heavy.false) c.in_ok-made.ensures
