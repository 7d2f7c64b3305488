use Rattle.std.proofs.Common.{◌≡◌, ◌≤◌, false, List, [], length, arith, ap, sym, ◌∙◌}
use Rattle.std.specs.Prelude.{sum_by}
use Rattle.std.proofs.lemmas.Option.{slice_get_within}
use Rattle.plain_types.specs.Capped.{capped}
use Rattle.fol_base.specs.Clause.{TreeLiteral, clause_size, clause_instance, clause_variables, literal_size}
use Rattle.fol_base.specs.Instance.{substitution}
use Rattle.fol_base.specs.Ground.{literals_instance}
use Rattle.fol_base.specs.Canonical.{bound_of}
use Rattle.fol_base.specs.Selection.{eligible, select_nothing}
use Rattle.fol_base.specs.declared.clause.Side.TheVariants.{Left}
use Rattle.fol_base.specs.declared.limits.TheConstants.{MOST_SYMBOLS, SIZE_LIMIT}
use Rattle.term_bank.specs.Literal.{literals_at}
use Rattle.bank_clause.specs.Clause.{clause_at}
use Rattle.unifier.specs.Renaming.{AreNamedTerms}
use Rattle.unifier.proofs.AboutLayouts.BoundLemmas.{fits-above}
use Rattle.eq_rules.specs.Inferences.{alone}
use Rattle.eq_rules.proofs.AboutConclusions.MadeLemmas.{size_above, size_within, alone_there, made_by_resolution}
use Rattle.eq_rules.proofs.AboutConclusions.PremiseLemmas.{own_terms, Terms, terms_of, literal-below, literal-kind}
use Rattle.eq_rules.proofs.AboutResolution.ResolutionLemmas.{resolution_heavy, eligible_before, resolution_not_eligible, resolution_applies, resolution_concluded}
use Rattle.eq_rules.proofs.resolving.resolution_by.Goals as goal
use Rattle.unifier.specs.SolvedForm.{substitution_of}

pub terms-requires-clause-fits : goal.terms-requires-clause-fits
terms-requires-clause-fits c =
    let few : bound_of (clause_variables (clause_at c.args.given.now.clause)) ≤ SIZE_LIMIT =
    omega (arith, c.variable_bound.ensures.variables, c.variable_bound.ensures.limit) in
    fits-above c.args.unifier.now (bound_of (clause_variables (clause_at c.args.given.now.clause))) 0 SIZE_LIMIT SIZE_LIMIT few (omega arith) c.requires.unified.counted

pub is_eligible_by_size-requires-clause-inside : goal.is_eligible_by_size-requires-clause-inside
is_eligible_by_size-requires-clause-inside c =
    let d = clause_at c.args.given.now.clause in
    let r = c.requires.unified in
    slice_get_within d.literals c.args.index r.literal r.there

pub returns-then-sure : goal.returns-then-sure
returns-then-sure c mode choice_is usage used =
    let m = c.args.given.now in
    let d = clause_at m.clause in
    let i = c.args.index in
    let b = c.args.unifier.now in
    let σ = substitution_of b Left in
    let size : c.in_ok-size.size ≡ capped (clause_size (clause_instance σ d)) =
    c.in_ok-size.ensures ∙ ap (λ ls. capped (sum_by literal_size (literals_instance σ (literals_at ls)))) c.literals.ensures.literals in
    resolution_heavy usage.is_predicate mode (alone m) m.number d i (alone_there m) b c.requires.unified
    (ap (λ o. eligible (literals_instance σ d.literals) i o false) (sym choice_is) ∙ c.in_ok-sure.ensures c.if-sure.true)
    (size_above c.in_ok-size.size (clause_size (clause_instance σ d)) MOST_SYMBOLS size c.if-size-gt-MOST_SYMBOLS.true)

pub eligible_under-requires-clause-in_range : goal.eligible_under-requires-clause-in_range
eligible_under-requires-clause-in_range c =
    let d = clause_at c.args.given.now.clause in
    let r = c.requires.unified in
    omega (arith, ap (λ (ls : List TreeLiteral). length ls) c.lend.ensures, slice_get_within d.literals c.args.index r.literal r.there)

pub eligible_under-requires-clause-size : goal.eligible_under-requires-clause-size
eligible_under-requires-clause-size c =
    let d = clause_at c.args.given.now.clause in
    let r = c.requires.unified in
    let b = c.args.unifier.now in
    let σ = substitution_of b Left in
    let n = bound_of (clause_variables d) in
    let terms = c.in_ok-terms.terms in
    let below = literal-below d c.args.index r.literal r.there in
    let h : AreNamedTerms b n 0 terms [] = own_terms b n c.variable_bound.result terms c.variable_bound.ensures.variables c.in_ok-terms.ensures in
    let t : Terms d r.literal.left r.literal.right b terms =
    terms_of d r.literal.left r.literal.right b terms [] r.unified below.0 below.1 h in
    let size : c.in_ok-size.size ≡ capped (clause_size (clause_instance σ d)) =
    c.in_ok-size.ensures ∙ ap (λ ls. capped (sum_by literal_size (literals_instance σ (literals_at ls)))) c.literals.ensures.literals in
    let lent : sum_by literal_size (literals_instance (substitution terms) c.lend.result) ≡ sum_by literal_size (literals_instance (substitution terms) d.literals) =
    ap (λ ls. sum_by literal_size (literals_instance (substitution terms) ls)) c.lend.ensures in
    let small : c.in_ok-size.size ≤ SIZE_LIMIT = omega (arith, c.if-size-ge-SIZE_LIMIT.false) in
    let within = size_within c.in_ok-size.size (clause_size (clause_instance σ d)) SIZE_LIMIT (omega arith) size small in
    omega (arith, lent, t.size, within)

pub returns-then-not-eligible_under : goal.returns-then-not-eligible_under
returns-then-not-eligible_under c mode choice_is usage used =
    let m = c.args.given.now in
    let d = clause_at m.clause in
    let i = c.args.index in
    let b = c.args.unifier.now in
    let n = bound_of (clause_variables d) in
    let terms = c.in_ok-terms.terms in
    let h : AreNamedTerms b n 0 terms [] = own_terms b n c.variable_bound.result terms c.variable_bound.ensures.variables c.in_ok-terms.ensures in
    resolution_not_eligible usage.is_predicate mode (alone m) m.number d i (alone_there m) b c.requires.unified terms [] h
    (ap (λ o. eligible (literals_instance (substitution terms) d.literals) i o false) (sym choice_is)
    ∙ ap (λ ls. eligible (literals_instance (substitution terms) ls) i c.args.choice false) (sym c.lend.ensures)
    ∙ sym c.if-not-eligible_under.ensures)

pub returns-then-size-gt-MOST_SYMBOLS-2 : goal.returns-then-size-gt-MOST_SYMBOLS-2
returns-then-size-gt-MOST_SYMBOLS-2 c mode choice_is usage used =
    let m = c.args.given.now in
    let d = clause_at m.clause in
    let i = c.args.index in
    let b = c.args.unifier.now in
    let σ = substitution_of b Left in
    let n = bound_of (clause_variables d) in
    let terms = c.in_ok-terms.terms in
    let h : AreNamedTerms b n 0 terms [] = own_terms b n c.variable_bound.result terms c.variable_bound.ensures.variables c.in_ok-terms.ensures in
    let size : c.in_ok-size.size ≡ capped (clause_size (clause_instance σ d)) =
    c.in_ok-size.ensures ∙ ap (λ ls. capped (sum_by literal_size (literals_instance σ (literals_at ls)))) c.literals.ensures.literals in
    resolution_heavy usage.is_predicate mode (alone m) m.number d i (alone_there m) b c.requires.unified
    (eligible_before usage.is_predicate mode (alone m) m.number d i (alone_there m) b c.requires.unified terms [] h
    (ap (λ o. eligible (literals_instance (substitution terms) d.literals) i o false) (sym choice_is)
    ∙ ap (λ ls. eligible (literals_instance (substitution terms) ls) i c.args.choice false) (sym c.lend.ensures)
    ∙ sym c.if-not-eligible_under.ensures))
    (size_above c.in_ok-size.size (clause_size (clause_instance σ d)) MOST_SYMBOLS size c.if-size-gt-MOST_SYMBOLS-2.true)

pub conclude_resolution-requires-clause-inside : goal.conclude_resolution-requires-clause-inside
conclude_resolution-requires-clause-inside c =
    let d = clause_at c.args.given.now.clause in
    let r = c.requires.unified in
    slice_get_within d.literals c.args.index r.literal r.there

pub conclude_resolution-requires-clause-covers : goal.conclude_resolution-requires-clause-covers
conclude_resolution-requires-clause-covers c =
    let d = clause_at c.args.given.now.clause in
    let r = c.requires.unified in
    let b = c.args.unifier.now in
    let n = bound_of (clause_variables d) in
    let terms = c.in_ok-terms.terms in
    let below = literal-below d c.args.index r.literal r.there in
    let h : AreNamedTerms b n 0 terms [] = own_terms b n c.variable_bound.result terms c.variable_bound.ensures.variables c.in_ok-terms.ensures in
    (terms_of d r.literal.left r.literal.right b terms [] r.unified below.0 below.1 h).many

pub conclude_resolution-requires-clause-applies : goal.conclude_resolution-requires-clause-applies
conclude_resolution-requires-clause-applies c =
    let m = c.args.given.now in
    let d = clause_at m.clause in
    let b = c.args.unifier.now in
    let n = bound_of (clause_variables d) in
    let terms = c.in_ok-terms.terms in
    let h : AreNamedTerms b n 0 terms [] = own_terms b n c.variable_bound.result terms c.variable_bound.ensures.variables c.in_ok-terms.ensures in
    resolution_applies (λ f. false) select_nothing (alone m) m.number d c.args.index (alone_there m) b c.requires.unified terms [] h

pub returns : goal.returns
returns c mode choice_is usage used =
    let m = c.args.given.now in
    let d = clause_at m.clause in
    let i = c.args.index in
    let b = c.args.unifier.now in
    let r = c.requires.unified in
    let σ = substitution_of b Left in
    let n = bound_of (clause_variables d) in
    let terms = c.in_ok-terms.terms in
    let h : AreNamedTerms b n 0 terms [] = own_terms b n c.variable_bound.result terms c.variable_bound.ensures.variables c.in_ok-terms.ensures in
    let size : c.in_ok-size.size ≡ capped (clause_size (clause_instance σ d)) =
    c.in_ok-size.ensures ∙ ap (λ ls. capped (sum_by literal_size (literals_instance σ (literals_at ls)))) c.literals.ensures.literals in
    made_by_resolution usage.is_predicate mode (alone m) m.number d i terms c.in_ok-conclude_resolution.field-0 c.in_ok-conclude_resolution.ensures
    (resolution_concluded usage.is_predicate mode (alone m) m.number d i (alone_there m) b r terms [] h
    (literal-kind usage d i r.literal used r.there)
    (ap (λ o. eligible (literals_instance (substitution terms) d.literals) i o false) (sym choice_is)
    ∙ ap (λ ls. eligible (literals_instance (substitution terms) ls) i c.args.choice false) (sym c.lend.ensures)
    ∙ sym c.if-not-eligible_under.ensures)
    (size_within c.in_ok-size.size (clause_size (clause_instance σ d)) MOST_SYMBOLS (omega arith) size c.if-size-gt-MOST_SYMBOLS-2.false))
