use Rattle.std.proofs.Common.{◌≡◌, ◌≤◌, ◌-◌, ◌^◌, ◌&&◌, min, true, false, None, List, [], length, refl, inl, inr, ⊎_elim, arith, ap, sym, ◌∙◌, subst}
use Rattle.std.specs.Prelude.{sum_by, slice_get, IfSome}
use Rattle.std.proofs.lemmas.Bool.{and_parts, cases_Bool}
use Rattle.std.proofs.lemmas.Option.{slice_get_within}
use Rattle.plain_types.specs.Capped.{capped}
use Rattle.fol_base.specs.Tree.{tree_size}
use Rattle.fol_base.specs.Instance.{instance, substitution}
use Rattle.fol_base.specs.Clause.{TreeLiteral, clause_size, clause_instance, clause_variables, literal_size, literal_instance}
use Rattle.fol_base.specs.Ground.{literals_instance}
use Rattle.fol_base.specs.Canonical.{bound_of, terms_from}
use Rattle.fol_base.specs.Lent.{lent_of}
use Rattle.fol_base.specs.Selection.{eligible, select_nothing}
use Rattle.fol_base.specs.Sides.{side_of, other_side_of}
use Rattle.fol_base.specs.declared.clause.Side.TheVariants.{Left}
use Rattle.fol_base.specs.declared.limits.TheConstants.{MOST_SYMBOLS, SIZE_LIMIT}
use Rattle.kernel_steps.specs.Inference.{other_side_not_above}
use Rattle.term_bank.specs.Literal.{literals_at}
use Rattle.bank_clause.specs.Clause.{clause_at}
use Rattle.unifier.specs.Renaming.{AreNamedTerms}
use Rattle.unifier.proofs.AboutLayouts.BoundLemmas.{fits-above}
use Rattle.eq_rules.specs.Inferences.{alone}
use Rattle.eq_rules.proofs.AboutFactoring.FactorAnswers.{lent_there, sides_size, total_size, told_size}
use Rattle.eq_rules.proofs.AboutFactoring.FactoringLemmas.{factor_terms, factoring_not_eligible, factoring_not_ordered, factoring_applies, plain_size, factoring_heavy, factoring_concluded}
use Rattle.eq_rules.proofs.AboutConclusions.SideLemmas.{alike-kinds}
use Rattle.eq_rules.proofs.AboutConclusions.MadeLemmas.{size_above, size_within, alone_there, made_by_factoring}
use Rattle.eq_rules.proofs.AboutConclusions.PremiseLemmas.{own_terms, literal-below, literal-kind}
use Rattle.eq_rules.proofs.AboutConclusions.OutsizeLemmas.{own-literals, own-not-above}
use Rattle.eq_rules.specs.Factoring.{allows, literal_allows}
use Rattle.eq_rules.proofs.factoring.factoring_by.Goals as goal
use Rattle.unifier.specs.SolvedForm.{substitution_of}
use Rattle.kbo_order.proofs.AboutMultisets.ClauseLoops.{mapped-size}

pub terms-requires-clause-fits : goal.terms-requires-clause-fits
terms-requires-clause-fits c =
    let few : bound_of (clause_variables (clause_at c.args.given.now.clause)) ≤ SIZE_LIMIT =
    omega (arith, c.variable_bound.ensures.variables, c.variable_bound.ensures.limit) in
    fits-above c.args.unifier.now (bound_of (clause_variables (clause_at c.args.given.now.clause))) 0 SIZE_LIMIT SIZE_LIMIT few (omega arith) c.requires.unified.counted

pub returns-in-Some-true : goal.returns-in-Some-true
returns-in-Some-true c mode none usage used =
    let m = c.args.given.now in
    let d = clause_at m.clause in
    let place = c.args.place in
    let b = c.args.unifier.now in
    let r = c.requires.unified in
    let n = bound_of (clause_variables d) in
    let σ = substitution_of b Left in
    let terms = terms_from 0 n σ in
    let h : AreNamedTerms b n 0 terms [] = own_terms b n n terms refl refl in
    let size : c.in_ok-size.size ≡ capped (clause_size (clause_instance σ d)) =
    c.in_ok-size.ensures ∙ ap (λ ls. capped (sum_by literal_size (literals_instance σ (literals_at ls)))) c.literals.ensures.literals in
    let kinds =
    alike-kinds usage.is_predicate r.literal_i place.becomes.side r.literal_j place.other.side
    (literal-kind usage d place.becomes.literal r.literal_i used r.i_there) (literal-kind usage d place.other.literal r.literal_j used r.j_there) r.alike in
    let allowed : allows σ d.literals place ≡ true =
    subst (λ o. IfSome o (λ told. allows σ d.literals place ≡ told)) c.in-Some-true.is c.in_ok-allowed_by_sizes.ensures ∙ c.in-Some-true.field-0-test in
    let parts = and_parts (literal_allows σ place.becomes.side (slice_get d.literals place.becomes.literal)) _ allowed in
    let ordered =
    own-not-above n σ place.becomes.side r.literal_i (literal-below d place.becomes.literal r.literal_i r.i_there)
    ∙ ap (literal_allows σ place.becomes.side) (sym r.i_there) ∙ parts.0 in
    let is_eligible = ap (λ ls. eligible ls place.becomes.literal None false) (own-literals d σ) ∙ parts.1 in
    factoring_heavy usage.is_predicate mode (alone m) m.number d place (alone_there m) b r terms [] h none kinds ordered is_eligible
    (inl (size_above c.in_ok-size.size (clause_size (clause_instance σ d)) MOST_SYMBOLS size c.if-is_overweight.true))

pub returns-in-Some-false : goal.returns-in-Some-false
returns-in-Some-false c mode none usage used e it =
    let m = c.args.given.now in
    let d = clause_at m.clause in
    let place = c.args.place in
    let b = c.args.unifier.now in
    let r = c.requires.unified in
    let n = bound_of (clause_variables d) in
    let σ = substitution_of b Left in
    let terms = terms_from 0 n σ in
    let h : AreNamedTerms b n 0 terms [] = own_terms b n n terms refl refl in
    let refused : allows σ d.literals place ≡ false =
    subst (λ o. IfSome o (λ told. allows σ d.literals place ≡ told)) c.in-Some-false.is c.in_ok-allowed_by_sizes.ensures ∙ c.in-Some-false.field-0-test in
    let here : literal_allows σ place.becomes.side (slice_get d.literals place.becomes.literal) ≡ other_side_not_above σ place.becomes.side r.literal_i =
    ap (literal_allows σ place.becomes.side) r.i_there in
    let ordered = own-not-above n σ place.becomes.side r.literal_i (literal-below d place.becomes.literal r.literal_i r.i_there) in
    let is_eligible = ap (λ ls. eligible ls place.becomes.literal None false) (own-literals d σ) in
    ⊎_elim
    (λ yes_.
    factoring_not_eligible usage.is_predicate mode (alone m) m.number d place (alone_there m) b r terms [] h none
    (is_eligible ∙ ap (λ x. x && eligible (literals_instance σ d.literals) place.becomes.literal None false) (sym (here ∙ yes_)) ∙ refused) e it)
    (λ no_.
    factoring_not_ordered usage.is_predicate mode (alone m) m.number d place (alone_there m) b r terms [] h (ordered ∙ no_) e it)
    (cases_Bool (other_side_not_above σ place.becomes.side r.literal_i))

pub is_not_below-requires : goal.is_not_below-requires
is_not_below-requires c =
    let m = c.args.given.now in
    let d = clause_at m.clause in
    let place = c.args.place in
    let b = c.args.unifier.now in
    let r = c.requires.unified in
    let n = bound_of (clause_variables d) in
    let terms = c.in_ok-terms.terms in
    let h : AreNamedTerms b n 0 terms [] = own_terms b n c.variable_bound.result terms c.variable_bound.ensures.variables c.in_ok-terms.ensures in
    let σ = substitution_of b Left in
    let size : c.in_ok-size.size ≡ capped (clause_size (clause_instance σ d)) =
    c.in_ok-size.ensures ∙ ap (λ ls. capped (sum_by literal_size (literals_instance σ (literals_at ls)))) c.literals.ensures.literals in
    let lent_is = lent_there c.lend-literals.result d.literals place.becomes.literal (lent_of c.literal-becomes.result) r.literal_i c.lend-literals.ensures c.literal-becomes.ensures r.i_there in
    let total = total_size c.in_ok-size.size (clause_size (clause_instance σ d)) size (omega (arith, c.if-size-ge-SIZE_LIMIT.false)) in
    let t = factor_terms (λ f. false) select_nothing (alone m) m.number d place (alone_there m) b r terms [] h in
    let here = ap (λ l. literal_size (literal_instance (substitution terms) l)) lent_is in
    let low = mapped-size (substitution terms) d.literals place.becomes.literal r.literal_i r.i_there in
    omega (arith, here, low, t.size, total, c.if-size-ge-SIZE_LIMIT.false)

pub returns-then-not-is_not_below : goal.returns-then-not-is_not_below
returns-then-not-is_not_below c mode none usage used e it =
    let m = c.args.given.now in
    let d = clause_at m.clause in
    let place = c.args.place in
    let b = c.args.unifier.now in
    let r = c.requires.unified in
    let n = bound_of (clause_variables d) in
    let terms = c.in_ok-terms.terms in
    let h : AreNamedTerms b n 0 terms [] = own_terms b n c.variable_bound.result terms c.variable_bound.ensures.variables c.in_ok-terms.ensures in
    let lent_is = lent_there c.lend-literals.result d.literals place.becomes.literal (lent_of c.literal-becomes.result) r.literal_i c.lend-literals.ensures c.literal-becomes.ensures r.i_there in
    factoring_not_ordered usage.is_predicate mode (alone m) m.number d place (alone_there m) b r terms [] h
    (ap (λ l. other_side_not_above (substitution terms) place.becomes.side l) (sym lent_is) ∙ sym c.if-not-is_not_below.ensures) e it

pub eligible_under-requires-clause-in_range : goal.eligible_under-requires-clause-in_range
eligible_under-requires-clause-in_range c =
    let d = clause_at c.args.given.now.clause in
    let r = c.requires.unified in
    omega (arith, ap (λ (ls : List TreeLiteral). length ls) c.lend-literals.ensures, slice_get_within d.literals c.args.place.becomes.literal r.literal_i r.i_there)

pub eligible_under-requires-clause-size : goal.eligible_under-requires-clause-size
eligible_under-requires-clause-size c =
    let m = c.args.given.now in
    let d = clause_at m.clause in
    let place = c.args.place in
    let b = c.args.unifier.now in
    let r = c.requires.unified in
    let n = bound_of (clause_variables d) in
    let terms = c.in_ok-terms.terms in
    let h : AreNamedTerms b n 0 terms [] = own_terms b n c.variable_bound.result terms c.variable_bound.ensures.variables c.in_ok-terms.ensures in
    let σ = substitution_of b Left in
    let size : c.in_ok-size.size ≡ capped (clause_size (clause_instance σ d)) =
    c.in_ok-size.ensures ∙ ap (λ ls. capped (sum_by literal_size (literals_instance σ (literals_at ls)))) c.literals.ensures.literals in
    let total = total_size c.in_ok-size.size (clause_size (clause_instance σ d)) size (omega (arith, c.if-size-ge-SIZE_LIMIT.false)) in
    let t = factor_terms (λ f. false) select_nothing (alone m) m.number d place (alone_there m) b r terms [] h in
    let lent : sum_by literal_size (literals_instance (substitution terms) c.lend-literals.result) ≡ sum_by literal_size (literals_instance (substitution terms) d.literals) =
    ap (λ ls. sum_by literal_size (literals_instance (substitution terms) ls)) c.lend-literals.ensures in
    omega (arith, lent, t.size, total, c.if-size-ge-SIZE_LIMIT.false)

pub returns-then-not-eligible_under : goal.returns-then-not-eligible_under
returns-then-not-eligible_under c mode none usage used e it =
    let m = c.args.given.now in
    let d = clause_at m.clause in
    let place = c.args.place in
    let b = c.args.unifier.now in
    let r = c.requires.unified in
    let n = bound_of (clause_variables d) in
    let terms = c.in_ok-terms.terms in
    let h : AreNamedTerms b n 0 terms [] = own_terms b n c.variable_bound.result terms c.variable_bound.ensures.variables c.in_ok-terms.ensures in
    factoring_not_eligible usage.is_predicate mode (alone m) m.number d place (alone_there m) b r terms [] h none
    (ap (λ ls. eligible (literals_instance (substitution terms) ls) place.becomes.literal None false) (sym c.lend-literals.ensures)
    ∙ sym c.if-not-eligible_under.ensures) e it

pub returns-then-size-gt-MOST_SYMBOLS : goal.returns-then-size-gt-MOST_SYMBOLS
returns-then-size-gt-MOST_SYMBOLS c mode none usage used =
    let m = c.args.given.now in
    let d = clause_at m.clause in
    let place = c.args.place in
    let b = c.args.unifier.now in
    let r = c.requires.unified in
    let n = bound_of (clause_variables d) in
    let terms = c.in_ok-terms.terms in
    let h : AreNamedTerms b n 0 terms [] = own_terms b n c.variable_bound.result terms c.variable_bound.ensures.variables c.in_ok-terms.ensures in
    let σ = substitution_of b Left in
    let size : c.in_ok-size.size ≡ capped (clause_size (clause_instance σ d)) =
    c.in_ok-size.ensures ∙ ap (λ ls. capped (sum_by literal_size (literals_instance σ (literals_at ls)))) c.literals.ensures.literals in
    let lent_is = lent_there c.lend-literals.result d.literals place.becomes.literal (lent_of c.literal-becomes.result) r.literal_i c.lend-literals.ensures c.literal-becomes.ensures r.i_there in
    let kinds =
    alike-kinds usage.is_predicate r.literal_i place.becomes.side r.literal_j place.other.side
    (literal-kind usage d place.becomes.literal r.literal_i used r.i_there) (literal-kind usage d place.other.literal r.literal_j used r.j_there) r.alike in
    let ordered = ap (λ l. other_side_not_above (substitution terms) place.becomes.side l) (sym lent_is) ∙ sym c.if-not-is_not_below.ensures in
    let is_eligible = ap (λ ls. eligible (literals_instance (substitution terms) ls) place.becomes.literal None false) (sym c.lend-literals.ensures) ∙ sym c.if-not-eligible_under.ensures in
    factoring_heavy usage.is_predicate mode (alone m) m.number d place (alone_there m) b r terms [] h none kinds ordered is_eligible
    (inl (size_above c.in_ok-size.size (clause_size (clause_instance σ d)) MOST_SYMBOLS size c.if-size-gt-MOST_SYMBOLS.true))

pub literal-other-requires : goal.literal-other-requires
literal-other-requires c =
    let d = clause_at c.args.given.now.clause in
    let r = c.requires.unified in
    omega (arith, ap (λ (ls : List TreeLiteral). length ls) c.lend-literals.ensures, slice_get_within d.literals c.args.place.other.literal r.literal_j r.j_there)

pub overflow_sub-size : goal.overflow_sub-size
overflow_sub-size c =
    let m = c.args.given.now in
    let d = clause_at m.clause in
    let place = c.args.place in
    let b = c.args.unifier.now in
    let r = c.requires.unified in
    let n = bound_of (clause_variables d) in
    let terms = c.in_ok-terms.terms in
    let h : AreNamedTerms b n 0 terms [] = own_terms b n c.variable_bound.result terms c.variable_bound.ensures.variables c.in_ok-terms.ensures in
    let σ = substitution_of b Left in
    let size : c.in_ok-size.size ≡ capped (clause_size (clause_instance σ d)) =
    c.in_ok-size.ensures ∙ ap (λ ls. capped (sum_by literal_size (literals_instance σ (literals_at ls)))) c.literals.ensures.literals in
    let lent_is = lent_there c.lend-literals.result d.literals place.becomes.literal (lent_of c.literal-becomes.result) r.literal_i c.lend-literals.ensures c.literal-becomes.ensures r.i_there in
    let total = total_size c.in_ok-size.size (clause_size (clause_instance σ d)) size (omega (arith, c.if-size-ge-SIZE_LIMIT.false)) in
    let t = factor_terms (λ f. false) select_nothing (alone m) m.number d place (alone_there m) b r terms [] h in
    let other_is = lent_there c.lend-literals.result d.literals place.other.literal (lent_of c.literal-other.result) r.literal_j c.lend-literals.ensures c.literal-other.ensures r.j_there in
    let s = side_of place.becomes.side r.literal_i in
    let v = other_side_of place.other.side r.literal_j in
    let goes : c.instance_size-goes.result ≡ min (tree_size (instance (substitution terms) s)) (2 ^ 64 - 1) =
    c.instance_size-goes.ensures ∙ ap (λ x. min (tree_size (instance (substitution terms) x)) (2 ^ 64 - 1)) (c.side.ensures ∙ ap (side_of place.becomes.side) lent_is) in
    let comes : c.instance_size-comes.result ≡ min (tree_size (instance (substitution terms) v)) (2 ^ 64 - 1) =
    c.instance_size-comes.ensures ∙ ap (λ x. min (tree_size (instance (substitution terms) x)) (2 ^ 64 - 1)) (c.other_side.ensures ∙ ap (other_side_of place.other.side) other_is) in
    let whole_is : sum_by literal_size (literals_instance (substitution terms) d.literals) ≡ c.in_ok-size.size = t.size ∙ total in
    let first = mapped-size (substitution terms) d.literals place.becomes.literal r.literal_i r.i_there in
    let second = mapped-size (substitution terms) d.literals place.other.literal r.literal_j r.j_there in
    let told =
    told_size _ (tree_size (instance (substitution terms) s)) (tree_size (instance (substitution terms) v))
    (sum_by literal_size (literals_instance (substitution terms) d.literals)) c.in_ok-size.size c.instance_size-goes.result c.instance_size-comes.result
    (plain_size (λ f. false) select_nothing (alone m) m.number d place (alone_there m) b r terms [] h) whole_is
    (omega (arith, first, sides_size (substitution terms) place.becomes.side r.literal_i, whole_is))
    (omega (arith, second, sides_size (substitution terms) place.other.side r.literal_j, whole_is))
    (omega (arith, c.if-size-gt-MOST_SYMBOLS.false)) goes comes in
    told.0

pub overflow_add-size : goal.overflow_add-size
overflow_add-size c =
    let m = c.args.given.now in
    let d = clause_at m.clause in
    let place = c.args.place in
    let b = c.args.unifier.now in
    let r = c.requires.unified in
    let n = bound_of (clause_variables d) in
    let terms = c.in_ok-terms.terms in
    let h : AreNamedTerms b n 0 terms [] = own_terms b n c.variable_bound.result terms c.variable_bound.ensures.variables c.in_ok-terms.ensures in
    let σ = substitution_of b Left in
    let size : c.in_ok-size.size ≡ capped (clause_size (clause_instance σ d)) =
    c.in_ok-size.ensures ∙ ap (λ ls. capped (sum_by literal_size (literals_instance σ (literals_at ls)))) c.literals.ensures.literals in
    let lent_is = lent_there c.lend-literals.result d.literals place.becomes.literal (lent_of c.literal-becomes.result) r.literal_i c.lend-literals.ensures c.literal-becomes.ensures r.i_there in
    let total = total_size c.in_ok-size.size (clause_size (clause_instance σ d)) size (omega (arith, c.if-size-ge-SIZE_LIMIT.false)) in
    let t = factor_terms (λ f. false) select_nothing (alone m) m.number d place (alone_there m) b r terms [] h in
    let other_is = lent_there c.lend-literals.result d.literals place.other.literal (lent_of c.literal-other.result) r.literal_j c.lend-literals.ensures c.literal-other.ensures r.j_there in
    let s = side_of place.becomes.side r.literal_i in
    let v = other_side_of place.other.side r.literal_j in
    let goes : c.instance_size-goes.result ≡ min (tree_size (instance (substitution terms) s)) (2 ^ 64 - 1) =
    c.instance_size-goes.ensures ∙ ap (λ x. min (tree_size (instance (substitution terms) x)) (2 ^ 64 - 1)) (c.side.ensures ∙ ap (side_of place.becomes.side) lent_is) in
    let comes : c.instance_size-comes.result ≡ min (tree_size (instance (substitution terms) v)) (2 ^ 64 - 1) =
    c.instance_size-comes.ensures ∙ ap (λ x. min (tree_size (instance (substitution terms) x)) (2 ^ 64 - 1)) (c.other_side.ensures ∙ ap (other_side_of place.other.side) other_is) in
    let whole_is : sum_by literal_size (literals_instance (substitution terms) d.literals) ≡ c.in_ok-size.size = t.size ∙ total in
    let first = mapped-size (substitution terms) d.literals place.becomes.literal r.literal_i r.i_there in
    let second = mapped-size (substitution terms) d.literals place.other.literal r.literal_j r.j_there in
    let told =
    told_size _ (tree_size (instance (substitution terms) s)) (tree_size (instance (substitution terms) v))
    (sum_by literal_size (literals_instance (substitution terms) d.literals)) c.in_ok-size.size c.instance_size-goes.result c.instance_size-comes.result
    (plain_size (λ f. false) select_nothing (alone m) m.number d place (alone_there m) b r terms [] h) whole_is
    (omega (arith, first, sides_size (substitution terms) place.becomes.side r.literal_i, whole_is))
    (omega (arith, second, sides_size (substitution terms) place.other.side r.literal_j, whole_is))
    (omega (arith, c.if-size-gt-MOST_SYMBOLS.false)) goes comes in
    omega (arith, told.0, told.2, c.if-size-gt-MOST_SYMBOLS.false)

pub returns-then-size-goes-gt-MOST_SYMBOLS : goal.returns-then-size-goes-gt-MOST_SYMBOLS
returns-then-size-goes-gt-MOST_SYMBOLS c mode none usage used =
    let m = c.args.given.now in
    let d = clause_at m.clause in
    let place = c.args.place in
    let b = c.args.unifier.now in
    let r = c.requires.unified in
    let n = bound_of (clause_variables d) in
    let terms = c.in_ok-terms.terms in
    let h : AreNamedTerms b n 0 terms [] = own_terms b n c.variable_bound.result terms c.variable_bound.ensures.variables c.in_ok-terms.ensures in
    let σ = substitution_of b Left in
    let size : c.in_ok-size.size ≡ capped (clause_size (clause_instance σ d)) =
    c.in_ok-size.ensures ∙ ap (λ ls. capped (sum_by literal_size (literals_instance σ (literals_at ls)))) c.literals.ensures.literals in
    let lent_is = lent_there c.lend-literals.result d.literals place.becomes.literal (lent_of c.literal-becomes.result) r.literal_i c.lend-literals.ensures c.literal-becomes.ensures r.i_there in
    let total = total_size c.in_ok-size.size (clause_size (clause_instance σ d)) size (omega (arith, c.if-size-ge-SIZE_LIMIT.false)) in
    let t = factor_terms (λ f. false) select_nothing (alone m) m.number d place (alone_there m) b r terms [] h in
    let other_is = lent_there c.lend-literals.result d.literals place.other.literal (lent_of c.literal-other.result) r.literal_j c.lend-literals.ensures c.literal-other.ensures r.j_there in
    let s = side_of place.becomes.side r.literal_i in
    let v = other_side_of place.other.side r.literal_j in
    let goes : c.instance_size-goes.result ≡ min (tree_size (instance (substitution terms) s)) (2 ^ 64 - 1) =
    c.instance_size-goes.ensures ∙ ap (λ x. min (tree_size (instance (substitution terms) x)) (2 ^ 64 - 1)) (c.side.ensures ∙ ap (side_of place.becomes.side) lent_is) in
    let comes : c.instance_size-comes.result ≡ min (tree_size (instance (substitution terms) v)) (2 ^ 64 - 1) =
    c.instance_size-comes.ensures ∙ ap (λ x. min (tree_size (instance (substitution terms) x)) (2 ^ 64 - 1)) (c.other_side.ensures ∙ ap (other_side_of place.other.side) other_is) in
    let whole_is : sum_by literal_size (literals_instance (substitution terms) d.literals) ≡ c.in_ok-size.size = t.size ∙ total in
    let first = mapped-size (substitution terms) d.literals place.becomes.literal r.literal_i r.i_there in
    let second = mapped-size (substitution terms) d.literals place.other.literal r.literal_j r.j_there in
    let told =
    told_size _ (tree_size (instance (substitution terms) s)) (tree_size (instance (substitution terms) v))
    (sum_by literal_size (literals_instance (substitution terms) d.literals)) c.in_ok-size.size c.instance_size-goes.result c.instance_size-comes.result
    (plain_size (λ f. false) select_nothing (alone m) m.number d place (alone_there m) b r terms [] h) whole_is
    (omega (arith, first, sides_size (substitution terms) place.becomes.side r.literal_i, whole_is))
    (omega (arith, second, sides_size (substitution terms) place.other.side r.literal_j, whole_is))
    (omega (arith, c.if-size-gt-MOST_SYMBOLS.false)) goes comes in
    let kinds =
    alike-kinds usage.is_predicate r.literal_i place.becomes.side r.literal_j place.other.side
    (literal-kind usage d place.becomes.literal r.literal_i used r.i_there) (literal-kind usage d place.other.literal r.literal_j used r.j_there) r.alike in
    let ordered = ap (λ l. other_side_not_above (substitution terms) place.becomes.side l) (sym lent_is) ∙ sym c.if-not-is_not_below.ensures in
    let is_eligible = ap (λ ls. eligible (literals_instance (substitution terms) ls) place.becomes.literal None false) (sym c.lend-literals.ensures) ∙ sym c.if-not-eligible_under.ensures in
    factoring_heavy usage.is_predicate mode (alone m) m.number d place (alone_there m) b r terms [] h none kinds ordered is_eligible
    (inr (omega (arith, told.1, c.if-size-goes-gt-MOST_SYMBOLS.true)))

pub conclude_factoring-requires-clause-becomes_inside : goal.conclude_factoring-requires-clause-becomes_inside
conclude_factoring-requires-clause-becomes_inside c =
    let d = clause_at c.args.given.now.clause in
    let r = c.requires.unified in
    slice_get_within d.literals c.args.place.becomes.literal r.literal_i r.i_there

pub conclude_factoring-requires-clause-other_inside : goal.conclude_factoring-requires-clause-other_inside
conclude_factoring-requires-clause-other_inside c =
    let d = clause_at c.args.given.now.clause in
    let r = c.requires.unified in
    slice_get_within d.literals c.args.place.other.literal r.literal_j r.j_there

pub conclude_factoring-requires-clause-covers : goal.conclude_factoring-requires-clause-covers
conclude_factoring-requires-clause-covers c =
    let m = c.args.given.now in
    let d = clause_at m.clause in
    let place = c.args.place in
    let b = c.args.unifier.now in
    let r = c.requires.unified in
    let n = bound_of (clause_variables d) in
    let terms = c.in_ok-terms.terms in
    let h : AreNamedTerms b n 0 terms [] = own_terms b n c.variable_bound.result terms c.variable_bound.ensures.variables c.in_ok-terms.ensures in
    (factor_terms (λ f. false) select_nothing (alone m) m.number d place (alone_there m) b r terms [] h).many

pub conclude_factoring-requires-clause-applies : goal.conclude_factoring-requires-clause-applies
conclude_factoring-requires-clause-applies c =
    let m = c.args.given.now in
    let d = clause_at m.clause in
    let place = c.args.place in
    let b = c.args.unifier.now in
    let r = c.requires.unified in
    let n = bound_of (clause_variables d) in
    let terms = c.in_ok-terms.terms in
    let h : AreNamedTerms b n 0 terms [] = own_terms b n c.variable_bound.result terms c.variable_bound.ensures.variables c.in_ok-terms.ensures in
    factoring_applies (λ f. false) select_nothing (alone m) m.number d place (alone_there m) b r terms [] h

pub returns : goal.returns
returns c mode none usage used =
    let m = c.args.given.now in
    let d = clause_at m.clause in
    let place = c.args.place in
    let b = c.args.unifier.now in
    let r = c.requires.unified in
    let n = bound_of (clause_variables d) in
    let terms = c.in_ok-terms.terms in
    let h : AreNamedTerms b n 0 terms [] = own_terms b n c.variable_bound.result terms c.variable_bound.ensures.variables c.in_ok-terms.ensures in
    let σ = substitution_of b Left in
    let size : c.in_ok-size.size ≡ capped (clause_size (clause_instance σ d)) =
    c.in_ok-size.ensures ∙ ap (λ ls. capped (sum_by literal_size (literals_instance σ (literals_at ls)))) c.literals.ensures.literals in
    let lent_is = lent_there c.lend-literals.result d.literals place.becomes.literal (lent_of c.literal-becomes.result) r.literal_i c.lend-literals.ensures c.literal-becomes.ensures r.i_there in
    let total = total_size c.in_ok-size.size (clause_size (clause_instance σ d)) size (omega (arith, c.if-size-ge-SIZE_LIMIT.false)) in
    let t = factor_terms (λ f. false) select_nothing (alone m) m.number d place (alone_there m) b r terms [] h in
    let other_is = lent_there c.lend-literals.result d.literals place.other.literal (lent_of c.literal-other.result) r.literal_j c.lend-literals.ensures c.literal-other.ensures r.j_there in
    let s = side_of place.becomes.side r.literal_i in
    let v = other_side_of place.other.side r.literal_j in
    let goes : c.instance_size-goes.result ≡ min (tree_size (instance (substitution terms) s)) (2 ^ 64 - 1) =
    c.instance_size-goes.ensures ∙ ap (λ x. min (tree_size (instance (substitution terms) x)) (2 ^ 64 - 1)) (c.side.ensures ∙ ap (side_of place.becomes.side) lent_is) in
    let comes : c.instance_size-comes.result ≡ min (tree_size (instance (substitution terms) v)) (2 ^ 64 - 1) =
    c.instance_size-comes.ensures ∙ ap (λ x. min (tree_size (instance (substitution terms) x)) (2 ^ 64 - 1)) (c.other_side.ensures ∙ ap (other_side_of place.other.side) other_is) in
    let whole_is : sum_by literal_size (literals_instance (substitution terms) d.literals) ≡ c.in_ok-size.size = t.size ∙ total in
    let first = mapped-size (substitution terms) d.literals place.becomes.literal r.literal_i r.i_there in
    let second = mapped-size (substitution terms) d.literals place.other.literal r.literal_j r.j_there in
    let told =
    told_size _ (tree_size (instance (substitution terms) s)) (tree_size (instance (substitution terms) v))
    (sum_by literal_size (literals_instance (substitution terms) d.literals)) c.in_ok-size.size c.instance_size-goes.result c.instance_size-comes.result
    (plain_size (λ f. false) select_nothing (alone m) m.number d place (alone_there m) b r terms [] h) whole_is
    (omega (arith, first, sides_size (substitution terms) place.becomes.side r.literal_i, whole_is))
    (omega (arith, second, sides_size (substitution terms) place.other.side r.literal_j, whole_is))
    (omega (arith, c.if-size-gt-MOST_SYMBOLS.false)) goes comes in
    let kinds =
    alike-kinds usage.is_predicate r.literal_i place.becomes.side r.literal_j place.other.side
    (literal-kind usage d place.becomes.literal r.literal_i used r.i_there) (literal-kind usage d place.other.literal r.literal_j used r.j_there) r.alike in
    let ordered = ap (λ l. other_side_not_above (substitution terms) place.becomes.side l) (sym lent_is) ∙ sym c.if-not-is_not_below.ensures in
    let is_eligible = ap (λ ls. eligible (literals_instance (substitution terms) ls) place.becomes.literal None false) (sym c.lend-literals.ensures) ∙ sym c.if-not-eligible_under.ensures in
    made_by_factoring usage.is_predicate mode (alone m) m.number d place.becomes.literal place.becomes.side place.other.literal place.other.side terms
    c.in_ok-conclude_factoring.field-0 c.in_ok-conclude_factoring.ensures
    (factoring_concluded usage.is_predicate mode (alone m) m.number d place (alone_there m) b r terms [] h none kinds ordered is_eligible
    (size_within c.in_ok-size.size (clause_size (clause_instance σ d)) MOST_SYMBOLS (omega arith) size c.if-size-gt-MOST_SYMBOLS.false)
    (omega (arith, told.1, c.if-size-goes-gt-MOST_SYMBOLS.false)))
