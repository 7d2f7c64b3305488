use Rattle.std.proofs.Common.{◌≡◌, ◌≤◌, ◌+◌, List, length, arith, ap, ap₂, sym, ◌∙◌, subst}
use Rattle.std.specs.Prelude.{sum_by, slice_get, IfSome}
use Rattle.std.proofs.lemmas.Option.{slice_get_within, same_Some}
use Rattle.plain_types.specs.Capped.{capped}
use Rattle.fol_base.specs.Tree.{Tree, tree_size}
use Rattle.fol_base.specs.Instance.{instance}
use Rattle.fol_base.specs.Clause.{TreeLiteral, literal_size, clause_variables}
use Rattle.fol_base.specs.Ground.{literals_instance}
use Rattle.fol_base.specs.Canonical.{bound_of, terms_from}
use Rattle.fol_base.specs.Lent.{lent_of}
use Rattle.fol_base.specs.Sides.{side_of}
use Rattle.fol_base.specs.declared.clause.Side.TheVariants.{Left, Right}
use Rattle.fol_base.specs.declared.limits.TheConstants.{MOST_SYMBOLS}
use Rattle.term_bank.specs.Literal.{literals_at}
use Rattle.bank_clause.specs.Clause.{clause_at}
use Rattle.unifier.specs.Renaming.{AreNamedTerms}
use Rattle.unifier.specs.SolvedForm.{substitution_of}
use Rattle.unifier.proofs.AboutClasses.SharedLemmas.{own_terms_are_named}
use Rattle.superpose.specs.Superposing.{allows, is_heavy, size_under}
use Rattle.superpose.proofs.AboutSteps.SizeLemmas.{heavy_allowed, made_size, refused_own, side_low, side_size, small_not_heavy, stays, surely_small}
use Rattle.superpose.proofs.superposing.superposition_by.Goals as goal

pub literal-equation-requires : goal.literal-equation-requires
literal-equation-requires c =
    let r = c.requires.unified in
    omega (arith, ap (λ (ls : List TreeLiteral). length ls) c.lend-literals.ensures, slice_get_within _ c.args.from.literal r.starts.literal r.starts.there)

pub ordered_superposition-requires-clause-left_small : goal.ordered_superposition-requires-clause-left_small
ordered_superposition-requires-clause-left_small c =
    let m = c.args.first.now.member.now in
    let n = c.args.second.now.member.now in
    let first = clause_at m.clause in
    let second = clause_at n.clause in
    let s = c.args.from in
    let t = c.args.into.now in
    let b = c.args.unifier.now in
    let r = c.requires.unified in
    let first_bound = bound_of (clause_variables first) in
    let second_bound = bound_of (clause_variables second) in
    let left = terms_from 0 first_bound (substitution_of b Left) in
    let right = terms_from 0 second_bound (substitution_of b Right) in
    let h : AreNamedTerms b first_bound second_bound left right = own_terms_are_named b first_bound second_bound in
    let equation : lent_of c.literal-equation.result ≡ r.starts.literal =
    same_Some (lent_of c.literal-equation.result) r.starts.literal
    (sym c.literal-equation.ensures ∙ ap (λ (ls : List TreeLiteral). slice_get ls s.literal) c.lend-literals.ensures ∙ r.starts.there) in
    let told_is : c.in_ok-unified_size.unified_size ≡ capped (side_size m n s t b r left right h) =
    c.in_ok-unified_size.ensures ∙ ap (λ (u : Tree). capped (tree_size (instance (substitution_of b Left) u))) (c.side.ensures ∙ ap (side_of s.side) equation) in
    let small : size_under b Left first + size_under b Right second ≤ MOST_SYMBOLS =
    surely_small m n s t b r left right h c.in_ok-unified_size.unified_size told_is (c.are_surely_small.ensures.0 c.if-are_surely_small.true) in
    omega (arith, small)

pub ordered_superposition-requires-clause-right_small : goal.ordered_superposition-requires-clause-right_small
ordered_superposition-requires-clause-right_small c =
    let m = c.args.first.now.member.now in
    let n = c.args.second.now.member.now in
    let first = clause_at m.clause in
    let second = clause_at n.clause in
    let s = c.args.from in
    let t = c.args.into.now in
    let b = c.args.unifier.now in
    let r = c.requires.unified in
    let first_bound = bound_of (clause_variables first) in
    let second_bound = bound_of (clause_variables second) in
    let left = terms_from 0 first_bound (substitution_of b Left) in
    let right = terms_from 0 second_bound (substitution_of b Right) in
    let h : AreNamedTerms b first_bound second_bound left right = own_terms_are_named b first_bound second_bound in
    let equation : lent_of c.literal-equation.result ≡ r.starts.literal =
    same_Some (lent_of c.literal-equation.result) r.starts.literal
    (sym c.literal-equation.ensures ∙ ap (λ (ls : List TreeLiteral). slice_get ls s.literal) c.lend-literals.ensures ∙ r.starts.there) in
    let told_is : c.in_ok-unified_size.unified_size ≡ capped (side_size m n s t b r left right h) =
    c.in_ok-unified_size.ensures ∙ ap (λ (u : Tree). capped (tree_size (instance (substitution_of b Left) u))) (c.side.ensures ∙ ap (side_of s.side) equation) in
    let small : size_under b Left first + size_under b Right second ≤ MOST_SYMBOLS =
    surely_small m n s t b r left right h c.in_ok-unified_size.unified_size told_is (c.are_surely_small.ensures.0 c.if-are_surely_small.true) in
    omega (arith, small)

pub ordered_superposition-requires-clause-heavy : goal.ordered_superposition-requires-clause-heavy
ordered_superposition-requires-clause-heavy c l there =
    let m = c.args.first.now.member.now in
    let n = c.args.second.now.member.now in
    let first = clause_at m.clause in
    let second = clause_at n.clause in
    let s = c.args.from in
    let t = c.args.into.now in
    let b = c.args.unifier.now in
    let r = c.requires.unified in
    let first_bound = bound_of (clause_variables first) in
    let second_bound = bound_of (clause_variables second) in
    let left = terms_from 0 first_bound (substitution_of b Left) in
    let right = terms_from 0 second_bound (substitution_of b Right) in
    let h : AreNamedTerms b first_bound second_bound left right = own_terms_are_named b first_bound second_bound in
    let equation : lent_of c.literal-equation.result ≡ r.starts.literal =
    same_Some (lent_of c.literal-equation.result) r.starts.literal
    (sym c.literal-equation.ensures ∙ ap (λ (ls : List TreeLiteral). slice_get ls s.literal) c.lend-literals.ensures ∙ r.starts.there) in
    let told_is : c.in_ok-unified_size.unified_size ≡ capped (side_size m n s t b r left right h) =
    c.in_ok-unified_size.ensures ∙ ap (λ (u : Tree). capped (tree_size (instance (substitution_of b Left) u))) (c.side.ensures ∙ ap (side_of s.side) equation) in
    let small : size_under b Left first + size_under b Right second ≤ MOST_SYMBOLS =
    surely_small m n s t b r left right h c.in_ok-unified_size.unified_size told_is (c.are_surely_small.ensures.0 c.if-are_surely_small.true) in
    sym (small_not_heavy (size_under b Left first) (size_under b Right second) (tree_size (instance (substitution_of b Left) (side_of s.side l))) small)

pub returns-in-Some-true : goal.returns-in-Some-true
returns-in-Some-true c mode sites =
    let m = c.args.first.now.member.now in
    let n = c.args.second.now.member.now in
    let first = clause_at m.clause in
    let second = clause_at n.clause in
    let s = c.args.from in
    let t = c.args.into.now in
    let b = c.args.unifier.now in
    let r = c.requires.unified in
    let first_bound = bound_of (clause_variables first) in
    let second_bound = bound_of (clause_variables second) in
    let left_told = c.in_ok-left_size.left_size in
    let right_told = c.in_ok-right_size.right_size in
    let left_is : left_told ≡ capped (size_under b Left first) =
    c.in_ok-left_size.ensures ∙ ap (λ ls. capped (sum_by literal_size (literals_instance (substitution_of b Left) (literals_at ls)))) c.literals.ensures.literals in
    let right_is : right_told ≡ capped (size_under b Right second) =
    c.in_ok-right_size.ensures ∙ ap (λ ls. capped (sum_by literal_size (literals_instance (substitution_of b Right) (literals_at ls)))) c.literals-2.ensures.literals in
    heavy_allowed m n s t b r left_told right_told left_is right_is
    (omega (arith, c.max.ensures, c.if-max-gt-MOST_SYMBOLS.true)) mode c.args.second.now.sites.now.choice sites
    (subst (λ o. IfSome o (λ allowed. allows first.literals s second.literals t c.args.second.now.sites.now.choice
    (substitution_of b Left) (substitution_of b Right) ≡ allowed)) c.in-Some-true.is c.in_ok-allowed_by_sizes.ensures
    ∙ c.in-Some-true.field-0-test)

pub returns-in-Some-false : goal.returns-in-Some-false
returns-in-Some-false c mode sites =
    let m = c.args.first.now.member.now in
    let n = c.args.second.now.member.now in
    let s = c.args.from in
    let t = c.args.into.now in
    let b = c.args.unifier.now in
    refused_own m n s t b c.requires.unified mode c.args.second.now.sites.now.choice sites
    (subst (λ o. IfSome o (λ allowed. allows (clause_at m.clause).literals s (clause_at n.clause).literals t c.args.second.now.sites.now.choice
    (substitution_of b Left) (substitution_of b Right) ≡ allowed)) c.in-Some-false.is c.in_ok-allowed_by_sizes.ensures
    ∙ c.in-Some-false.field-0-test)

pub is_heavy-heavy-requires-clause-unified : goal.is_heavy-heavy-requires-clause-unified
is_heavy-heavy-requires-clause-unified c =
    let m = c.args.first.now.member.now in
    let n = c.args.second.now.member.now in
    let first = clause_at m.clause in
    let second = clause_at n.clause in
    let s = c.args.from in
    let t = c.args.into.now in
    let b = c.args.unifier.now in
    let r = c.requires.unified in
    let first_bound = bound_of (clause_variables first) in
    let second_bound = bound_of (clause_variables second) in
    let left = terms_from 0 first_bound (substitution_of b Left) in
    let right = terms_from 0 second_bound (substitution_of b Right) in
    let h : AreNamedTerms b first_bound second_bound left right = own_terms_are_named b first_bound second_bound in
    let equation : lent_of c.literal-equation.result ≡ r.starts.literal =
    same_Some (lent_of c.literal-equation.result) r.starts.literal
    (sym c.literal-equation.ensures ∙ ap (λ (ls : List TreeLiteral). slice_get ls s.literal) c.lend-literals.ensures ∙ r.starts.there) in
    let told_is : c.in_ok-unified_size.unified_size ≡ capped (side_size m n s t b r left right h) =
    c.in_ok-unified_size.ensures ∙ ap (λ (u : Tree). capped (tree_size (instance (substitution_of b Left) u))) (c.side.ensures ∙ ap (side_of s.side) equation) in
    let left_told = c.in_ok-left_size.left_size in
    let right_told = c.in_ok-right_size.right_size in
    let left_is : left_told ≡ capped (size_under b Left first) =
    c.in_ok-left_size.ensures ∙ ap (λ ls. capped (sum_by literal_size (literals_instance (substitution_of b Left) (literals_at ls)))) c.literals.ensures.literals in
    let right_is : right_told ≡ capped (size_under b Right second) =
    c.in_ok-right_size.ensures ∙ ap (λ ls. capped (sum_by literal_size (literals_instance (substitution_of b Right) (literals_at ls)))) c.literals-2.ensures.literals in
    let left_same : left_told ≡ size_under b Left first = stays left_told (size_under b Left first) left_is (omega (arith, c.if-left_size-ge-SIZE_LIMIT.false)) in
    let right_same : right_told ≡ size_under b Right second = stays right_told (size_under b Right second) right_is (omega (arith, c.if-right_size-ge-SIZE_LIMIT.false)) in
    let low = side_low m n s t b r left right h in
    let side_same : c.in_ok-unified_size.unified_size ≡ side_size m n s t b r left right h =
    omega (arith, told_is, low, left_same, c.if-left_size-ge-SIZE_LIMIT.false) in
    let made = made_size m n s t b r left right h in
    omega (arith, made, side_same, left_same, right_same)

pub ordered_superposition-requires-2-clause-left_small : goal.ordered_superposition-requires-2-clause-left_small
ordered_superposition-requires-2-clause-left_small c =
    let m = c.args.first.now.member.now in
    let n = c.args.second.now.member.now in
    let first = clause_at m.clause in
    let second = clause_at n.clause in
    let s = c.args.from in
    let t = c.args.into.now in
    let b = c.args.unifier.now in
    let r = c.requires.unified in
    let first_bound = bound_of (clause_variables first) in
    let second_bound = bound_of (clause_variables second) in
    let left_told = c.in_ok-left_size.left_size in
    let right_told = c.in_ok-right_size.right_size in
    let left_is : left_told ≡ capped (size_under b Left first) =
    c.in_ok-left_size.ensures ∙ ap (λ ls. capped (sum_by literal_size (literals_instance (substitution_of b Left) (literals_at ls)))) c.literals.ensures.literals in
    let right_is : right_told ≡ capped (size_under b Right second) =
    c.in_ok-right_size.ensures ∙ ap (λ ls. capped (sum_by literal_size (literals_instance (substitution_of b Right) (literals_at ls)))) c.literals-2.ensures.literals in
    let left_same : left_told ≡ size_under b Left first = stays left_told (size_under b Left first) left_is (omega (arith, c.if-left_size-ge-SIZE_LIMIT.false)) in
    let right_same : right_told ≡ size_under b Right second = stays right_told (size_under b Right second) right_is (omega (arith, c.if-right_size-ge-SIZE_LIMIT.false)) in
    omega (arith, left_same, c.if-left_size-ge-SIZE_LIMIT.false)

pub ordered_superposition-requires-2-clause-right_small : goal.ordered_superposition-requires-2-clause-right_small
ordered_superposition-requires-2-clause-right_small c =
    let m = c.args.first.now.member.now in
    let n = c.args.second.now.member.now in
    let first = clause_at m.clause in
    let second = clause_at n.clause in
    let s = c.args.from in
    let t = c.args.into.now in
    let b = c.args.unifier.now in
    let r = c.requires.unified in
    let first_bound = bound_of (clause_variables first) in
    let second_bound = bound_of (clause_variables second) in
    let left_told = c.in_ok-left_size.left_size in
    let right_told = c.in_ok-right_size.right_size in
    let left_is : left_told ≡ capped (size_under b Left first) =
    c.in_ok-left_size.ensures ∙ ap (λ ls. capped (sum_by literal_size (literals_instance (substitution_of b Left) (literals_at ls)))) c.literals.ensures.literals in
    let right_is : right_told ≡ capped (size_under b Right second) =
    c.in_ok-right_size.ensures ∙ ap (λ ls. capped (sum_by literal_size (literals_instance (substitution_of b Right) (literals_at ls)))) c.literals-2.ensures.literals in
    let left_same : left_told ≡ size_under b Left first = stays left_told (size_under b Left first) left_is (omega (arith, c.if-left_size-ge-SIZE_LIMIT.false)) in
    let right_same : right_told ≡ size_under b Right second = stays right_told (size_under b Right second) right_is (omega (arith, c.if-right_size-ge-SIZE_LIMIT.false)) in
    omega (arith, right_same, c.if-right_size-ge-SIZE_LIMIT.false)

pub ordered_superposition-requires-2-clause-heavy : goal.ordered_superposition-requires-2-clause-heavy
ordered_superposition-requires-2-clause-heavy c l there =
    let m = c.args.first.now.member.now in
    let n = c.args.second.now.member.now in
    let first = clause_at m.clause in
    let second = clause_at n.clause in
    let s = c.args.from in
    let t = c.args.into.now in
    let b = c.args.unifier.now in
    let r = c.requires.unified in
    let first_bound = bound_of (clause_variables first) in
    let second_bound = bound_of (clause_variables second) in
    let left = terms_from 0 first_bound (substitution_of b Left) in
    let right = terms_from 0 second_bound (substitution_of b Right) in
    let h : AreNamedTerms b first_bound second_bound left right = own_terms_are_named b first_bound second_bound in
    let equation : lent_of c.literal-equation.result ≡ r.starts.literal =
    same_Some (lent_of c.literal-equation.result) r.starts.literal
    (sym c.literal-equation.ensures ∙ ap (λ (ls : List TreeLiteral). slice_get ls s.literal) c.lend-literals.ensures ∙ r.starts.there) in
    let told_is : c.in_ok-unified_size.unified_size ≡ capped (side_size m n s t b r left right h) =
    c.in_ok-unified_size.ensures ∙ ap (λ (u : Tree). capped (tree_size (instance (substitution_of b Left) u))) (c.side.ensures ∙ ap (side_of s.side) equation) in
    let left_told = c.in_ok-left_size.left_size in
    let right_told = c.in_ok-right_size.right_size in
    let left_is : left_told ≡ capped (size_under b Left first) =
    c.in_ok-left_size.ensures ∙ ap (λ ls. capped (sum_by literal_size (literals_instance (substitution_of b Left) (literals_at ls)))) c.literals.ensures.literals in
    let right_is : right_told ≡ capped (size_under b Right second) =
    c.in_ok-right_size.ensures ∙ ap (λ ls. capped (sum_by literal_size (literals_instance (substitution_of b Right) (literals_at ls)))) c.literals-2.ensures.literals in
    let left_same : left_told ≡ size_under b Left first = stays left_told (size_under b Left first) left_is (omega (arith, c.if-left_size-ge-SIZE_LIMIT.false)) in
    let right_same : right_told ≡ size_under b Right second = stays right_told (size_under b Right second) right_is (omega (arith, c.if-right_size-ge-SIZE_LIMIT.false)) in
    let low = side_low m n s t b r left right h in
    let side_same : c.in_ok-unified_size.unified_size ≡ side_size m n s t b r left right h =
    omega (arith, told_is, low, left_same, c.if-left_size-ge-SIZE_LIMIT.false) in
    let literal : r.starts.literal ≡ l = same_Some r.starts.literal l (sym r.starts.there ∙ there) in
    c.is_heavy-heavy.ensures ∙ ap₂ (λ j k. is_heavy j k c.in_ok-unified_size.unified_size) left_same right_same
    ∙ ap (is_heavy (size_under b Left first) (size_under b Right second))
    (side_same ∙ ap (λ (k : TreeLiteral). tree_size (instance (substitution_of b Left) (side_of s.side k))) literal)
