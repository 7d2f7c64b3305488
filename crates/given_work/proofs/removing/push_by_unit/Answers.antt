use Rattle.std.proofs.Common.{◌≡◌, ◌++◌, List, ℕ, Some, append-nil, ap, sym, ◌∙◌, arith}
use Rattle.std.specs.Prelude.{slice_get}
use Rattle.std.proofs.lemmas.Bool.{true≢false}
use Rattle.fol_base.specs.Lent.{lent_of}
use Rattle.fol_base.specs.Clause.{TreeLiteral}
use Rattle.bank_clause.specs.Clause.{clause_at}
use Rattle.given_work.proofs.AboutBatches.RemovalLemmas.{by-no-unit, by-unit, first-small}
use Rattle.given_work.proofs.removing.push_by_unit.Goals as goal

pub push_with_instances-requires : goal.push_with_instances-requires
push_with_instances-requires c =
    let ls = (clause_at c.args.given.now.clause).literals in
    let at : slice_get ls 0 ≡ Some (lent_of c.literal.result) =
    ap (λ (ks : List TreeLiteral). slice_get ks 0) (sym c.lend-literals.ensures) ∙ c.literal.ensures in
    omega (arith, first-small ls (lent_of c.literal.result) at, c.size.ensures.size, c.size.ensures.limit)

pub returns-in_ok-push_with_instances : goal.returns-in_ok-push_with_instances
returns-in_ok-push_with_instances c =
    c.in_ok-push_with_instances.ensures
    ∙ ap (λ (ns : List ℕ). c.args.found.now.items ++ ns)
    (sym
    (by-unit c.args.terms.now (clause_at c.args.given.now.clause).literals (lent_of c.literal.result)
    (c.has_one_literal.ensures.0 c.if-has_one_literal.true)
    (ap (λ (ls : List TreeLiteral). slice_get ls 0) (sym c.lend-literals.ensures) ∙ c.literal.ensures)))

pub returns-else-has_one_literal : goal.returns-else-has_one_literal
returns-else-has_one_literal c =
    sym
    (ap (λ (ns : List ℕ). c.args.found.now.items ++ ns)
    (by-no-unit c.args.terms.now (clause_at c.args.given.now.clause).literals
    (λ one. true≢false (sym (c.has_one_literal.ensures.1 one) ∙ c.if-has_one_literal.false)))
    ∙ append-nil c.args.found.now.items)
