use Rattle.std.proofs.Common.{sym, ◌∙◌, subst, arith}
use Rattle.fol_base.specs.Term.{tree_of}
use Rattle.fol_base.specs.Clause.{TreeLiteral}
use Rattle.fol_base.specs.Lent.{lent_of}
use Rattle.fol_base.specs.Sides.{side_of, other_side_of}
use Rattle.rewriting.specs.Descent.{Descends}
use Rattle.bank_clause.specs.Clause.{clause_at}
use Rattle.rewriting.specs.Spots.{spot_of}
use Rattle.rewriting.specs.Searching.{usable_by}
use Rattle.rewriting.proofs.AboutSearches.TryLemmas.{alone-lent, entry-refused, one-way, too_large}
use Rattle.rewriting.proofs.searching.Rewriters.try_entry.Goals as goal

pub returns-then-not-has : goal.returns-then-not-has
returns-then-not-has c =
    let unit = c.in-Some.unit.now in
    let recorded = c.in-Some.ensures.recorded in
    let side = c.side_of_number-number.result.1 in
    entry-refused (usable_by c.args.self.now) (spot_of c.args.spot) (tree_of c.args.term.now) c.args.entry c.side_of_number-number.result.0 side
    (clause_at unit.clause) recorded.unit.equation c.side_of_number-number.ensures (sym c.in-Some.ensures.clause) recorded.unit.alone
    (one-way recorded.unit.equation side (spot_of c.args.spot) (tree_of c.args.term.now)
    (sym (recorded.rewrites side) ∙ sym c.has.ensures ∙ c.if-not-has.true))

pub returns-then-is_too_large : goal.returns-then-is_too_large
returns-then-is_too_large c =
    let unit = c.in-Some.unit.now in
    let recorded = c.in-Some.ensures.recorded in
    let side = c.side_of_number-number.result.1 in
    entry-refused (usable_by c.args.self.now) (spot_of c.args.spot) (tree_of c.args.term.now) c.args.entry c.side_of_number-number.result.0 side
    (clause_at unit.clause) recorded.unit.equation c.side_of_number-number.ensures (sym c.in-Some.ensures.clause) recorded.unit.alone
    (too_large (clause_at unit.clause) recorded.unit.equation side (spot_of c.args.spot) (tree_of c.args.term.now) recorded.unit.alone
    (omega (arith, c.requires.size, c.is_too_large.ensures.0 c.if-is_too_large.true)))

pub match_side-requires-clause-descends : goal.match_side-requires-clause-descends
match_side-requires-clause-descends c =
    let unit = c.in-Some.unit.now in
    let recorded = c.in-Some.ensures.recorded in
    let side = c.side_of_number-number.result.1 in
    let equation = alone-lent c.lend-literals.result _ (lent_of c.literal-equation.result) recorded.unit.equation c.lend-literals.ensures recorded.unit.alone c.literal-equation.ensures in
    subst (λ (e : TreeLiteral). Descends unit.descent (side_of side e) (other_side_of side e)) (sym equation)
    (recorded.descends side (sym (recorded.rewrites side) ∙ sym c.has.ensures ∙ c.if-not-has.false))
