use Rattle.std.proofs.Common.{subst, arith}
use Rattle.std.specs.Prelude.{Option}
use Rattle.std.proofs.lemmas.Option.{slice_get_within}
use Rattle.fol_base.specs.Lent.{lent_of}
use Rattle.kbo_order.proofs.AboutMultisets.ClauseLoops.{item-size}
use Rattle.rewriting.specs.Searching.{IsFoundOfLiteral, usable_by}
use Rattle.rewriting.specs.declared.searching.Found.{Found}
use Rattle.rewriting.proofs.AboutSearches.SearchLemmas.{found-of, one-more-literal}
use Rattle.rewriting.proofs.searching.Rewriters.find.Goals as goal

pub find_in_literal-requires-clause-size : goal.find_in_literal-requires-clause-size
find_in_literal-requires-clause-size g c =
    let size = item-size (g.L.LendsLiterals.meaning c.args.literals.now) c.loop-index.index (lent_of c.literal-literal.result) c.literal-literal.ensures in
    omega (arith, size, c.requires.size)

pub returns-in-Some-clause-found : goal.returns-in-Some-clause-found
returns-in-Some-clause-found g c =
    let found = subst (λ (o : Option Found). IsFoundOfLiteral (usable_by c.args.self.now) (lent_of c.literal-literal.result) c.loop-index.index o) c.in-Some.is c.in_ok-found.ensures.found in
    found-of (usable_by c.args.self.now) (g.L.LendsLiterals.meaning c.args.literals.now) (lent_of c.literal-literal.result) c.loop-index.index found.0 c.in-Some.found
    c.literal-literal.ensures found.1

pub loop-index-preserved : goal.loop-index-preserved
loop-index-preserved g c = record {
  normal =
      one-more-literal (usable_by c.args.self.now) (g.L.LendsLiterals.meaning c.args.literals.now) c.loop-index.index (lent_of c.literal-literal.result)
      c.literal-literal.ensures c.loop-index.invariant.normal
      (subst (λ (o : Option Found). IsFoundOfLiteral (usable_by c.args.self.now) (lent_of c.literal-literal.result) c.loop-index.index o) c.in_default.is c.in_ok-found.ensures.found);
  remembers = c.find_in_literal.ensures.remembers;
}

pub returns-clause-found : goal.returns-clause-found
returns-clause-found g c = λ j l there.
    let low = slice_get_within (g.L.LendsLiterals.meaning c.args.literals.now) j l there in
    c.loop-index.invariant.normal j l (omega (arith, low, c.count-index-end.ensures)) there
