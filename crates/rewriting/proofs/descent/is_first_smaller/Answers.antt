use Rattle.std.proofs.Common.{refl, ◌∙◌, map, arith}
use Rattle.fol_base.specs.Term.{tree_of}
use Rattle.fol_base.proofs.AboutTerms.TermLemmas.{tree_size-item}
use Rattle.unifier.specs.Matching.{by_pairs}
use Rattle.rewriting.proofs.AboutSearches.DescentLemmas.{rest-equal, rest-differs, rest-over, rest-new_over}
use Rattle.rewriting.proofs.descent.is_first_smaller.Goals as goal

pub loop-index-init : goal.loop-index-init
loop-index-init c = refl

pub loop-index-preserved : goal.loop-index-preserved
loop-index-preserved c =
    rest-equal (by_pairs c.args.terms.now) c.loop-index.index c.args.old.now c.args.new.now c.index-old-index.result c.index-new-index.result c.is_instance.result
    c.loop-index-test.true c.index-old-index.is (omega (arith, c.if-index-new.false)) c.index-new-index.is c.is_instance.ensures c.if-not-is_instance.false
    ∙ c.loop-index.invariant

pub returns-then-index-new : goal.returns-then-index-new
returns-then-index-new c =
    rest-new_over (by_pairs c.args.terms.now) c.loop-index.index c.args.old.now c.args.new.now (omega (arith, c.if-index-new.true)) ∙ c.loop-index.invariant

pub returns-then-not-is_instance : goal.returns-then-not-is_instance
returns-then-not-is_instance c =
    c.is_below.ensures
    ∙ rest-differs (by_pairs c.args.terms.now) c.loop-index.index c.args.old.now c.args.new.now c.index-old-index.result c.index-new-index.result
    c.index-old-index-then-not-is_instance.result c.index-new-index-then-not-is_instance.result c.is_instance.result
    c.loop-index-test.true c.index-old-index.is c.index-old-index-then-not-is_instance.is (omega (arith, c.if-index-new.false)) c.index-new-index.is
    c.index-new-index-then-not-is_instance.is c.is_instance.ensures c.if-not-is_instance.true
    ∙ c.loop-index.invariant

pub returns : goal.returns
returns c = rest-over (by_pairs c.args.terms.now) c.loop-index.index c.args.old.now c.args.new.now (omega arith) ∙ c.loop-index.invariant

pub is_below-requires : goal.is_below-requires
is_below-requires c =
    let item = tree_size-item c.args.old.now (map tree_of c.args.old.now) c.loop-index.index c.index-old-index-then-not-is_instance.result refl c.loop-index-test.true c.index-old-index-then-not-is_instance.is in
    omega (arith, item, c.requires)
