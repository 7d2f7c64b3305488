use Rattle.std.proofs.Common.{◌≡◌, map, refl, sym, ◌∙◌, arith}
use Rattle.fol_base.specs.Term.{tree_of}
use Rattle.fol_base.proofs.AboutTerms.TermLemmas.{tree_size-item, length-trees}
use Rattle.unifier.proofs.AboutClasses.ClashLemmas.{clash_in-lengths}
use Rattle.unifier.proofs.clash.+clash.Goals as goal

pub clash_in-clash-requires : goal.clash_in-clash-requires
clash_in-clash-requires t c =
    (omega (arith, tree_size-item _ _ _ _ (let e : map tree_of c.args.left.now ≡ map tree_of c.args.left.now = refl in e) c.loop-index-test.true c.index-left-index.is, c.decreases), tt)

pub clash_in-returns-then-left-right : goal.clash_in-returns-then-left-right
clash_in-returns-then-left-right t c =
    clash_in-lengths (map tree_of c.args.left.now) (map tree_of c.args.right.now)
    (λ e. c.if-left-right.true (sym (length-trees c.args.left.now) ∙ e ∙ length-trees c.args.right.now))
