use Rattle.std.proofs.Common.{◌≡◌, arith, map, refl}
use Rattle.fol_base.specs.Term.{tree_of}
use Rattle.fol_base.proofs.AboutTerms.TermLemmas.{tree_size-item}
use Rattle.herbrand_list.proofs.open_clauses.+closed.Goals as goal

pub are_ground_terms-is_ground_term-requires : goal.are_ground_terms-is_ground_term-requires
are_ground_terms-is_ground_term-requires t c =
    (omega (arith, tree_size-item _ _ _ _ (let e : map tree_of c.args.terms.now ≡ map tree_of c.args.terms.now = refl in e) c.loop-index-test.true c.index-terms-index.is, c.decreases), tt)
