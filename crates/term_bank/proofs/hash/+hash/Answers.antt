use Rattle.std.proofs.Common.{◌≡◌, arith, map, refl}
use Rattle.fol_base.specs.Term.{tree_of}
use Rattle.fol_base.proofs.AboutTerms.TermLemmas.{tree_size-item}
use Rattle.term_bank.proofs.hash.+hash.Goals as goal

pub terms_hash-term_hash-all-requires : goal.terms_hash-term_hash-all-requires
terms_hash-term_hash-all-requires t c =
    (omega (arith, tree_size-item _ _ _ _ (let e : map tree_of c.args.terms.now ≡ map tree_of c.args.terms.now = refl in e) c.loop-index-test.true c.index-terms-index.is, c.decreases), tt)
