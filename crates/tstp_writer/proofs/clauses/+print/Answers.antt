use Rattle.std.proofs.Common.{◌≡◌, map, refl, arith}
use Rattle.fol_base.specs.Term.{tree_of}
use Rattle.fol_base.proofs.AboutTerms.TermLemmas.{tree_size-item}
use Rattle.tstp_writer.proofs.clauses.+print.Goals as goal

pub push_more_arguments-push_term-requires : goal.push_more_arguments-push_term-requires
push_more_arguments-push_term-requires t c =
    let same : map tree_of c.args.arguments.now ≡ map tree_of c.args.arguments.now = refl in
    (omega (arith, tree_size-item _ _ _ _ same c.loop-argument-test.true c.argument-item.is, c.decreases), tt)
