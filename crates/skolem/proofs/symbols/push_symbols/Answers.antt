use Rattle.std.proofs.Common.{get_or}
use Rattle.skolem.proofs.AboutFormulas.SymbolLemmas.{symbols-then, same-item}
use Rattle.skolem.proofs.symbols.push_symbols.Goals as goal

pub loop-arity-preserved : goal.loop-arity-preserved
loop-arity-preserved c =
    symbols-then c.args.signature.now c.loop-arity.signature _ _ c.args.prefix.now c.args.next c.loop-arity.number _ c.args.arities.now
    c.loop-arity.arity-index (get_or c.args.arities.now c.loop-arity.arity-index 0) c.loop-arity-test.true (same-item c.args.arities.now c.loop-arity.arity-index 0 _ c.loop-arity-test.true)
    c.in_ok-add_numbered.ensures.added c.in_ok-number.ensures c.loop-arity.invariant
