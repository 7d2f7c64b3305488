use Rattle.std.proofs.Common.{arith}
use Rattle.finite_models.proofs.AboutLoops.AddsLemmas.{adds-nothing}
use Rattle.finite_models.proofs.AboutLoops.SymbolLemmas.{predicate-holds, function-count}
use Rattle.finite_models.proofs.functions.add_symbol.Goals as goal

pub returns-in-Predicate : goal.returns-in-Predicate
returns-in-Predicate c = adds-nothing _ _ _ (λ v. predicate-holds c.args.size c.args.first c.args.symbol.now v c.in-Predicate.is)

pub add-requires : goal.add-requires
add-requires c =
    omega (
      arith,
      c.requires,
      function-count c.args.size c.args.symbol.now c.in_ok-rows-in-Function.rows c.in-Function.is c.in_ok-rows-in-Function.ensures,
    )
