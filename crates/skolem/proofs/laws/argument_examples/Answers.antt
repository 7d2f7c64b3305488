use Rattle.std.proofs.Common.{[], ◌∷◌, ◌++◌, ap, arith, codes}
use Rattle.std.proofs.lemmas.Fmt.{decimal_digit}
use Rattle.signature.specs.Symbol.{function_symbol}
use Rattle.skolem.proofs.laws.argument_examples.Goals as goal

pub returns-clause-symbols : goal.returns-clause-symbols
returns-clause-symbols c = ap (λ digits. function_symbol (codes "sk" ++ digits) 1 ∷ []) (decimal_digit 7 (omega arith))
