use Rattle.std.proofs.Common.{◌≡◌, [], ◌∷◌, drop, fold}
use Rattle.std.specs.Prelude.{flat_map}
use Rattle.signature.specs.Symbol.{true_symbol, with_symbol}
use Rattle.signature.specs.Occurrences.{annotated_symbols}
use Rattle.signature.proofs.meeting.meet_problem.Given as goal

abbrev pub invariant-loop-annotated : goal.invariant-loop-annotated
invariant-loop-annotated l =
    fold with_symbol l.known.keys (flat_map annotated_symbols (drop l.annotated-index l.annotated-items))
    ≡ fold with_symbol (true_symbol ∷ []) (flat_map annotated_symbols l.annotated-items)
