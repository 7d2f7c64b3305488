use Rattle.signature.specs.declared.symbol.SymbolKind.TheVariants.{Predicate}
use Rattle.tstp_lines.proofs.AboutReadings.NumberLemmas.{head-met}
use Rattle.tstp_lines.proofs.AboutReadings.ClauseLemmas.{predicate-literal}
use Rattle.tstp_lines.proofs.numbers.LineNumbers.predicate.Goals as goal

pub returns-clause-met : goal.returns-clause-met
returns-clause-met c = head-met _ _ _ Predicate c.args.name.now c.args.arguments.now c.in_ok-symbol.ensures.met c.in_ok-terms.ensures.met

pub returns-clause-literal : goal.returns-clause-literal
returns-clause-literal c =
    predicate-literal _ _ _ c.args.positive c.args.name.now c.args.arguments.now _ _ _ c.in_ok-symbol.ensures.met c.in_ok-symbol.ensures.number
    c.in_ok-terms.ensures.met c.in_ok-terms.ensures.trees c.truth.ensures
