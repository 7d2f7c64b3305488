use Rattle.finite_models.proofs.AboutTables.NameLemmas.{NamesSoFar}
use Rattle.finite_models.proofs.entry_names.EntryNames.new.Given as goal

abbrev pub invariant-loop-symbol : goal.invariant-loop-symbol
invariant-loop-symbol l = NamesSoFar l.size l.symbols l.symbol-index l.firsts.items l.count
