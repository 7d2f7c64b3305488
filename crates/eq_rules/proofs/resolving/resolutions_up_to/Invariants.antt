use Rattle.fol_base.specs.WellFormed.{SymbolUse, are_literals_of}
use Rattle.std.specs.Prelude.{IsTrue}
use Rattle.literal_selection.specs.Mode.{mode_of}
use Rattle.bank_clause.specs.Clause.{clause_at}
use Rattle.eq_rules.specs.Inferences.{AreInferences, alone}
use Rattle.eq_rules.proofs.AboutResolution.ResolutionLists.{resolves_below}
use Rattle.eq_rules.proofs.resolving.resolutions_up_to.Given as goal

abbrev pub invariant-loop-index : goal.invariant-loop-index
invariant-loop-index l =
    (usage : SymbolUse) → IsTrue (are_literals_of usage (clause_at l.given.clause).literals)
    → AreInferences usage.is_predicate (mode_of l.fn.mode) (alone l.given) (resolves_below l.index) l.found.items
