-- Registered clauses of a pool whose lines are a derivation: they have the inputs' symbols, are well-formed, and assert parts that were met.
use Rattle.std.proofs.Common.{◌≡◌, ℕ, true, List, length, refl, subst}
use Rattle.std.specs.Prelude.{Some, slice_get}
use Rattle.std.specs.List.{list_all}
use Rattle.fol_base.specs.Clause.{TreeClause}
use Rattle.fol_base.specs.Literal.{clause_of}
use Rattle.fol_base.specs.Symbols.{FunctionSymbols}
use Rattle.fol_base.specs.WellFormed.{SymbolUse}
use Rattle.fol_base.proofs.WorkedExamples.TestLemmas.{option_map-some, list_all-item}
use Rattle.kernel_steps.specs.Symbols.{clause_symbols_pass}
use Rattle.kernel_steps.specs.declared.step.Line.{Line}
use Rattle.laws_calculus.specs.Symbols.{is_allowed, HasSymbolsOf}
use Rattle.pool_history.specs.Record.{PoolRecord, Registered}
use Rattle.pool_history.specs.Wholeness.{IsWhole}
use Rattle.pool_history.proofs.AboutCounting.CountedRecords.{Lookup}
use Rattle.pool_history.proofs.AboutLines.AssertionLemmas.{below-from}
use Rattle.pool_history.proofs.AboutLines.FormedLemmas.{IsFormed}
use Rattle.pool_history.proofs.AboutLines.PoolLineLemmas.{Sound}
use Rattle.pool_history.proofs.AboutRecords.ItemLemmas.{all-at}

module _ (usage : SymbolUse) (inputs : List TreeClause) where
  pub registered-formed :
      (r : PoolRecord) → Sound usage inputs r → (n : ℕ) (c : TreeClause) → Lookup r.registered n ≡ Some c → IsFormed usage (length r.parts) c
  registered-formed r sound n c there =
      option_map-some (λ (x : Registered). x.clause) (slice_get r.registered n) c there λ x x_is gives.
      let whole = all-at (λ (y : Registered). IsWhole usage (length r.parts) y.clause) r.registered n x sound.whole x_is in
      subst (IsFormed usage (length r.parts)) gives
      (record { literals = whole.formed; below = below-from (length r.parts) x.clause.names whole.asserts.negative whole.met })

  module _
      (functions : FunctionSymbols usage.is_predicate) (inputs_pass : list_all (clause_symbols_pass (is_allowed functions)) inputs ≡ true) where
    pub registered-pass :
        (r : PoolRecord) → Sound usage inputs r → (n : ℕ) (c : TreeClause) → Lookup r.registered n ≡ Some c → HasSymbolsOf functions c
    registered-pass r sound n c there =
        option_map-some (λ (x : Registered). x.clause) (slice_get r.registered n) c there λ x x_is gives.
        let line = sound.lined n x x_is in
        let pass : TreeClause → Type 0 = λ d. clause_symbols_pass (is_allowed functions) d ≡ true in
        subst pass gives
        (subst pass line.gives
        (list_all-item (λ (l : Line). clause_symbols_pass (is_allowed functions) (clause_of l.clause)) r.lines x.line line.line line.there
        (sound.made.symbols (is_allowed functions) refl inputs_pass).0))
