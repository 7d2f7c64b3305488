-- A pool that doesn't split meets no part: so its clauses have no names, and there is nothing to solve.
use Rattle.std.proofs.Common.{◌≡◌, ℕ, ◌<◌, Bool, false, ◌&&◌, List, [], ◌∷◌, length, refl, ap, sym, subst, arith}
use Rattle.std.specs.Prelude.{is_none, fold, All, if◌then◌else◌}
use Rattle.std.proofs.lemmas.Bool.{le-ltb}
use Rattle.std.proofs.lemmas.List.Elements.{All-head}
use Rattle.plain_types.specs.declared.sequence.NameLit.{NameLit}
use Rattle.fol_base.specs.Clause.{TreeLiteral, TreeClause}
use Rattle.fol_base.specs.WellFormed.{SymbolUse}
use Rattle.kernel_steps.specs.declared.step.Line.{Line}
use Rattle.pool_history.specs.Tags.{line_names}
use Rattle.pool_history.specs.Record.{PoolRecord, Registered, has_living}
use Rattle.pool_history.specs.Lines.{with_lines}
use Rattle.pool_history.specs.Registering.{registered_last, has_none, with_refutation, with_propositional, empty_comes, comes}
use Rattle.pool_history.specs.Solving.{must_solve}
use Rattle.pool_history.specs.Replay.{Origin, after, replay}
use Rattle.pool_history.specs.Wholeness.{IsWhole}
use Rattle.pool_history.specs.declared.options.Options.{Options}
use Rattle.pool_history.specs.declared.event.Event.{Event}
use Rattle.pool_history.proofs.AboutRecords.FrameLemmas.{by-if}
use Rattle.pool_history.proofs.AboutRecords.WalkLemmas.{history-holds, replay-holds}
use Rattle.pool_history.proofs.AboutLines.PoolLineLemmas.{Sound}

abbrev NoParts : PoolRecord → Type 0
NoParts r = r.parts ≡ []

comes-none : (split : Bool) (lines : List Line) (c : TreeClause) (r : PoolRecord) → split ≡ false → NoParts r → NoParts (comes split lines c r)
comes-none split lines c r unsplit none = subst (λ b. NoParts (comes b lines c r)) (sym unsplit) unsplit-none
  where
    unsplit-none : NoParts (comes false lines c r)
    unsplit-none =
        by-if NoParts (has_none c.literals) (empty_comes c (with_lines r lines)) (if has_living r c then r else registered_last c (with_lines r lines))
        (by-if NoParts (has_none c.names) (with_refutation (registered_last c (with_lines r lines))) (with_propositional (line_names r.parts c.names) (with_lines r lines)) none none)
        (by-if NoParts (has_living r c) r (registered_last c (with_lines r lines)) none none)

-- no event brings a part in
pub unsplit-after : (options : Options) (history : List Event) (r : PoolRecord) → options.split ≡ false → r.parts ≡ [] → (fold (after options) r history).parts ≡ []
unsplit-after options history r unsplit none =
    history-holds options (λ (parts : List (List TreeLiteral)) (registered : List Registered). parts ≡ [])
    (λ lines c s bare. comes-none options.split lines c s unsplit bare) history r none

-- for every list of events, lawful or not
pub unsplit-parts : (origin : Origin) (history : List Event) → origin.options.split ≡ false → (replay origin history).parts ≡ []
unsplit-parts origin history unsplit =
    replay-holds origin.options (λ (parts : List (List TreeLiteral)) (registered : List Registered). parts ≡ [])
    (λ lines c r none. comes-none origin.options.split lines c r unsplit none) origin history refl refl

-- a whole clause has no names where no part was met
pub whole-nameless : (usage : SymbolUse) (parts : ℕ) (c : TreeClause) → parts ≡ 0 → IsWhole usage parts c → c.names ≡ []
whole-nameless usage parts c none whole = by c.names whole.met
  where
    by : (ns : List NameLit) → All (λ n. n.name < parts) ns → ns ≡ []
    by [] met = refl
    by (n ∷ ns) met = let below : n.name < parts = All-head (λ m. m.name < parts) n ns met in absurd (omega (arith, below, none))

-- there is nothing to solve
pub unsplit-solved : (usage : SymbolUse) (inputs : List TreeClause) (r : PoolRecord) → Sound usage inputs r → r.parts ≡ [] → must_solve r ≡ false
unsplit-solved usage inputs r sound none =
    let count : length r.propositional ≡ 0 = ap length (sound.bare none) in
    ap (λ b. b && is_none r.solver) (le-ltb r.modelled (length r.propositional) (omega (arith, count)))
