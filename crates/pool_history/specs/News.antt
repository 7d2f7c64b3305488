-- Changes of the clauses that are told: activations and deaths, in the order of a history.
use Rattle.std.specs.Prelude.{ℕ, List, [], ◌∷◌, ◌++◌, map, length, drop, take, if◌then◌else◌}
use Rattle.fol_base.specs.Clause.{TreeClause}
use Rattle.kernel_steps.specs.Split.{has_number}
use Rattle.bank_clause.specs.Clause.{clause_at}
use Rattle.pool_history.specs.Record.{PoolRecord, Death, clause_numbered}
use Rattle.pool_history.specs.Replay.{Origin, after, replay}
use Rattle.pool_history.specs.declared.options.Options.{Options}
use Rattle.pool_history.specs.declared.event.Event.{Event}
use Rattle.pool_history.specs.declared.ticket.Change.{Change}
use Rattle.pool_history.specs.declared.ticket.Change.TheVariants.{Activated, Died}

-- a change, with the clause over trees
pub data TreeChange : Type 0 where
  activated : ℕ → TreeClause → TreeChange
  died : ℕ → TreeChange

-- a change of the program, over trees
abbrev pub change_of : Change → TreeChange
change_of (Activated member) = activated member.number (clause_at member.clause)
change_of (Died number) = died number

-- the activations and deaths of one event, by the records before and after it
abbrev pub changes_between : PoolRecord → PoolRecord → List TreeChange
changes_between before now =
    map (λ n. activated n (clause_numbered now n)) (drop (length before.positions) now.positions)
    ++ map (λ (d : Death). died d.victim) (drop (length before.deaths) now.deaths)

-- those of events, from a record on
abbrev pub changes_from : Options → PoolRecord → List Event → List TreeChange
changes_from options r [] = []
changes_from options r (e ∷ es) = changes_between r (after options r e) ++ changes_from options (after options r e) es

-- those of a history from a place on
abbrev pub news_since : Origin → List Event → ℕ → List TreeChange
news_since origin history told =
    changes_from origin.options (replay origin (take told history)) (drop told history)

-- the change that a claim tells of the clause that it gives: its activation, if that is the clause's first claim
abbrev pub first_told : PoolRecord → ℕ → List TreeChange
first_told r n = if has_number n r.positions then [] else activated n (clause_numbered r n) ∷ []
