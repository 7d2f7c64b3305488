-- Returns of batches.
use Rattle.std.specs.Prelude.{ℕ, Bool, ◌&&◌, if◌then◌else◌, List, [], ◌∷◌, ◌++◌, fold, filter, Option, None, Some, is_none}
use Rattle.std.specs.List.{list_all}
use Rattle.kernel_steps.specs.declared.key.Key.TheVariants.{Replaced}
use Rattle.pool_history.specs.Record.{PoolRecord, GivenJob, lives, given_job, without_job}
use Rattle.pool_history.specs.Counting.{counts, is_heavy, keys_of, lines_of_entries}
use Rattle.pool_history.specs.declared.options.Options.{Options}
use Rattle.pool_history.specs.declared.batch.Batch.{Batch}
use Rattle.pool_history.specs.declared.batch.Entry.{Entry}
use Rattle.pool_history.specs.declared.batch.Fate.{Fate}
use Rattle.pool_history.specs.declared.batch.Fate.TheVariants.{Kept, Dropped, Heavy}
use Rattle.pool_history.specs.declared.batch.Removal.{Removal}
use Rattle.pool_history.specs.declared.batch.Work.{Work}
use Rattle.pool_history.specs.declared.batch.Work.TheVariants.{Gone, Met}

-- ---- clauses that go

abbrev pub dies : ℕ → List ℕ → PoolRecord → PoolRecord
dies victim justifiers r =
    record r { deaths = r.deaths ++ record { victim = victim; event = r.events; justifiers = justifiers } ∷ [] }

-- a clause that died with a reduced result counts as one entry
abbrev pub replaced : Options → ℕ → Fate → PoolRecord → PoolRecord
replaced options victim (Kept lines results) r = counts options (Replaced victim ∷ []) (lines ∷ []) r
replaced options victim (Dropped redundancy) r = r
replaced options victim Heavy r = r

-- it dies, and its result is counted and registered
abbrev pub removed : Options → Removal → PoolRecord → PoolRecord
removed options m r = replaced options m.victim m.fate (dies m.victim m.justifiers r)

-- a proposed removal takes effect where its victim and all its justifiers live at that moment, while the pool is neither refuted nor spent
abbrev pub takes_effect : PoolRecord → Removal → Bool
takes_effect r m = is_none r.ended && (lives r m.victim && list_all (lives r) m.justifiers)

abbrev pub proposed : Options → PoolRecord → Removal → PoolRecord
proposed options r m = if takes_effect r m then removed options m r else r

-- ---- batches

-- the removals that a batch proposes, the given clause's own among them
abbrev pub removals_of : Work → List Removal
removals_of (Gone m) = m ∷ []
removals_of (Met entries removals) = removals

abbrev pub becomes_active : ℕ → PoolRecord → PoolRecord
becomes_active n r = record r { active = r.active ++ n ∷ [] }

-- the keys of the entries that are too heavy
abbrev pub heavy_entries : List Entry → List Entry
heavy_entries entries = filter (λ (e : Entry). is_heavy e.fate) entries

abbrev pub sets_aside : List Entry → PoolRecord → PoolRecord
sets_aside entries r = record r { set_aside = r.set_aside ++ keys_of (heavy_entries entries) }

-- A given clause that goes dies. One that met the others becomes active, its entries are counted, their results are registered, and the
-- proposed removals take effect in order.
abbrev pub worked : Options → ℕ → Work → PoolRecord → PoolRecord
worked options n (Gone m) r = removed options m r
worked options n (Met entries removals) r =
    fold (proposed options) (counts options (keys_of entries) (lines_of_entries entries) (sets_aside entries (becomes_active n r))) removals

-- once the pool is refuted or spent, nothing is counted or registered and no clause dies
abbrev pub taken : Options → ℕ → Work → PoolRecord → PoolRecord
taken options n work r = if is_none r.ended then worked options n work r else becomes_active n r

abbrev pub returns_to : Options → Batch → Option GivenJob → PoolRecord → PoolRecord
returns_to options batch None r = r
returns_to options batch (Some j) r = taken options j.number batch.work (record r { given = without_job batch.job r.given })

-- the batch of a job that is out
abbrev pub returned : Options → Batch → PoolRecord → PoolRecord
returned options batch r = returns_to options batch (given_job r batch.job) r
