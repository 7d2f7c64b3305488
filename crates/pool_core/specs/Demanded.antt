-- What results may bring: so much room they need. Only private functions cite this.
use Rattle.std.specs.Prelude.{ℕ, ◌+◌, ◌*◌, List, [], ◌∷◌, length}
use Rattle.pool_core.specs.declared.demand.Demand.{Demand}
use Rattle.pool_core.specs.declared.form.Form.{Form}
use Rattle.pool_core.specs.declared.form.Form.TheVariants.{Whole, Contradiction, Parts}
use Rattle.pool_core.specs.declared.interning.Interned.{Interned}

-- A clause by so many lines is registered with its tags. One without literals gives a clause over names, of a name for each tag. One that falls
-- into parts brings these, each under its tag, with two lines at most that introduce its name, and a split line with its clause over names.
abbrev pub demand_of : ℕ → Form → Demand
demand_of lines (Whole x) = record { clauses = 1; tags = length x.clause.names; lines = lines; parts = 0; splits = 0; names = 0 }
demand_of lines (Contradiction x) = record { clauses = 0; tags = 0; lines = lines; parts = 0; splits = 1; names = length x.tags.items }
demand_of lines (Parts x) =
    let count = length x.parts.clauses.items in
    record {
      clauses = count;
      tags = count;
      lines = lines + (2 * count + 1);
      parts = count;
      splits = 1;
      names = length x.asserted.tags.items + count;
    }

abbrev pub no_demand : Demand
no_demand = record { clauses = 0; tags = 0; lines = 0; parts = 0; splits = 0; names = 0 }

abbrev pub plus : Demand → Demand → Demand
plus d e = record {
  clauses = d.clauses + e.clauses;
  tags = d.tags + e.tags;
  lines = d.lines + e.lines;
  parts = d.parts + e.parts;
  splits = d.splits + e.splits;
  names = d.names + e.names;
}

-- of several results
abbrev pub total : List Interned → Demand
total [] = no_demand
total (x ∷ xs) = plus x.demand (total xs)
