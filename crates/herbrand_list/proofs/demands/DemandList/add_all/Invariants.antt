use Rattle.std.proofs.Common.{◌≡◌, map}
use Rattle.std.specs.Prelude.{fold}
use Rattle.std.specs.Vec.Iter.{into_iter_items}
use Rattle.herbrand_list.specs.Demands.{with_demand}
use Rattle.herbrand_list.specs.Worked.{listed, demand_of, IsListed}
use Rattle.herbrand_list.proofs.demands.DemandList.add_all.Given as goal

abbrev pub invariant-loop-demand : goal.invariant-loop-demand
invariant-loop-demand l = record {
  is_listed : IsListed l.constant l.lines l.self;
  rest : fold with_demand (listed l.self) (map demand_of (into_iter_items l.demand-iterator))
      ≡ fold with_demand (listed l.initial.self) (map demand_of l.fn.demands);
}
