use Rattle.std.proofs.Common.{◌≡◌, take}
use Rattle.std.specs.Prelude.{flat_map, fold}
use Rattle.herbrand_list.specs.Demands.{demanded_by, with_demand, terms_for, step_at}
use Rattle.herbrand_list.specs.Worked.{constant_tree, listed, IsListed}
use Rattle.herbrand_list.proofs.demands.DemandList.work.Given as goal

abbrev pub invariant-loop-index : goal.invariant-loop-index
invariant-loop-index l = record {
  is_listed : IsListed l.constant l.lines l.self;
  so_far : listed l.self ≡ fold with_demand (listed l.initial.self)
      (flat_map (demanded_by (constant_tree l.constant) (step_at l.lines l.number)) (take l.index (terms_for l.number (listed l.initial.self))));
  own : terms_for l.number (listed l.self) ≡ terms_for l.number (listed l.initial.self);
}
