use Rattle.std.proofs.Common.{◌≡◌, [], ◌∷◌, length}
use Rattle.herbrand_list.specs.Demands.{all_worked, last_line}
use Rattle.herbrand_list.specs.Worked.{constant_tree, listed, IsListed}
use Rattle.herbrand_list.proofs.demands.DemandList.of_lines.Given as goal

abbrev pub invariant-loop-number : goal.invariant-loop-number
invariant-loop-number l = record {
  is_listed : IsListed l.constant l.lines l.list;
  rest : all_worked (constant_tree l.constant) l.lines l.number (listed l.list)
      ≡ all_worked (constant_tree l.constant) l.lines (length l.lines) (last_line l.lines ∷ []);
}
