-- The children of a node, each as its label and its rows.
use Rattle.std.specs.Prelude.{List, map}
use Rattle.disc_tree.specs.declared.node.Below.{Below}
use Rattle.disc_tree.specs.declared.node.Below.TheVariants.{Branching, Single}
use Rattle.disc_tree.specs.declared.node.Branch.{Branch}
use Rattle.disc_tree.specs.declared.label.Label.{Label}
use Rattle.disc_tree.specs.declared.tail.Labels.{Labels}
use Rattle.disc_tree.specs.declared.tail.Tail.{Tail}
use Rattle.disc_tree.specs.Rows.{Row, Child, all_at, rows}

-- the labels of a tail that are left to read
abbrev pub labels_left : Labels → List Label
labels_left l = l.items.now

-- the entries of a tail, each at the end of the tail's labels
abbrev pub tail_rows : Tail → List Row
tail_rows t = all_at t.labels.items t.entries

abbrev pub rows_below : Below → List Row
rows_below (Branching n) = rows n
rows_below (Single t) = tail_rows t

abbrev pub child_of : Branch → Child
child_of b = (b.label, rows_below b.below)

abbrev pub children_of : List Branch → List Child
children_of bs = map child_of bs
