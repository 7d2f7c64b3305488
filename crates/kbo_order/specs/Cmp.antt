-- The meaning of an answer.
use Rattle.std.specs.Prelude.{Bool, true, false}
use Rattle.fol_base.specs.Multiset.{Comparison, greater, less, equal, unordered}
use Rattle.kbo_order.specs.declared.cmp.Cmp.{Cmp}
use Rattle.kbo_order.specs.declared.cmp.Cmp.TheVariants.{Greater, Less, Equal, Unordered}

abbrev pub comparison_of : Cmp → Comparison
comparison_of Greater = greater
comparison_of Less = less
comparison_of Equal = equal
comparison_of Unordered = unordered

abbrev pub is_greater : Cmp → Bool
is_greater Greater = true
is_greater Less = false
is_greater Equal = false
is_greater Unordered = false

abbrev pub is_equal : Cmp → Bool
is_equal Greater = false
is_equal Less = false
is_equal Equal = true
is_equal Unordered = false

-- the answer the other way round
abbrev pub reversed : Cmp → Cmp
reversed Greater = Less
reversed Less = Greater
reversed Equal = Equal
reversed Unordered = Unordered
