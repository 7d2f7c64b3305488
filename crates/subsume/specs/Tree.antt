-- A tree that divides members by their features.
use Rattle.std.specs.Prelude.{ℕ, suc, ◌+◌, ◌<◌, ◌≤◌, Bool, List, ◌++◌, map, min, slice_index, All}
use Rattle.fol_base.specs.Clause.{TreeClause}
use Rattle.bank_clause.specs.Clause.{clause_at}
use Rattle.bank_clause.specs.declared.member.Member.{Member}
use Rattle.subsume.specs.declared.entry.Entry.{Entry}
use Rattle.subsume.specs.declared.vector.TheConstants.{MEASURES, MOST}
use Rattle.subsume.specs.declared.tree.Node.{Node}
use Rattle.subsume.specs.declared.tree.Node.TheVariants.{Leaf, Branch}
use Rattle.subsume.specs.declared.tree.Division.{Division}
use Rattle.subsume.specs.Features.{measured, literal_measure, slot, AreFeaturesOf}

-- a measure over the literals of a sign, up to the highest value that is told apart
abbrev pub feature : Bool → ℕ → TreeClause → ℕ
feature positive k c = min (measured positive (literal_measure k) c.literals) MOST

abbrev pub member_feature : Bool → ℕ → Member → ℕ
member_feature positive k m = feature positive k (clause_at m.clause)

-- the features are the clause's
abbrev pub IsEntry : Entry → Type 0
IsEntry e = AreFeaturesOf (clause_at e.member.clause).literals e.features.values

abbrev pub members_of : List Entry → List Member
members_of es = map (λ (e : Entry). e.member) es

-- the members on both sides of a division
abbrev pub both_sides : Division → List Member
both_sides d = d.low.0 ++ d.high.0

-- the members of a node, and how many divisions there are
abbrev pub content : Node → List Member × ℕ
content (Leaf entries) = (members_of entries.items, 0)
content (Branch b) = (both_sides b.value, suc (b.value.low.1 + b.value.high.1))

-- a member has no more of any feature
abbrev pub IsBoundedBy : List ℕ → Member → Type 0
IsBoundedBy values m = (positive : Bool) (k : ℕ) → k < MEASURES → member_feature positive k m ≤ slice_index values (slot positive k)

-- a division by a feature: what has no more of it, and what has more, with a bound of the latter's features
pub record IsDivision (d : Division) : Type 0 where
  pub inside : d.measure < MEASURES
  pub low : All (λ m. member_feature d.positive d.measure m ≤ d.most) d.low.0
  pub high : All (λ m. d.most < member_feature d.positive d.measure m) d.high.0
  pub bound : All (IsBoundedBy d.bound.values) d.high.0

abbrev pub IsSound : Node → Type 0
IsSound (Leaf entries) = All IsEntry entries.items
IsSound (Branch b) = IsDivision b.value
