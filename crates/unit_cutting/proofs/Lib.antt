-- A map of the proofs, by topic; what is proved of one function stands in the folder of its module.
-- AboutCuts: cutting a literal by a unit.
pub mod AboutCuts
-- AboutLeaving: literals that leave a clause.
pub mod AboutLeaving
-- IndexedLemmas: the map of units and the tree of their left sides; CutLemmas: where no unit of the set cuts a literal;
-- SubsumerLemmas: units of the set that subsume a clause.
mod IndexedLemmas
mod CutLemmas
mod SubsumerLemmas
