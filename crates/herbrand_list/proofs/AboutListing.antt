-- The demands in order of arrival: their keys, the places of each line's demands, and their weight; sizes of instances, faults, and the list.
pub mod KeyLemmas
pub mod ArrivalLemmas
pub mod WorkedLemmas
pub mod SizeLemmas
pub mod FaultLemmas
pub mod CodeLemmas
pub mod ListLemmas
pub mod AnswerLemmas
pub mod ConstantLemmas
