pub mod Node
pub mod Order
pub mod Pairs
pub mod Pick
pub mod Room
pub mod TreeFalls
pub mod QueueLaws
