pub mod Demands
pub mod GroundList
pub mod GroundLaws
pub mod Examples
pub mod Nodes
pub mod Refuted
pub mod Worked
pub mod Answer
