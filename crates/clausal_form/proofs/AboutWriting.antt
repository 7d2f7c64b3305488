-- The written clauses and their loops.
pub mod AgendaLemmas
pub mod FrameLemmas
pub mod LoopLemmas
pub mod StepBinds
pub mod StepLemmas
pub mod WritingLemmas
