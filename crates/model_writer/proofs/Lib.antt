-- What is shown of a table (ShownLemmas) and of a cell (CellLemmas), and what the answers say of the problem (LawLemmas).
pub mod CellLemmas
pub mod ShownLemmas
pub mod LawLemmas
