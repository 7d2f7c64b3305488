-- The symbols of a form (FormSymbols): tests of symbols (SymbolTests), what is made of a formula (FormulaSymbols); their use (FormUse);
-- refutations made again from their steps (AboutRetracing); lines that can be read again (ReadableLines), and the refutation of a pool (PoolRefutations); names of inferences from their parts
-- (KeyLemmas).
pub mod FormSymbols
pub mod FormulaSymbols
pub mod SymbolTests
pub mod FormUse
pub mod AboutRetracing
mod ReadableLines
mod PoolNames
mod PoolRefutations
mod KeyLemmas
