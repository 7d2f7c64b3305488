-- The whole form: symbols, shapes, what it is well formed over.
pub mod FormLemmas
pub mod FunctionLemmas
pub mod LastSymbols
pub mod ResultLemmas
pub mod ShapeLemmas
pub mod SymbolTerms
pub mod WellFormedLemmas
pub mod FormulaSymbols
pub mod SymbolPlaces
