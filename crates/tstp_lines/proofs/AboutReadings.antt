-- What a line's text says: clauses, bindings, names.
pub mod BindingLemmas
pub mod ClauseLemmas
pub mod NumberLemmas
pub mod PartLemmas
pub mod TableLemmas
pub mod WalkLemmas
pub mod WrittenLemmas
