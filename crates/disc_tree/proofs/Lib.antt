-- A map of the proofs, by topic; what is proved of one function stands in the folder of its module.
-- AboutPaths: labels, paths and what a tree of nodes holds.
pub mod AboutPaths
-- AboutChanges: an entry put in or taken out.
pub mod AboutChanges
-- AboutQueries: what a query visits and finds.
pub mod AboutQueries
