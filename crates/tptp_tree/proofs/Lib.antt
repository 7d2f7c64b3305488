-- A map of the proofs, by topic; what is proved of one function stands in the folder of its module.
-- AboutTrees: sizes and equality of trees.
pub mod AboutTrees
-- AboutNames: names and what is printed for them.
pub mod AboutNames
-- AboutPrinting: what is printed spells again what some text spells.
pub mod AboutPrinting
-- AboutUniqueness: a text spells one thing at most.
pub mod AboutUniqueness
-- AboutLevels: how deep levels are nested.
pub mod AboutLevels
-- by the names that crates above cite
pub use Rattle.tptp_tree.proofs.AboutTrees.SizeLemmas
pub use Rattle.tptp_tree.proofs.AboutNames.NameLemmas
pub use Rattle.tptp_tree.proofs.AboutPrinting.CanonicalLemmas
pub use Rattle.tptp_tree.proofs.AboutPrinting.LexingLemmas
pub use Rattle.tptp_tree.proofs.AboutPrinting.WellLemmas
pub use Rattle.tptp_tree.proofs.AboutUniqueness.UniqueEntries
