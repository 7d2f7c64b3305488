-- A map of the proofs, by topic; what is proved of one function stands in the folder of its module.
-- AboutFiles: files, includes and names.
pub mod AboutFiles
-- AboutReading: reading on from file to file, and how it ends.
pub mod AboutReading
