-- A map of the proofs, by topic; what is proved of one function stands in the folder of its module.
-- Delivered: what a sink has taken, and which writes are left, after one more write of the rest of a text.
mod Delivered
-- Front: reading with a limit in a `u64`.
mod Front
-- Scripted: what no delivery does at a sink that is given its answers.
mod Scripted
-- Untold: what holds of each answer where nothing is told.
mod Untold
