-- A map of the proofs, by topic; what is proved of one function stands in the folder of its module.
-- Lists: lemmas on lists: beginnings, entries at places, lists of places, shares.
pub mod Lists
-- Views: lemmas on the views of all seats.
pub mod Views
-- Keeps: each step of a turn keeps the rule of the lock.
pub mod Keeps
-- Passes: so do splits and joins; the beginning and the end.
pub mod Passes
-- Rows: worked rows of the definitions, over entries that are their own keys.
pub mod Rows
