-- A map of the proofs, by topic; what is proved of one function stands in the folder of its module.
-- FormLemmas: the clauses of a problem's form are inputs of a pool.
mod FormLemmas
-- ToldLemmas: an index that learned what a ticket tells knows the clauses of its job.
mod ToldLemmas
-- StayLemmas: a batch stays right while another job is claimed or given back.
mod StayLemmas
