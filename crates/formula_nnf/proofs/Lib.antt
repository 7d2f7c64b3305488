-- A map of the proofs, by topic; what is proved of one function stands in the folder of its module.
-- FormLemmas: lists of formulas, as a walk over them works them off.
pub mod FormLemmas
-- NameLemmas: a normal form has the free variables of the formula, though not as often.
pub mod NameLemmas
-- ClauseLemmas: the clauses of a normal form are those of the formula.
pub mod ClauseLemmas
-- CountLemmas: how many clauses the work on a formula gives.
pub mod CountLemmas
-- CappedLemmas: counts that stop at u64's last value come to the same, whether they stop at each step or at the end.
pub mod CappedLemmas
