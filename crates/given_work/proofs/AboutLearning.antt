-- What an index learns of a pool's history, from the numbers that changes tell to the clauses of a ticket's job.
pub mod ToldLemmas
pub mod EventLemmas
pub mod LearnedLemmas
pub mod TicketLemmas
