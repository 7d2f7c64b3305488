-- Products, and which lists are named.
pub mod NameLemmas
pub mod NamingLemmas
pub mod OccurringLemmas
pub mod PairLemmas
pub mod GivenLemmas
pub mod TakenLemmas
