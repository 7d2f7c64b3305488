-- Outcomes stay, nothing comes after an end, what is set aside.
pub mod EndLemmas
pub mod HeavyLemmas
pub mod OutcomeLemmas
