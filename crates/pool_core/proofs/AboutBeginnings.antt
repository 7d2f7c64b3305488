-- The new pool and its inputs.
pub mod BegunLemmas
pub mod InputLemmas
pub mod LivingLemmas
pub mod StartLemmas
