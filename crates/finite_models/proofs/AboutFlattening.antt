-- A clause holds where its flat clause is true for all values in the slots.
pub mod ProperLemmas
pub mod SlotLemmas
pub mod HoldingLemmas
pub mod ReturnLemmas
