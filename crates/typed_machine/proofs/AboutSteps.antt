-- One step of the machine.
-- RightSteps: what a symbol takes, it spells. Halts: why a symbol refuses a token. LeftOut: a symbol that may be left out refuses none.
pub mod RightSteps
pub mod Halts
pub mod LeftOut
