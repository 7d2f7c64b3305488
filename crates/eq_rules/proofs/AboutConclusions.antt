-- What any inference makes: bindings, sizes, the step and its key.
pub mod BindingLemmas
pub mod ConclusionLemmas
pub mod InferenceLists
pub mod KeptLemmas
pub mod MadeLemmas
pub mod OutsizeLemmas
pub mod PremiseLemmas
pub mod RenumberedLemmas
pub mod SideLemmas
pub mod StepLemmas
pub mod WideLemmas
