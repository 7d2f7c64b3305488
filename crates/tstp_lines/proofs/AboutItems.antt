-- What the items of an inference say, and the step that they name.
pub mod ItemLemmas
pub mod StepLemmas
