pub mod Bodies
pub mod Retraced
pub mod RetracedLaws
pub mod RetracedExamples
pub mod SplitExamples
pub mod Refuted
pub mod Saturation
pub mod SaturationExamples
