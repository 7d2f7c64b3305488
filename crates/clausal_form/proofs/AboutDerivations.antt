-- Derivations of a form as text.
pub mod RefutationLemmas
pub mod SomeAnswer
pub mod SpelledLemmas
pub mod TextLemmas
