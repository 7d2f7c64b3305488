-- Words after a command, and the values of options.
pub mod WordLemmas
