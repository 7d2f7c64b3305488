-- Claims, the solver's job, and jobs that are given up.
pub mod ClaimLemmas
pub mod FitLemmas
pub mod GiveUpLemmas
pub mod LogLemmas
pub mod MemberLemmas
pub mod QuietLemmas
pub mod SolveLemmas
pub mod StateLemmas
