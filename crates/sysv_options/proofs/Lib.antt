-- The lemmas of the command line.
pub mod WordLemmas
pub mod AskedLemmas
pub mod TimeLemmas
pub mod EntranceLemmas
