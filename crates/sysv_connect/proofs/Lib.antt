-- The lemmas of clients at a place.
pub mod EndLemmas
