-- The definitions of bounded buffers, after Reed and Kanodia. They are this project's profile, and
-- no part of POSIX.1-2017.
pub mod Ring
pub mod Steps
pub mod Ends
pub mod Held
pub mod Turns
pub mod Refusals
pub mod Laws
pub mod ManyRing
pub mod ManySteps
pub mod ManyTurns
pub mod ManyEnds
pub mod ManyHeld
pub mod ManyLaws
