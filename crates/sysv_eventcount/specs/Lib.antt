-- The definitions of eventcounts and sequencers, after Reed and Kanodia. They are this project's
-- profile, and no part of POSIX.1-2017.
pub mod Counter
pub mod Rule
pub mod Laws
pub mod Steps
pub mod Held
pub mod Waits
pub mod Drawn
