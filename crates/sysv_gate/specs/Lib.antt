-- The definitions of gates, after Reed and Kanodia. They are this project's profile, and no part of
-- POSIX.1-2017.
pub mod History
pub mod Counts
pub mod Rule
pub mod Steps
pub mod Orders
pub mod Shares
pub mod Tables
pub mod Plays
pub mod Locks
pub mod Laying
pub mod Gates
pub mod Held
pub mod Opened
pub mod Turns
pub mod Refusals
pub mod Waits
pub mod Closings
pub mod Ending
pub mod Laws
