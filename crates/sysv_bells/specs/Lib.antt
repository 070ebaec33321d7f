-- The definitions of the words by which one thread is told of things and woken. They are this
-- project's profile, and no part of POSIX.1-2017.
pub mod Rule
pub mod Steps
pub mod Seats
pub mod Held
pub mod Laws
