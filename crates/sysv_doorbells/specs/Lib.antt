-- The definitions of the doorbells on which threads sleep. They are this project's profile, and no
-- part of POSIX.1-2017.
pub mod Rule
pub mod Steps
pub mod Seats
pub mod Held
pub mod Laws
