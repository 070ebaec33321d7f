-- The definitions of banks. They are this project's profile, and no part of POSIX.1-2017.
pub mod Banks
pub mod Passes
pub mod Resting
pub mod Closing
pub mod Laws
