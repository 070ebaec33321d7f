-- The definitions of worker threads. They are this project's profile, and no part of POSIX.1-2017.
pub mod Parts
pub mod Sources
pub mod Running
pub mod Causes
pub mod Feeding
pub mod Doing
pub mod Teams
