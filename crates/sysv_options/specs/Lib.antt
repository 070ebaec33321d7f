-- The definitions of the command line.
pub mod Asked
pub mod Words
pub mod Who
pub mod Process
pub mod Tasks
pub mod Sockets
pub mod Servers
pub mod Requests
