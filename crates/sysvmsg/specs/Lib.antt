-- The definitions of the program.
pub mod Room
pub mod Sockets
pub mod Ends
pub mod Scripts
pub mod Running
