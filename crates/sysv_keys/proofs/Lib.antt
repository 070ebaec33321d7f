pub mod Legality
pub mod States
pub mod Rows
pub mod Known
pub mod Law
pub mod OneLegalReply
pub mod Unused
pub mod Turns
