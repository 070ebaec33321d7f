pub mod Legality
pub mod Sums
pub mod Turns
pub mod OneLegalReply
pub mod Law
pub mod Alike
pub mod Texts
