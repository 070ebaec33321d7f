pub mod Came
pub mod LetIn
pub mod AnyOpen
pub mod Last
pub mod Accepted
