pub mod Places
pub mod OwnTurns
pub mod PassAfterCall
pub mod Passes
pub mod SeatsMade
pub mod ClosedBank
pub mod Crossing
