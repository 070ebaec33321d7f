pub mod Boxed
pub mod Snoc
pub mod Writing
pub mod Sharing
