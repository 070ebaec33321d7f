pub mod Orders
pub mod Prefixes
pub mod Counting
pub mod Places
pub mod Sums
