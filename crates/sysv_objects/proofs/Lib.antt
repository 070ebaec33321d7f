pub mod Lists
pub mod Histories
pub mod Lifting
pub mod Placed
pub mod Legality
