pub mod Prefix
pub mod Numbers
