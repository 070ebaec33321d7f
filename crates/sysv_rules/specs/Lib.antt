pub mod Permission
pub mod Qualifies
pub mod Named
pub mod Digits
