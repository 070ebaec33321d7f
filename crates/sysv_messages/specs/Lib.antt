pub mod Entries
pub mod Selected
pub mod Probes
pub mod Texts
pub mod Kept
pub mod Taking
