pub mod Lines
pub mod Served
pub mod Told
pub mod MadeSockets
