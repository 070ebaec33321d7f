-- The definitions of the server.
pub mod Listening
pub mod Doors
pub mod LetIn
pub mod Report
pub mod Accepts
pub mod Serving
