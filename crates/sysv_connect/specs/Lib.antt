-- The definitions of clients at a place.
pub mod Bodies
pub mod Several
pub mod Stats
pub mod Ends
pub mod Links
pub mod Clients
pub mod Visits
pub mod Telling
pub mod Patience
pub mod Purge
pub mod Progress
pub mod Files
