-- The definitions of sessions.
pub mod Answers
pub mod Calls
pub mod Input
pub mod Output
pub mod Turn
pub mod Session
pub mod Parse
pub mod Failing
pub mod Outbox
pub mod Layout
pub mod Gathered
pub mod TakenUp
pub mod Conversation
pub mod Pending
pub mod HandedOver
pub mod Together
pub mod Stands
