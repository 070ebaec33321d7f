-- The definitions of frames.
pub mod Numbers
pub mod Frames
pub mod Requests
pub mod Replies
pub mod Faults
pub mod ReplyFaults
pub mod Reading
pub mod OneEncoding
pub mod OneAnswer
pub mod Arrived
