pub mod Words
pub mod FlagNames
pub mod Octal
pub mod OneSplit
pub mod Splitting
pub mod Deciding
pub mod Readings
pub mod ReadingPairs
