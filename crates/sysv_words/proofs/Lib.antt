pub mod Numerals
pub mod FlagLists
pub mod NumeralsOrNot
pub mod FlagsOrNot
pub mod OneValue
