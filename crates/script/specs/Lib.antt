pub mod ArgumentError
pub mod Numbers
pub mod Records
pub mod Fields
pub mod Arguments
pub mod Literal
pub mod Rest
