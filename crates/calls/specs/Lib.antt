pub mod Bytes
pub mod Lines
pub mod Listed
pub mod Named
pub mod Outcome
pub mod Room
