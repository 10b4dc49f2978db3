pub mod Lines
pub mod Misuse
pub mod Verbs
