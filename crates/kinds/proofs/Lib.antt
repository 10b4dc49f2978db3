pub mod Puts
pub mod Patterns
pub mod Records
pub mod Texts
pub mod Fields
pub mod Places
pub mod Laws
