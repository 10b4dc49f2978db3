pub mod City
pub mod Limit
pub mod Sitd
pub mod Tool
pub mod Zone
