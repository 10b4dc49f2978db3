pub mod Fields
pub mod Turns
pub mod Extents
