pub mod Keys
pub mod Table
pub mod Overview
pub mod Fields
pub mod Blocks
pub mod Patterns
pub mod Refusal
pub mod Named
