-- What only the contracts of private functions need.
pub mod Headers
pub mod Blocks
