pub mod Kind
pub mod Writing
pub mod Packed
pub mod Ended
pub mod Field
