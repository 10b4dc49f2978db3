pub mod Levels
pub mod Answers
pub mod Laws
pub mod Judged
pub mod Walk
