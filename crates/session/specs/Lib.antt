pub mod LineCalls
pub mod Names
pub mod Work
