pub mod Written
pub mod Turning
pub mod Plain
