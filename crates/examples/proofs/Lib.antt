pub mod Computed
pub mod Drafted
pub mod Edited
pub mod Read
mod Told
