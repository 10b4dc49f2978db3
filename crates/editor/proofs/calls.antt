-- Calls: what it is to hold a file, and what a call answers and leaves.
pub mod Places
pub mod Held
pub mod Lists
pub mod Done
