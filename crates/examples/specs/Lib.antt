pub mod Draftings
pub mod Editings
pub mod FileM
pub mod Readings
pub mod Refused
pub mod Worked
