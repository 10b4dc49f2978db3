pub mod Fill
pub mod Fwin
pub mod Glrm
pub mod Loca
pub mod Rcvi
pub mod Supi
pub mod Time
