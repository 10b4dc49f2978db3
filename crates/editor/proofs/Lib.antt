pub mod raised
pub mod calls
pub mod patches
pub mod laws
