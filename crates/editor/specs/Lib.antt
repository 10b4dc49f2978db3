pub mod Blocks
pub mod Edits
pub mod Calls
pub mod steps
pub mod Ledger
pub mod Law
pub mod Amending
