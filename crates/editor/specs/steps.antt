-- What only the contracts of private functions need: the steps in which an edit is carried out.
pub mod Patches
pub mod Raising
pub mod Places
