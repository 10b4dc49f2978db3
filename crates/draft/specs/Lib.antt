pub mod Drafts
pub mod Stages
pub mod Law
pub mod steps
