-- The edits of blocks: bytes of the file give way to others, as a patch says.
pub mod Opened
pub mod Spliced
pub mod BlockPlaces
pub mod Planning
pub mod Filling
pub mod BlockPlans
pub mod ChangePlans
pub mod KindPlans
pub mod ReplacePlans
