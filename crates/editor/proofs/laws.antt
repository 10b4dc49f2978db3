-- The readers' law: what each edit keeps, and what follows of it for whole runs.
pub mod Sounds
pub mod Marks
pub mod Agrees
pub mod Looks
pub mod SoundBlocks
pub mod Keeping
pub mod AgreesBlocks
pub mod KeptBlocks
pub mod Kept
pub mod Telling
pub mod ShowsGiven
pub mod EveryRun
pub mod Sessions
