-- Raising: what it keeps, answers and leaves.
pub mod RaisedFields
pub mod Raised
pub mod RaisedBytes
pub mod RaisedDone
