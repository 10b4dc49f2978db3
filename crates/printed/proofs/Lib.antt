mod MoreFields
mod Reading
