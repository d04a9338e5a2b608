-- What private functions promise each other.
pub mod Places
pub mod Reached
pub mod Sorting
pub mod LentRows
pub mod CoverStack
