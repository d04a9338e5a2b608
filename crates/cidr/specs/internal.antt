-- What private functions promise each other.
pub mod Reading
pub mod Joined
pub mod Fronts
pub mod Halves
