-- What private functions promise each other.
pub mod Entries
pub mod LabelReading
