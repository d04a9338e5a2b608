-- What private functions promise each other.
pub mod AddressLists
pub mod Steps
pub mod Edits
pub mod Deciding
