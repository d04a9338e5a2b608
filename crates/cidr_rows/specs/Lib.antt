pub mod Around
pub mod Between
pub mod Lengths
pub mod Moved
