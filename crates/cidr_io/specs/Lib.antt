pub mod Writing
pub mod Collecting
pub mod Tracked
pub mod Arguments
pub mod Lines
pub mod Shown
