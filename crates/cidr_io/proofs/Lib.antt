pub mod Reading
pub mod Chains
pub mod Collected
pub mod Feeds
pub mod Cutting
pub mod Controls
pub mod Digits
