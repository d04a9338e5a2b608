-- The compact bytes of values, the error of bytes that are none's, what two networks that agree have in common, and the
-- prefix bytes of networks.
pub mod Compact
pub mod CompactRefusal
pub mod Agreement
pub mod Prefix
