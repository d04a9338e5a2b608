-- What is read and printed: masks, names in reverse DNS, and what is wrong with a string.
pub mod MaskText
pub mod MaskMessages
pub mod Reverse
pub mod Zones
pub mod TextFaults
