-- What a route's origin is by RFC 6811, and what a prefix list permits. Links and Lengths are what private functions
-- promise each other.
pub mod Origins
pub mod PrefixLists
pub mod Links
pub mod Lengths
