pub mod Linking
pub mod Answering
pub mod Sorting
pub mod Ends
pub mod Networks
pub mod Lengths
pub mod DecidingRows
pub mod PermitRows
