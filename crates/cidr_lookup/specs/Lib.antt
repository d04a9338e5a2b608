-- What has to be believed: networks as keys, which words are a look-up table, what is wrong with others, which rows are not made
-- ready, and the messages. `Ranges`, `Passing`, `Putting` and `Searching` are what private functions promise each other; `FaultLaws` is checked and
-- not believed.
pub mod Keys
pub mod Nodes
pub mod Tables
pub mod Faults
pub mod FaultLaws
pub mod Rows
pub mod Messages
pub mod Ranges
pub mod Passing
pub mod Putting
pub mod Searching
