-- What has to be believed: the model, and what calls return and leave. A law that a trait cites is checked and not
-- believed. `Nested` is what private functions promise each other.
pub mod model
pub mod calls
pub mod laws
pub mod Nested
