-- What has to be believed: the model, the strings, values of either family, and the bytes. The other two are checked
-- and not believed: laws that a type or an order cites, and what private functions promise each other.
pub mod model
pub mod texts
pub mod either
pub mod bytes
pub mod laws
pub mod internal
