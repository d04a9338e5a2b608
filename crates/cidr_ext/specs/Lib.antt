-- What has to be believed: the model, and the strings. The other two are checked and not believed: a law that a trait
-- cites, and what private functions promise each other.
pub mod model
pub mod texts
pub mod laws
pub mod internal
