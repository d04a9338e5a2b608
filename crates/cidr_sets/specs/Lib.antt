-- What has to be believed is the model. The other two are checked and not believed: laws that a definition cites, and
-- what private functions promise each other.
pub mod model
pub mod laws
pub mod internal
