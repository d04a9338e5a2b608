-- What has to be believed is the model. The other folder is what private functions promise each other.
pub mod model
pub mod internal
