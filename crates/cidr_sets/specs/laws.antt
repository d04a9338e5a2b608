-- What the orders and walks of the model cite.
pub mod RangeLaws
pub mod PoolLaws
