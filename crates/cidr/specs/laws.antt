-- Laws that a type, an order or a hash cites, each with its proof.
pub mod BitLaws
pub mod NetworkLaws
pub mod HostLaws
pub mod StringLaws
pub mod PairLaws
pub mod DecimalLaws
pub mod HalfLaws
pub mod EqualLaws
pub mod TraitLaws
