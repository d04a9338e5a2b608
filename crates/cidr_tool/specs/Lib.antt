pub mod Writing
pub mod Answer
pub mod Command
pub mod Report
pub mod Walking
pub mod Program
