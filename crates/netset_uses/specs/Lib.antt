-- Files in memory, and what a run over them has done.
pub mod Runs
pub mod Texts
