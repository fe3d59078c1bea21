-- What the clauses of this crate cite.
pub mod Draws
pub mod Acts
pub mod Edits
pub mod Workload
