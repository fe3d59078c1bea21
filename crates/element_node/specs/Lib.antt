-- What the clauses of this crate cite.
pub mod Dialog
pub mod Input
pub mod Node
pub mod Progress
pub mod Whole
