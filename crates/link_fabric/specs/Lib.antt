-- What the clauses of this crate cite.
pub mod Carrying
pub mod Recorded
pub mod Lies
pub mod Rows
pub mod Ends
