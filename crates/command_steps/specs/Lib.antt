-- What the clauses of this crate cite.
pub mod Ends
pub mod Known
pub mod Lines
pub mod Loading
pub mod Migrating
