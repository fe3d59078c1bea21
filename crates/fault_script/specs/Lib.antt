-- What the clauses of this crate cite.
pub mod Edited
pub mod Kept
pub mod Held
pub mod Players
pub mod Plays
