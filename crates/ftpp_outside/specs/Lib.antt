-- What the clauses of this crate cite.
pub mod Files
pub mod MemShelf
pub mod MemSink
pub mod MemSource
pub mod Steady
pub mod Told
