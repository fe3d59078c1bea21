pub mod Items
pub mod Judged
pub mod Reading
pub mod Printing
pub mod Playable
