-- What the laws of this crate cite.
pub mod NodeInRun
pub mod Frames
