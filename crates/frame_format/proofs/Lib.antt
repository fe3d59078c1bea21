pub mod Parts
pub mod Decoded
pub mod Walks
pub mod Calls
pub mod LikeFrames
pub mod ByField
