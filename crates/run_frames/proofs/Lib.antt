pub mod SentFrames
pub mod TakesComing
pub mod NodeCycle
pub mod NodeRun
pub mod Existing
pub mod Worked
