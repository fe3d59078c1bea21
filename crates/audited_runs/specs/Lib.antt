pub mod ReadBack
pub mod Played
pub mod Audited
pub mod OneAnswer
