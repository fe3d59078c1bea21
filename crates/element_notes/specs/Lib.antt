pub mod AtHand
pub mod Notes
pub mod Words
