pub mod Choices
pub mod Scanned
pub mod PairLaws
pub mod PairCounts
pub mod OldestPair
pub mod Driven
