pub mod NotedInRuns
pub mod PlayedRuns
