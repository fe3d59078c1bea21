-- What the clauses of this crate cite.
pub mod Audited
pub mod Carries
pub mod Causes
pub mod ClusterLaws
pub mod Commands
pub mod Diagnosing
pub mod Completeness
pub mod Due
pub mod FollowsScript
pub mod Loops
pub mod Playing
pub mod RunOutputs
pub mod Served
pub mod SoakLine
