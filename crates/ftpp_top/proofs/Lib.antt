-- Lemmas of this crate.
pub mod Again
pub mod Before
pub mod Begun
pub mod Completes
pub mod CycleOfScript
pub mod Diagnosed
pub mod Taken
pub mod Lines
pub mod Loops
pub mod Reporting
pub mod Ending
pub mod Traced
pub mod Swept
pub mod Soaks
pub mod Ended
