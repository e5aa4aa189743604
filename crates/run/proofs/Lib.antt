pub mod TestedRange
pub mod Turns
pub mod LogLoop
pub mod Taken
pub mod LogAsList
pub mod RunState
pub mod ListRuns
pub mod OneToOne
