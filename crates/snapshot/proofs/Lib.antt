pub mod Timeline
pub mod Snapshots
