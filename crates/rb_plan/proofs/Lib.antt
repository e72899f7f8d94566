mod Walks
mod Denied
mod PlanTrees
mod Going
mod Slots
pub mod Accepting
pub mod Served
pub mod Reaching
mod Coming
pub mod Refusing
pub mod Holding
mod Quiet
mod Earlier
mod NoJobs
mod Commands
mod Lowest
mod FoundJobs
mod Told
mod PartNodes
mod SoundNodes
mod SoundRuns
mod Whole
mod SoundCommands
mod Verdicts
pub mod AcceptedSound
pub mod NodeRuns
