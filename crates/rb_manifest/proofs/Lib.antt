mod ManifestLaws
mod Firsts
pub mod Flawless
mod CleanCallers
pub mod Sound
