pub mod Allowed
pub mod Judging
pub mod Leaves
pub mod OneMore
pub mod OutcomeLemmas
pub mod Places
pub mod Plans
pub mod PlayLemmas
pub mod PlayedLemmas
pub mod ReadBack
pub mod ScriptBack
pub mod ScriptRead
pub mod Rows
pub mod Skips
mod RuleLaws
pub mod Runs
pub mod Sizes
pub mod Scripts
pub mod Splits
pub mod Stretches
pub mod Suffice
pub mod Turns
pub mod Unlike
mod Unread
