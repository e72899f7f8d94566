mod ImportAnswers
mod ImportCalls
mod Pumping
pub mod Acting
pub mod Running
pub mod Silent
pub mod Asking
mod Guests
mod Unreads
mod Visiting
mod ImportRuns
mod HandedOn
