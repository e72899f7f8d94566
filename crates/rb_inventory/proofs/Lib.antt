pub mod TagFacts
pub mod AttributeFacts
pub mod NodeSteps
pub mod Lawful
pub mod FirstFaults
pub mod Sound
pub mod Keys
