pub mod ExplainWords
pub mod NextWords
pub mod DemoWords
pub mod Forms
pub mod Lines
pub mod Told
