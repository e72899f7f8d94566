pub mod Keys
pub mod Tables
pub mod Ways
pub mod Advice
pub mod YamlFaults
pub mod Shapes
