pub mod Bodies
pub mod JobImports
pub mod JobRules
pub mod NodeImports
pub mod PolicyImports
pub mod Readable
pub mod ZoneImports
