pub mod Bodies
pub mod Importing
pub mod JobImports
