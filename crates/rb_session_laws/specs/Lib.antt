pub mod Due
pub mod Origins
pub mod Programs
pub mod Steady
pub mod Statuses
