pub mod Among
pub mod Orders
pub mod RankLaws
pub mod Rows
pub mod Steps
pub mod SubsetLaws
pub mod TierLaws
pub mod Inserted
