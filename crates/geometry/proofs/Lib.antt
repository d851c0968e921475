-- Laws and theorems of this crate.
pub mod Given
pub mod Parts
pub mod Rows
pub mod Beyond
pub mod Unscored
pub mod Rectifying
pub mod Determined
pub mod Scored
pub mod Marked
