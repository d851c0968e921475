-- Laws behind the functions' proofs.
pub mod Decimals
pub mod Sizes
pub mod Cut
pub mod Counted
