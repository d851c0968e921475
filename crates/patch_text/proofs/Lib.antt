-- Laws behind the functions' proofs.
pub mod Texts
pub mod Numbers
pub mod Printed
pub mod Cut
