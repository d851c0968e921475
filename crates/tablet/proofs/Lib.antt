-- Laws of the definitions.
pub mod Laws
pub mod Given
pub mod Rising
pub mod Telling
