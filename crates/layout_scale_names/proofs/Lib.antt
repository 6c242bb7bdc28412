pub mod BySharpness
pub mod ScalePlaces
