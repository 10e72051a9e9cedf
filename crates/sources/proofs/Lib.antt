-- What the answers on unions share. Assumes nothing.
pub mod Sides
