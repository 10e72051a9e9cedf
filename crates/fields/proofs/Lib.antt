-- Lemmas on fields that the crates above share. Assumes nothing.
pub mod Starts
pub mod Held
