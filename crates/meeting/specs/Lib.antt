-- Which steps of two states match. Assumes nothing.
pub mod Steps
