-- Lemmas on the steps of two states. Assumes nothing.
pub mod Firsts
