-- Faults and their numbers, numbers in bytes, and fields. Assumes nothing.
pub mod Bytes
pub mod Faults
pub mod Fields
