-- Sentence files, what their bytes say and how sentences are written; sets as words, and what judge answers. Assumes nothing.
pub mod Format
pub mod File
pub mod Writing
pub mod Lines
pub mod Words
pub mod Judging
pub mod Worked
