-- Steps that are held in place, flows between their targets, what a search reaches, and what a match is answered. Assumes
-- nothing.
pub mod Steps
pub mod Tables
pub mod Reach
pub mod Answers
