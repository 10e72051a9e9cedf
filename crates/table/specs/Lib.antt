-- What a table's rows and branches stand for, and what a model file says. Assumes nothing.
pub mod Arrays
pub mod Format
pub mod File
pub mod NewSteps
pub mod Meaning
pub mod Worked
