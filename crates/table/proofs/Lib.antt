-- Lemmas on a table's rows and branches, and on the reading of a file. Assumes nothing.
mod Measures
mod Arrays
mod Tables
mod Branches
mod Pushing
mod Turns
