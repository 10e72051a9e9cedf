-- Lemmas on sentence files, their reading and writing, on sets as words, and on what judge answers. Assumes nothing.
pub mod Chains
pub mod Fronts
pub mod Numbers
pub mod Turns
pub mod RoundTrip
pub mod Words
pub mod Gathering
pub mod Shares
pub mod Alike
pub mod Files
pub mod Judgement
pub mod Progress
pub mod Judging
pub mod Outcomes
