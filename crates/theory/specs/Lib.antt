-- Sentences, where they hold and how deep they are; when steps match; what the rounds of a comparison part;
-- and what is proved of them. Assumes nothing.
pub mod Lists
pub mod Sentences
pub mod Matching
pub mod Stages
pub mod Telling
pub mod Laws
pub mod Cases
