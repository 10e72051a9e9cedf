-- Lemmas on the definitions of models that the crates above share. Assumes nothing.
pub mod Tests
pub mod Elements
pub mod Places
pub mod Greatest
pub mod Laws
