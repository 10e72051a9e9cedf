-- The models that ladders and unions stand for, and that both are lawful. Assumes nothing.
pub mod Kinds
pub mod Moved
pub mod Ladders
pub mod Unions
