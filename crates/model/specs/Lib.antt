-- Words on lists, models and their laws, and what a question is answered. Assumes nothing.
pub mod Lists
pub mod Model
