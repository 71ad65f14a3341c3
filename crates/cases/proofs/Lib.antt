pub mod GlazeCases
pub mod FrameCases
pub mod AnswerCases
pub mod FileCases
pub mod Table
